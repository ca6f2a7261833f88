-- Calendars without places of a batch.
use Rattle.fa_batch_terms.specs.declared.place.Place.{Place}
use Rattle.fa_core_batches.specs.Batches.{state_of}
use Rattle.fa_core_batches.specs.declared.batches.Batches.{Batches}
use Rattle.fa_core_bookings.specs.Places.{without_places}
use Rattle.fa_calendar.specs.Dies.{is_at}
use Rattle.fa_machine.proofs.Maps.{get-keep, passed, place_cmp_total, place_same}
use Rattle.fa_machine.specs.Maps.{is_one_of, place_cmp}
use Rattle.fa_machine.specs.Reading.{released}
use Rattle.fa_machine.specs.State.{CalendarState}
use Rattle.fa_machine.specs.declared.jobs.Flight.{Flight}
use Rattle.fa_machine.specs.declared.places.Booking.{Booking}
use Rattle.fa_core_read.proofs.Tracked.{at_booked, booked_at}
use Rattle.fa_core_read_pages.specs.Left.{places_among}
use Rattle.fa_core_state.specs.Tracked.{AreTracked, unstarted}
use Rattle.std.proofs.Common.{Bool, List, None, Option, Some, [], ap, cond, eq-eqb, false, refl, sym, true, ℕ, ◌∙◌, ◌≡◌}
use Rattle.std.proofs.lemmas.Bool.{eqb-true, false≢true}
use Rattle.std.proofs.lemmas.Option.{same_Some}
use Rattle.std.specs.FinMap.{FinMap, get, same_map}
use Rattle.std.specs.Ordering.{nat_cmp}
use Rattle.std.specs.Prelude.{is_some, not, ◌==◌, ◌||◌}

pub same_bookings : (m n : FinMap place_cmp Booking) → ((d r : ℕ) → get m (d, r) ≡ get n (d, r)) → m ≡ n
same_bookings m n alike = same_map place_cmp_total place_same m n (λ q. alike q.0 q.1)

-- without no place it is as it was
pub without_none : (calendar : CalendarState) → without_places [] calendar ≡ calendar
without_none calendar =
    ap (λ bookings. record calendar { bookings = bookings })
    (same_bookings (without_places [] calendar).bookings calendar.bookings (λ d r.
    get-keep place_cmp_total place_same (λ place booking. not (is_at [] place.0 place.1)) calendar.bookings (d, r)
    ∙ all (get calendar.bookings (d, r))))
  where
    all : (o : Option Booking) → passed (λ booking. true) o ≡ o
    all None = refl
    all (Some b) = refl

-- without the places that are booked for a batch's pages, its bookings that were not started are released
module _ {A : Type 0} (batches : Batches A) (calendar : CalendarState) (jobs : FinMap nat_cmp Flight)
    (tracked : AreTracked calendar.bookings jobs batches) (batch : ℕ) (pages : List ℕ)
    (whole : (p : ℕ) → is_one_of pages p ≡ is_some (state_of batches batch p)) where
  abbrev places : List Place
  places = places_among (state_of batches batch) pages

  same_test : (d r : ℕ) (b : Booking) → get calendar.bookings (d, r) ≡ Some b
      → not (is_at places d r) ≡ (b.started || not (b.batch.0 == batch))
  same_test d r b is = go (is_at places d r) refl b.started refl (b.batch.0 == batch) refl
    where
      go : (t : Bool) → is_at places d r ≡ t → (s : Bool) → b.started ≡ s → (n : Bool) → (b.batch.0 == batch) ≡ n → not t ≡ (s || not n)
      go true at s started n named =
          let mine = booked_at (state_of batches batch) pages d r at in
          let same = same_Some _ _ (sym is ∙ tracked.known batch mine.page (record { 0 = d }) (record { 0 = r }) mine.is) in
          sym ((λ i. sym started i || not (sym named i)) ∙ (λ i. (same i).started || not ((same i).batch.0 == batch))
          ∙ ap not (eq-eqb batch batch refl))
      go false at true started n named = refl
      go false at false started false named = refl
      go false at false started true named =
          let one : get calendar.bookings (d, r) ≡ Some (unstarted batch b.page.0) =
          is ∙ (λ i. Some (record { batch = record { 0 = eqb-true b.batch.0 batch named i }; page = b.page; started = started i })) in
          let mine = tracked.booked d r batch b.page.0 one in
          absurd (false≢true (sym at
          ∙ at_booked (state_of batches batch) pages b.page.0 (record { 0 = d }) (record { 0 = r })
          (whole b.page.0 ∙ ap is_some mine) mine))

  same_found : (d r : ℕ) (o : Option Booking) → get calendar.bookings (d, r) ≡ o
      → passed (λ booking. not (is_at places d r)) o ≡ passed (λ booking. booking.started || not (booking.batch.0 == batch)) o
  same_found d r None is = refl
  same_found d r (Some b) is = ap (λ t. cond t (Some b) None) (same_test d r b is)

  pub released_is : without_places places calendar ≡ released batch calendar
  released_is =
      ap (λ bookings. record calendar { bookings = bookings })
      (same_bookings (without_places places calendar).bookings (released batch calendar).bookings (λ d r.
      get-keep place_cmp_total place_same (λ place booking. not (is_at places place.0 place.1)) calendar.bookings (d, r)
      ∙ same_found d r (get calendar.bookings (d, r)) refl
      ∙ sym (get-keep place_cmp_total place_same (λ place booking. booking.started || not (booking.batch.0 == batch)) calendar.bookings
      (d, r))))
