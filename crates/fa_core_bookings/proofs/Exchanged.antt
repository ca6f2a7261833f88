-- The calendar's part of the state where places are given up and others booked.
use Rattle.fa_batch_terms.specs.declared.place.Place.{Place}
use Rattle.fa_core_bookings.proofs.Booked.{same_bookings, some_flipped}
use Rattle.fa_core_bookings.specs.Found.{booked_is, get_booked, window_is}
use Rattle.fa_core_bookings.proofs.Placed.{get_over, over_some}
use Rattle.fa_core_bookings.specs.Booked.{Entries, booking_at}
use Rattle.fa_core_bookings.specs.Bookings.{calendar_of}
use Rattle.fa_core_bookings.specs.Places.{booked_over, without_places}
use Rattle.fa_core_bookings.specs.declared.bookings.Bookings.{Bookings}
use Rattle.fa_calendar.specs.Calendar.{is_booked, is_closed, is_closed_without, window_of}
use Rattle.fa_calendar.specs.Dies.{is_at}
use Rattle.fa_calendar.specs.declared.calendar.Calendar.{Calendar}
use Rattle.fa_machine.proofs.Maps.{get-keep, passed, place_cmp_total, place_same}
use Rattle.fa_machine.specs.Maps.{keep, place_cmp}
use Rattle.fa_machine.specs.Reading.{booked}
use Rattle.fa_machine.specs.Rounds.{is_taken, is_taken_with}
use Rattle.fa_machine.specs.declared.ids.BatchId.{BatchId}
use Rattle.fa_machine.specs.declared.places.Booking.{Booking}
use Rattle.fa_types.specs.Open.{IsOpen}
use Rattle.fa_types.specs.Windows.{IsFull, is_in_window}
use Rattle.std.proofs.Common.{Bool, List, None, Option, Some, ap, false, refl, subst, sym, true, ℕ, ◌∙◌, ◌≡◌}
use Rattle.std.specs.FinMap.{contains_key, from_entries, get}
use Rattle.std.specs.List.{AllByRecursion}
use Rattle.std.specs.Prelude.{if◌then◌else◌, is_some, not, ◌&&◌, ◌||◌}

-- what is found in a finite map without some places
pub get_without : (places : List Place) (es : Entries) (d r : ℕ)
    → get (keep (λ place booking. not (is_at places place.0 place.1)) (from_entries {R = place_cmp} es)) (d, r)
    ≡ (if is_at places d r then None else booking_at es d r)
get_without places es d r =
    get-keep place_cmp_total place_same (λ place booking. not (is_at places place.0 place.1)) (from_entries es) (d, r)
    ∙ ap (passed (λ booking. not (is_at places d r))) (get_booked es d r) ∙ go (is_at places d r) (booking_at es d r)
  where
    go : (t : Bool) (o : Option Booking) → passed (λ x. not t) o ≡ (if t then None else o)
    go true None = refl
    go true (Some x) = refl
    go false None = refl
    go false (Some x) = refl

flip : (a b : Bool) → (a && b) ≡ (b && a)
flip true true = refl
flip true false = refl
flip false true = refl
flip false false = refl

swap_last : (a n w : Bool) → ((a || n) || w) ≡ ((a || w) || n)
swap_last true n w = refl
swap_last false true true = refl
swap_last false true false = refl
swap_last false false true = refl
swap_last false false false = refl

module _ {A : Type 0} (b : Bookings A) (old : List Place) where
  abbrev pub es : Entries
  es = b.booked.entries

  -- what is left of what is found
  abbrev pub rest : ℕ → ℕ → Option Booking
  rest d r = if is_at old d r then None else booking_at es d r

  pub all_booked : AllByRecursion (λ x. contains_key (calendar_of b).bookings (x.die.0, x.round.0) ≡ true) old
      → AllByRecursion (λ x. is_booked b.calendar x.die.0 x.round.0 ≡ true) old
  all_booked =
      subst (λ (f : ℕ → ℕ → Bool). AllByRecursion (λ x. f x.die.0 x.round.0 ≡ true) old) (λ i die round. sym (booked_is b die round) i)

  rest_is : (d r : ℕ) → (is_booked b.calendar d r && not (is_at old d r)) ≡ is_some (rest d r)
  rest_is d r =
      ap (λ t. t && not (is_at old d r)) (b.agree d r) ∙ flip (is_some (booking_at es d r)) (not (is_at old d r))
      ∙ sym (some_flipped (is_at old d r) (booking_at es d r))

  without_at : (d r : ℕ) → is_closed_without b.calendar old d r ≡ is_taken (without_places old (calendar_of b)) d r
  without_at d r i = (rest_is d r ∙ sym (ap is_some (get_without old es d r))) i || is_in_window (window_is b d i) r

  pub without_is : is_closed_without b.calendar old ≡ is_taken (without_places old (calendar_of b))
  without_is i d r = without_at d r i

  pub all_open : (new : List Place)
      → AllByRecursion (λ x. IsOpen (calendar_of b).round (is_taken (without_places old (calendar_of b))) x.die.0 x.round.0) new
      → AllByRecursion (λ x. IsOpen b.calendar.current (is_closed_without b.calendar old) x.die.0 x.round.0) new
  all_open new = subst (λ (f : ℕ → ℕ → Bool). AllByRecursion (λ x. IsOpen b.calendar.current f x.die.0 x.round.0) new) (sym without_is)

  pub full_with : (new : List Place)
      → ((die : ℕ) × IsFull b.calendar.current (λ round. is_closed_without b.calendar old die round || is_at new die round) 0)
      → ((die : ℕ) × IsFull (calendar_of b).round (is_taken_with (without_places old (calendar_of b)) new die) 0)
  full_with new =
      subst (λ (f : ℕ → ℕ → Bool). (die : ℕ) × IsFull b.calendar.current (λ round. f die round || is_at new die round) 0) without_is

  -- the bookings where the places are gone
  pub gone : (final : Entries) → ((d r : ℕ) → booking_at final d r ≡ rest d r)
      → from_entries {R = place_cmp} final ≡ keep (λ place booking. not (is_at old place.0 place.1)) (from_entries es)
  gone final is = same_bookings _ _ (λ d r. get_booked final d r ∙ is d r ∙ sym (get_without old es d r))

  pub swept_agree : (swept : Entries) (now : ℕ → ℕ → Bool)
      → ((d r : ℕ) → now d r ≡ (is_booked b.calendar d r && not (is_at old d r)))
      → ((d r : ℕ) → booking_at swept d r ≡ rest d r) → (d r : ℕ) → now d r ≡ is_some (booking_at swept d r)
  swept_agree swept now is left d r = is d r ∙ rest_is d r ∙ sym (ap is_some (left d r))

  -- places were booked in place of others
  module _ (new : List Place) (now : ℕ → ℕ → Bool)
      (is : (d r : ℕ) → now d r ≡ ((is_booked b.calendar d r && not (is_at old d r)) || is_at new d r)) where
    pub taken_with : (calendar : Calendar A) → ((d r : ℕ) → is_booked calendar d r ≡ now d r)
        → ((d : ℕ) → window_of calendar d ≡ window_of b.calendar d)
        → is_closed calendar ≡ is_taken_with (without_places old (calendar_of b)) new
    taken_with calendar booked windows i d r = point d r i
      where
        point : (d r : ℕ) → is_closed calendar d r ≡ is_taken_with (without_places old (calendar_of b)) new d r
        point d r =
            (λ i. (booked d r ∙ is d r) i || is_in_window (windows d i) r)
            ∙ swap_last (is_booked b.calendar d r && not (is_at old d r)) (is_at new d r) (is_in_window (window_of b.calendar d) r)
            ∙ ap (λ t. t || is_at new d r) (without_at d r)

    module _ (batch : BatchId) (roomed swept final : Entries) (same : (d r : ℕ) → booking_at roomed d r ≡ booking_at es d r)
        (out : (d r : ℕ) → booking_at swept d r ≡ (if is_at old d r then None else booking_at roomed d r))
        (over : (d r : ℕ) → booking_at final d r ≡ booked_over batch new d r (booking_at swept d r)) where
      final_is : (d r : ℕ) → booking_at final d r ≡ booked_over batch new d r (rest d r)
      final_is d r =
          over d r ∙ ap (booked_over batch new d r) (out d r ∙ ap (λ o. if is_at old d r then None else o) (same d r))

      pub exchanged : from_entries {R = place_cmp} final ≡ (booked batch new (without_places old (calendar_of b))).bookings
      exchanged =
          same_bookings _ _ (λ d r. get_booked final d r ∙ final_is d r ∙ ap (booked_over batch new d r) (sym (get_without old es d r))
          ∙ sym (get_over batch new (without_places old (calendar_of b)).bookings d r))

      pub exchanged_agree : (d r : ℕ) → now d r ≡ is_some (booking_at final d r)
      exchanged_agree d r =
          is d r ∙ ap (λ t. t || is_at new d r) (rest_is d r) ∙ turn (is_some (rest d r)) (is_at new d r)
          ∙ sym (over_some batch new d r (rest d r)) ∙ sym (ap is_some (final_is d r))
        where
          turn : (a n : Bool) → (a || n) ≡ (n || a)
          turn true true = refl
          turn true false = refl
          turn false true = refl
          turn false false = refl

pub bookings_stay : (a b : Entries) → ((d r : ℕ) → booking_at b d r ≡ booking_at a d r) → from_entries {R = place_cmp} b ≡ from_entries a
bookings_stay a b same = same_bookings _ _ (λ d r. get_booked b d r ∙ same d r ∙ sym (get_booked a d r))
