-- What a calendar has where a plan was booked in place of another.
use Rattle.fa_batch_terms.specs.declared.place.Place.{Place}
use Rattle.fa_core_batches.specs.declared.page.PageState.{PageState}
use Rattle.fa_core_batches.specs.declared.page.PageState.TheVariants.{Answered, Booked, InFlight, Torn}
use Rattle.fa_core_bookings.proofs.Placed.{get_over, here_is}
use Rattle.fa_core_bookings.specs.Places.{booked_over, booking_of, without_places}
use Rattle.fa_calendar.specs.Dies.{is_at, is_one}
use Rattle.fa_machine.proofs.Maps.{get-keep, passed, place_cmp_total, place_same}
use Rattle.fa_machine.specs.Among.{Among}
use Rattle.fa_machine.specs.Maps.{place_cmp}
use Rattle.fa_machine.specs.Reading.{booked}
use Rattle.fa_machine.specs.Rounds.{is_taken}
use Rattle.fa_machine.specs.State.{CalendarState}
use Rattle.fa_machine.specs.declared.ids.BatchId.{BatchId}
use Rattle.fa_machine.specs.declared.places.Booking.{Booking}
use Rattle.fa_core_read.proofs.Last.{Found, NotFound, last_of}
use Rattle.fa_core_read_pages.specs.Left.{place_in, places_among}
use Rattle.fa_core_state.specs.Tracked.{unstarted}
use Rattle.fa_types.specs.Open.{IsOpen}
use Rattle.fa_types.specs.declared.numbers.Die.{Die}
use Rattle.fa_types.specs.declared.numbers.Round.{Round}
use Rattle.std.proofs.Common.{Bool, List, None, Option, Some, [], ap, false, inl, inr, refl, subst, sym, true, ℕ, ◌<◌, ◌∙◌, ◌∷◌, ◌≡◌, ◌⊎◌}
use Rattle.std.proofs.lemmas.Bool.{false≢true, or_parts}
use Rattle.std.specs.FinMap.{FinMap, contains_key, get}
use Rattle.std.specs.List.{AllByRecursion, cons_option}
use Rattle.std.specs.Prelude.{is_some, not}

pub among_all : {X : Type 0} (P : X → Type 0) (xs : List X) → AllByRecursion P xs → (x : X) → Among x xs → P x
among_all P [] all x among = absurd among
among_all P (y ∷ xs) all x (inl same) = subst P same all.0
among_all P (y ∷ xs) all x (inr later) = among_all P xs all.1 x later

-- the places that are booked for some pages are booked in the calendar
pub places_booked : (bookings : FinMap place_cmp Booking) (batch : ℕ) (state : ℕ → Option PageState) (pages : List ℕ)
    → ((page : ℕ) (die : Die) (round : Round) → state page ≡ Some (Booked die round) → get bookings (die.0, round.0)
    ≡ Some (unstarted batch page))
    → AllByRecursion (λ (x : Place). contains_key bookings (x.die.0, x.round.0) ≡ true) (places_among state pages)
places_booked bookings batch state [] known = tt
places_booked bookings batch state (p ∷ pages) known = go (state p) refl (places_booked bookings batch state pages known)
  where
    go : (o : Option PageState) → state p ≡ o
        → AllByRecursion (λ (x : Place). contains_key bookings (x.die.0, x.round.0) ≡ true) (places_among state pages)
        → AllByRecursion (λ (x : Place). contains_key bookings (x.die.0, x.round.0)
        ≡ true) (cons_option (place_in p o) (places_among state pages))
    go None is rest = rest
    go (Some Answered) is rest = rest
    go (Some (InFlight die)) is rest = rest
    go (Some Torn) is rest = rest
    go (Some (Booked die round)) is rest = (ap is_some (known p die round is), rest)

module _ (calendar : CalendarState) (old : List Place) where
  -- what is found where a plan was booked
  pub found_after : (batch : BatchId) (new : List Place) (d r : ℕ) → get (booked batch new (without_places old calendar)).bookings (d, r)
      ≡ booked_over batch new d r (passed (λ booking. not (is_at old d r)) (get calendar.bookings (d, r)))
  found_after batch new d r =
      get_over batch new (without_places old calendar).bookings d r
      ∙ ap (booked_over batch new d r)
      (get-keep place_cmp_total place_same (λ place booking. not (is_at old place.0 place.1)) calendar.bookings (d, r))

  -- a place that is open then was not booked, or is given up
  pub free_place : (x : Place) → IsOpen calendar.round (is_taken (without_places old calendar)) x.die.0 x.round.0
      → is_some (get calendar.bookings (x.die.0, x.round.0)) ≡ true → is_at old x.die.0 x.round.0 ≡ true
  free_place x opens some = go (is_at old x.die.0 x.round.0) refl (get calendar.bookings (x.die.0, x.round.0)) refl
    where
      none : is_some (passed (λ booking. not (is_at old x.die.0 x.round.0)) (get calendar.bookings (x.die.0, x.round.0))) ≡ false
      none =
          sym (ap is_some (get-keep place_cmp_total place_same (λ place booking. not (is_at old place.0 place.1)) calendar.bookings
          (x.die.0, x.round.0)))
          ∙ (or_parts (contains_key (without_places old calendar).bookings (x.die.0, x.round.0)) _ opens.1).0

      go : (t : Bool) → is_at old x.die.0 x.round.0 ≡ t → (o : Option Booking) → get calendar.bookings (x.die.0, x.round.0) ≡ o → t ≡ true
      go true at o is = refl
      go false at None is = absurd (false≢true (sym (ap is_some is) ∙ some))
      go false at (Some b) is =
          absurd (false≢true (sym none ∙ (λ i. is_some (passed (λ booking. not (at i)) (is i)))))

  -- where all bookings were on dies of the array, and a plan's places are, they are so once it is booked
  pub booked_inside : (batch : BatchId) (new : List Place) (dies : ℕ)
      → ((d r : ℕ) → contains_key calendar.bookings (d, r) ≡ true → d < dies) → ((x : Place) → Among x new → x.die.0 < dies)
      → (now : CalendarState) → now ≡ booked batch new (without_places old calendar)
      → (d r : ℕ) → contains_key now.bookings (d, r) ≡ true → d < dies
  booked_inside batch new dies before low now is d r some = go (last_of (λ x. is_one x d r) (booking_of batch) new left)
    where
      left : Option Booking
      left = passed (λ booking. not (is_at old d r)) (get calendar.bookings (d, r))

      there : is_some (booked_over batch new d r left) ≡ true
      there =
          sym (ap is_some (ap (λ (k : CalendarState). get k.bookings (d, r)) is ∙ found_after batch new d r)) ∙ some

      was : (o : Option Booking) → is_some (passed (λ booking. not (is_at old d r)) o) ≡ true → is_some o ≡ true
      was None is = absurd (false≢true is)
      was (Some b) is = refl

      go : Found (λ x. is_one x d r) (booking_of batch) new left ⊎ NotFound (λ x. is_one x d r) (booking_of batch) new left → d < dies
      go (inl x) = subst (λ n. n < dies) (here_is x.place d r x.passes).0 (low x.place x.among)
      go (inr none) = before d r (was (get calendar.bookings (d, r)) (sym (ap is_some none.is) ∙ there))
