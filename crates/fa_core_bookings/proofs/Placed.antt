-- Places that get bookings, one after the other.
use Rattle.fa_batch_terms.specs.declared.place.Place.{Place}
use Rattle.fa_core_bookings.proofs.Booked.{here_tied}
use Rattle.fa_core_bookings.specs.Places.{booked_over, booking_of}
use Rattle.fa_calendar.specs.Dies.{is_at, is_one}
use Rattle.fa_machine.proofs.Maps.{place_cmp_total}
use Rattle.fa_machine.specs.Maps.{place_cmp}
use Rattle.fa_machine.specs.declared.ids.BatchId.{BatchId}
use Rattle.fa_machine.specs.declared.places.Booking.{Booking}
use Rattle.std.proofs.Common.{Bool, List, Option, Some, [], ap, cond, eqb-true, false, refl, sym, true, ℕ, ◌∙◌, ◌∷◌, ◌≡◌}
use Rattle.std.proofs.lemmas.Bool.{and_parts}
use Rattle.std.specs.FinMap.{FinMap, get, get-insert, insert}
use Rattle.std.specs.Prelude.{fold, if◌then◌else◌, is_some, ◌==◌, ◌||◌}

-- two numbers that are those of a place
pub here_is : (x : Place) (d r : ℕ) → is_one x d r ≡ true → (x.die.0 ≡ d) × (x.round.0 ≡ r)
here_is x d r here =
    let parts = and_parts (x.die.0 == d) (x.round.0 == r) here in
    (eqb-true x.die.0 d parts.0, eqb-true x.round.0 r parts.1)

module _ (batch : BatchId) where
  pub over_some : (places : List Place) (d r : ℕ) (o : Option Booking)
      → is_some (booked_over batch places d r o) ≡ (is_at places d r || is_some o)
  over_some [] d r o = refl
  over_some (x ∷ places) d r o =
      over_some places d r (if is_one x d r then Some (booking_of batch x) else o) ∙ go (is_one x d r) (is_at places d r) o
    where
      go : (t n : Bool) (o : Option Booking) → (n || is_some (if t then Some (booking_of batch x) else o)) ≡ ((t || n) || is_some o)
      go true true o = refl
      go true false o = refl
      go false n o = refl

  -- what is found where places were booked in a finite map
  pub get_over : (places : List Place) (m : FinMap place_cmp Booking) (d r : ℕ)
      → get (fold (λ bookings x. insert bookings (x.die.0, x.round.0) (booking_of batch x)) m places) (d, r)
      ≡ booked_over batch places d r (get m (d, r))
  get_over [] m d r = refl
  get_over (x ∷ places) m d r =
      get_over places (insert m (x.die.0, x.round.0) (booking_of batch x)) d r
      ∙ ap (booked_over batch places d r)
      (get-insert place_cmp_total m (x.die.0, x.round.0) (booking_of batch x) (d, r)
      ∙ ap (λ t. cond t (Some (booking_of batch x)) (get m (d, r))) (sym (here_tied x.die.0 x.round.0 d r)))
