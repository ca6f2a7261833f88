-- The bookings once the one of this round is dropped, unless it was started.
use Rattle.fa_machine.proofs.Maps.{get-keep, passed, place_cmp_total, place_itself, place_same, place_tied}
use Rattle.fa_machine.specs.Maps.{keep, place_cmp}
use Rattle.fa_machine.specs.declared.places.Booking.{Booking}
use Rattle.std.proofs.Common.{Bool, None, Option, Some, ap, cond, eqb-true, false, inl, inr, refl, sym, true, ℕ, ◌∙◌, ◌≡◌}
use Rattle.std.proofs.lemmas.Bool.{and_parts, cases_Bool, false_from_ne_true}
use Rattle.std.specs.FinMap.{FinMap, get, get-remove, remove, same_map}
use Rattle.std.specs.Ordering.{eq_by_cmp, is_eq}
use Rattle.std.specs.Prelude.{if◌then◌else◌, not, ◌&&◌, ◌==◌, ◌||◌}

abbrev pub stays : ℕ → ℕ → ℕ × ℕ → Booking → Bool
stays die round place b = not (place.0 == die && place.1 == round) || b.started

elsewhere : (o : Option Booking) → passed (λ b. not false || b.started) o ≡ o
elsewhere None = refl
elsewhere (Some b) = refl

module _ (m : FinMap place_cmp Booking) (die round : ℕ) where
  at_place : (q : ℕ × ℕ) → (q.0 == die && q.1 == round) ≡ true → get m q ≡ get m (die, round)
  at_place q here =
      let parts = and_parts (q.0 == die) (q.1 == round) here in
      let die_is = eqb-true q.0 die parts.0 in let round_is = eqb-true q.1 round parts.1 in
      (λ i. get m (die_is i, round_is i))

  pub dropped : (b : Booking) → get m (die, round) ≡ Some b → b.started ≡ false → keep (stays die round) m ≡ remove m (die, round)
  dropped b booked waits = same_map place_cmp_total place_same (keep (stays die round) m) (remove m (die, round)) (λ q.
      get-keep place_cmp_total place_same (stays die round) m q ∙ go q ∙ sym (get-remove place_cmp_total m (die, round) q))
    where
      go : (q : ℕ × ℕ) → passed (stays die round q) (get m q) ≡ cond (eq_by_cmp place_cmp q (die, round)) None (get m q)
      go q = elim (cases_Bool (q.0 == die && q.1 == round)) [
        | inl here ↦
            ap (passed (stays die round q)) (at_place q here ∙ booked)
            ∙ (λ i. if not (here i) || waits i then Some b else None)
            ∙ sym (ap (λ t. cond t None (get m q)) (place_tied q (die, round) ∙ here))
        | inr away ↦
            ap (λ t. passed (λ b. not t || b.started) (get m q)) away ∙ elsewhere (get m q)
            ∙ sym (ap (λ t. cond t None (get m q)) (place_tied q (die, round) ∙ away))
      ]

  pub left_alone : ((b : Booking) → get m (die, round) ≡ Some b → b.started ≡ true) → keep (stays die round) m ≡ m
  left_alone began = same_map place_cmp_total place_same (keep (stays die round) m) m (λ q.
      get-keep place_cmp_total place_same (stays die round) m q ∙ go q)
    where
      kept : (t : Bool) (o : Option Booking) → ((b : Booking) → o ≡ Some b → b.started ≡ true) → passed (λ b. not t || b.started) o ≡ o
      kept t None is = refl
      kept true (Some b) is = ap (λ s. if s then Some b else None) (is b refl)
      kept false (Some b) is = refl

      go : (q : ℕ × ℕ) → passed (stays die round q) (get m q) ≡ get m q
      go q = elim (cases_Bool (q.0 == die && q.1 == round)) [
        | inl here ↦ kept (q.0 == die && q.1 == round) (get m q) (λ b is. began b (sym (at_place q here) ∙ is))
        | inr away ↦ ap (λ t. passed (λ b. not t || b.started) (get m q)) away ∙ elsewhere (get m q)
      ]

  -- what is found once a booking is taken out
  pub not_there : get (remove m (die, round)) (die, round) ≡ None
  not_there =
      get-remove place_cmp_total m (die, round) (die, round)
      ∙ ap (λ r. cond (is_eq r) None (get m (die, round))) (place_itself (die, round))

  pub others_there : (d r : ℕ) → (d ≡ die → r ≡ round → ⊥) → get (remove m (die, round)) (d, r) ≡ get m (d, r)
  others_there d r apart =
      get-remove place_cmp_total m (die, round) (d, r)
      ∙ ap (λ t. cond t None (get m (d, r))) (place_tied (d, r) (die, round) ∙ false_from_ne_true (d == die && r == round) (λ here.
      let parts = and_parts (d == die) (r == round) here in apart (eqb-true d die parts.0) (eqb-true r round parts.1)))
