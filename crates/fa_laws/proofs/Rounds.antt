-- How many rounds of a die are closed: no more than the bookings and the rounds of its window.
use Rattle.fa_closed.proofs.Windows.{rounds_that-from, rounds_that-none}
use Rattle.fa_batch_terms.specs.declared.place.Place.{Place}
use Rattle.fa_machine.proofs.Maps.{if_equal, place_same}
use Rattle.fa_machine.specs.Maps.{place_cmp}
use Rattle.fa_machine.specs.declared.places.Booking.{Booking}
use Rattle.fa_types.specs.Open.{rounds_that}
use Rattle.fa_types.specs.Windows.{is_in_window, window_rounds}
use Rattle.fa_types.specs.declared.window.Window.{Window as WindowOf}
use Rattle.std.proofs.Common.{Bool, List, None, Option, Some, [], ap, arith, cond, eqb-true, false, inl, inr, length, refl, suc, sym, true, zero, ℕ, ◌+◌, ◌∷◌, ◌≡◌, ◌≤◌}
use Rattle.std.proofs.lemmas.Bool.{and_parts, cases_Bool, false_from_ne_true}
use Rattle.std.specs.FinMap.{find as find_entry}
use Rattle.std.specs.List.{list_any}
use Rattle.std.specs.Ordering.{eq_by_cmp}
use Rattle.std.specs.Prelude.{is_some, ◌&&◌, ◌||◌, ◌==◌}

bit_or : (a b : Bool) → cond {A = ℕ} (a || b) 1 0 ≤ cond {A = ℕ} a 1 0 + cond {A = ℕ} b 1 0
bit_or true b = omega arith
bit_or false b = omega arith

pub rounds_or : (p q : ℕ → Bool) (first n : ℕ) → rounds_that (λ r. p r || q r) first n ≤ rounds_that p first n + rounds_that q first n
rounds_or p q first zero = omega arith
rounds_or p q first (suc n) = let head = bit_or (p first) (q first) in let rest = rounds_or p q (suc first) n in omega (arith, head, rest)

-- a test that only one round passes
one_round : (p : ℕ → Bool) (k : ℕ) → ((r : ℕ) → p r ≡ true → r ≡ k) → (first n : ℕ) → rounds_that p first n ≤ 1
one_round p k only first zero = omega arith
one_round p k only first (suc n) =
    elim (cases_Bool (p first)) [
      | inl here ↦
          let at = only first here in
          let rest = rounds_that-none p (suc first) n (λ r low high. false_from_ne_true (p r) (λ t. let other = only r t in absurd (omega (arith, low, at, other)))) in
          let head = ap (λ b. cond {A = ℕ} b 1 0) here in
          omega (arith, head, rest)
      | inr away ↦
          let rest = one_round p k only (suc first) n in
          let head = ap (λ b. cond {A = ℕ} b 1 0) away in
          omega (arith, head, rest)
    ]

some_or : {X : Type 0} (b : Bool) (x : X) (o : Option X) → is_some (cond b (Some x) o) ≡ (b || is_some o)
some_or true x o = refl
some_or false x o = refl

pub booked_rounds : (bookings : List ((ℕ × ℕ) × Booking)) (die first n : ℕ)
    → rounds_that (λ r. is_some (find_entry place_cmp (die, r) bookings)) first n ≤ length bookings
booked_rounds [] die first n = let none = rounds_that-none (λ r. false) first n (λ r low high. refl) in omega (arith, none)
booked_rounds (x ∷ xs) die first n =
    let split = ap (λ (p : ℕ → Bool). rounds_that p first n) (λ i r. some_or (eq_by_cmp place_cmp (die, r) x.0) x.1 (find_entry place_cmp (die, r) xs) i) in
    let parts = rounds_or (λ r. eq_by_cmp place_cmp (die, r) x.0) (λ r. is_some (find_entry place_cmp (die, r) xs)) first n in
    let one = one_round (λ r. eq_by_cmp place_cmp (die, r) x.0) x.0.1 (λ r same. ap (λ (q : ℕ × ℕ). q.1) (place_same (die, r) x.0 (if_equal (place_cmp (die, r) x.0) same))) first n in
    let rest = booked_rounds xs die first n in
    omega (arith, split, parts, one, rest)

pub window_closed : (window : Option WindowOf) (first n : ℕ) → rounds_that (is_in_window window) first n ≤ window_rounds first window
window_closed None first n = let none = rounds_that-none (λ r. false) first n (λ r low high. refl) in omega (arith, none)
window_closed (Some w) first n = let e = rounds_that-from w.first.0 w.last.0 first n in omega (arith, e)

pub taken_rounds : (bookings : List ((ℕ × ℕ) × Booking)) (window : Option WindowOf) (die first n : ℕ)
    → rounds_that (λ r. is_some (find_entry place_cmp (die, r) bookings) || is_in_window window r) first n ≤ length bookings + window_rounds first window
taken_rounds bookings window die first n =
    let parts = rounds_or (λ r. is_some (find_entry place_cmp (die, r) bookings)) (is_in_window window) first n in
    let a = booked_rounds bookings die first n in
    let b = window_closed window first n in
    omega (arith, parts, a, b)

pub places_rounds : (places : List Place) (die first n : ℕ)
    → rounds_that (λ r. list_any (λ (x : Place). x.die.0 == die && x.round.0 == r) places) first n ≤ length places
places_rounds [] die first n = let none = rounds_that-none (λ r. false) first n (λ r low high. refl) in omega (arith, none)
places_rounds (x ∷ xs) die first n =
    let parts = rounds_or (λ r. x.die.0 == die && x.round.0 == r) (λ r. list_any (λ (y : Place). y.die.0 == die && y.round.0 == r) xs) first n in
    let one = one_round (λ r. x.die.0 == die && x.round.0 == r) x.round.0 (λ r same. sym (eqb-true x.round.0 r (and_parts (x.die.0 == die) (x.round.0 == r) same).1)) first n in
    let rest = places_rounds xs die first n in
    omega (arith, parts, one, rest)
