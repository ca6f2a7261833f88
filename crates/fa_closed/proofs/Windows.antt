-- How many rounds of a window pass a test.
use Rattle.std.proofs.Common.{◌≡◌, ℕ, zero, suc, ◌+◌, ◌-◌, ◌<◌, ◌≤◌, inl, inr, Bool, true, false, cond, not, nat_le, min, max, refl, ap, arith}
use Rattle.std.proofs.lemmas.Bool.{cases_lt, and_left, and_right, and_from, le-leb, lt-leb}
use Rattle.fa_types.specs.Open.{rounds_that}
use Rattle.fa_closed.specs.Runs.{is_from}

-- tests that agree on the window
pub rounds_that-same : (p q : ℕ → Bool) (first n : ℕ) → ((r : ℕ) → first ≤ r → r < first + n → p r ≡ q r) → rounds_that p first n ≡ rounds_that q first n
rounds_that-same p q first zero h = refl
rounds_that-same p q first (suc n) h =
    let head = ap (λ b. cond {A = ℕ} b 1 0) (h first (omega arith) (omega arith)) in
    let rest = rounds_that-same p q (suc first) n (λ r a b. h r (omega arith) (omega arith)) in
    omega (arith, head, rest)

-- a test that passes where one of two does that never pass together
pub rounds_that-add : (p q t : ℕ → Bool) → ((r : ℕ) → cond {A = ℕ} (t r) 1 0 ≡ cond (p r) 1 0 + cond (q r) 1 0) → (first n : ℕ) → rounds_that t first n ≡ rounds_that p first n + rounds_that q first n
rounds_that-add p q t h first zero = refl
rounds_that-add p q t h first (suc n) = let head = h first in let rest = rounds_that-add p q t h (suc first) n in omega (arith, head, rest)

pub rounds_that-none : (p : ℕ → Bool) (first n : ℕ) → ((r : ℕ) → first ≤ r → r < first + n → p r ≡ false) → rounds_that p first n ≡ 0
rounds_that-none p first zero h = refl
rounds_that-none p first (suc n) h =
    let head = ap (λ b. cond {A = ℕ} b 1 0) (h first (omega arith) (omega arith)) in
    let rest = rounds_that-none p (suc first) n (λ r a b. h r (omega arith) (omega arith)) in
    omega (arith, head, rest)

bit-not : (b : Bool) → cond {A = ℕ} (not b) 1 0 + cond b 1 0 ≡ 1
bit-not true = refl
bit-not false = refl

-- the rounds that fail are the others
pub rounds_that-not : (p : ℕ → Bool) (first n : ℕ) → rounds_that (λ r. not (p r)) first n + rounds_that p first n ≡ n
rounds_that-not p first zero = refl
rounds_that-not p first (suc n) = let head = bit-not (p first) in let rest = rounds_that-not p (suc first) n in omega (arith, head, rest)

-- a window in two parts
pub rounds_that-join : (p : ℕ → Bool) (first a b : ℕ) → rounds_that p first (a + b) ≡ rounds_that p first a + rounds_that p (first + a) b
rounds_that-join p first zero b =
    let e : 0 + b ≡ b = omega arith in let f : first + 0 ≡ first = omega arith in
    let x = ap (λ n. rounds_that p first n) e in let y = ap (λ k. rounds_that p k b) f in omega (arith, x, y)
rounds_that-join p first (suc a) b =
    let e : suc a + b ≡ suc (a + b) = omega arith in
    let f : first + suc a ≡ suc first + a = omega arith in
    let rest = rounds_that-join p (suc first) a b in
    let x = ap (λ n. rounds_that p first n) e in
    let y = ap (λ k. rounds_that p k b) f in
    omega (arith, rest, x, y)

-- the rounds from one to another
pub rounds_that-from : (low high first n : ℕ) → rounds_that (is_from low high) first n ≡ min (high + 1) (first + n) - max low first
rounds_that-from low high first zero = omega arith
rounds_that-from low high first (suc n) =
    let rest = rounds_that-from low high (suc first) n in
    elim (cases_lt first low) [
      | inl below ↦ (let out = ap (λ b. cond {A = ℕ} b 1 0) (and_left (nat_le low first) (nat_le first high) (lt-leb low first below)) in omega (arith, rest, out))
      | inr from ↦ elim (cases_lt high first) [
        | inl past ↦ (let out = ap (λ b. cond {A = ℕ} b 1 0) (and_right (nat_le low first) (nat_le first high) (lt-leb first high past)) in omega (arith, rest, out))
        | inr to ↦ (let at = ap (λ b. cond {A = ℕ} b 1 0) (and_from (nat_le low first) (nat_le first high) (le-leb low first from) (le-leb first high to)) in omega (arith, rest, at))
      ]
    ]
