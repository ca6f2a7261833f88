-- The rounds of one span, of a piece of it, and of spans that are joined.
use Rattle.std.proofs.Common.{◌≡◌, ℕ, ◌+◌, ◌-◌, ◌<◌, ◌≤◌, false, not, ◌&&◌, ◌||◌, nat_eq, arith}
use Rattle.std.proofs.lemmas.Bool.Decides.{nat_tests}
use Rattle.fa_closed.specs.Runs.{is_from}

pub split_inside : (f r l x : ℕ) → f < r → r < l → (is_from f (r - 1) x || (is_from (r + 1) l x || false)) ≡ (is_from f l x && not (nat_eq x r))
split_inside f r l x a b = grind (arith, nat_tests)

pub split_first : (r l x : ℕ) → r < l → (is_from (r + 1) l x || false) ≡ (is_from r l x && not (nat_eq x r))
split_first r l x a = grind (arith, nat_tests)

pub split_last : (f r x : ℕ) → f < r → (is_from f (r - 1) x || false) ≡ (is_from f r x && not (nat_eq x r))
split_last f r x a = grind (arith, nat_tests)

pub split_only : (r x : ℕ) → false ≡ (is_from r r x && not (nat_eq x r))
split_only r x = grind (arith, nat_tests)

pub join_before : (a b f l x : ℕ) → a ≤ b → f ≡ b + 1 → f ≤ l → (is_from a l x || false) ≡ ((is_from f l x || false) || is_from a b x)
join_before a b f l x p at q = grind (arith, nat_tests)

pub join_behind : (a b f l x : ℕ) → a ≤ b → l + 1 ≡ a → f ≤ l → (is_from f b x || false) ≡ ((is_from f l x || false) || is_from a b x)
join_behind a b f l x p at q = grind (arith, nat_tests)

pub join_both : (a b f l g m x : ℕ) → a ≤ b → l + 1 ≡ a → f ≤ l → g ≡ b + 1 → g ≤ m → (is_from f m x || false) ≡ ((is_from f l x || (is_from g m x || false)) || is_from a b x)
join_both a b f l g m x p at q at' q' = grind (arith, nat_tests)
