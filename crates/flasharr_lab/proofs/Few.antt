-- Spares beside live dies, and how many there are of either.
use Rattle.fa_machine.proofs.Maps.{get-insert_other}
use Rattle.fa_machine.specs.Maps.{Numbers}
use Rattle.fa_machine.specs.State.{MapState, is_live}
use Rattle.flasharr_lab.specs.Apart.{AreApart}
use Rattle.std.proofs.Common.{Bool, ap, arith, cond, false, inl, inr, subst, sym, true, ℕ, ◌+◌, ◌≡◌, ◌≤◌, ◌∙◌}
use Rattle.std.proofs.lemmas.Bool.{cases_eq, false≢true}
use Rattle.std.specs.Cmp.{nat_cmp_total}
use Rattle.std.specs.FinMap.{contains_key, empty, get-empty, insert, len, len-insert}
use Rattle.std.specs.Ordering.{nat_cmp}
use Rattle.std.specs.Prelude.{is_some}

at_most_one : (b : Bool) (n : ℕ) → cond b n (n + 1) ≤ n + 1
at_most_one true n = omega arith
at_most_one false n = omega arith

-- a set with one more number has at most one more
pub one_more : (m : Numbers) (k : ℕ) → len (insert m k tt) ≤ len m + 1
one_more m k =
    let Few : ℕ → Type 0 = λ n. n ≤ len m + 1 in
    subst Few (sym (len-insert nat_cmp_total m k tt)) (at_most_one (contains_key m k) (len m))

-- one more spare that is not live
pub one_apart : (m : MapState) (spares : Numbers) (die : ℕ) → is_live m die ≡ false → AreApart m spares → AreApart m (insert spares die tt)
one_apart m spares die out apart k is = elim (cases_eq k die) [
  | inl same ↦ ap (is_live m) same ∙ out
  | inr other ↦ apart k (sym (ap is_some (get-insert_other spares die tt k other)) ∙ is)
]

-- no spare is apart from any die
pub none_apart : (m : MapState) → AreApart m empty
none_apart m k is = absurd (false≢true (sym (ap is_some (get-empty nat_cmp k)) ∙ is))
