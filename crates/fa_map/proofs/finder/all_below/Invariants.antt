use Rattle.std.proofs.Common.{◌≡◌, ℕ, ◌<◌, true}
use Rattle.fa_set.specs.Members.{bound_of, is_in}
use Rattle.fa_map.proofs.finder.all_below.Given as goal

abbrev pub invariant-loop-number : goal.invariant-loop-number
invariant-loop-number g l = record {
  bound : bound_of l.set ≡ l.bound;
  all : (k : ℕ) → k < l.number → is_in l.set k ≡ true;
}
