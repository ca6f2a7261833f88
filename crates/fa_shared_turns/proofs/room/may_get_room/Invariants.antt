use Rattle.std.proofs.Common.{◌≡◌, ◌<◌, ℕ, false}
use Rattle.fa_shared_lock.specs.Founded.{may_free}
use Rattle.fa_shared_turns.proofs.room.may_get_room.Given as goal

-- none of the dies so far has a block to collect
abbrev pub invariant-loop-die : goal.invariant-loop-die
invariant-loop-die g l = (die : ℕ) → die < l.die → may_free (g.E.Looks.core l.array).page_map die ≡ false
