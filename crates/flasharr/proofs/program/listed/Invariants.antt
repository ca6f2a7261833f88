-- The arguments so far, and those that are left, are all of them.
use Rattle.std.proofs.Common.{◌≡◌, ◌++◌}
use Rattle.std.specs.Vec.Iter.{into_iter_items, into_iter_len}
use Rattle.flasharr.proofs.program.listed.Given as goal

abbrev pub invariant-arguments : goal.invariant-arguments
invariant-arguments g l = l.list.items ++ into_iter_items l.all ≡ into_iter_items l.fn.all

abbrev pub decreases-arguments : goal.decreases-arguments
decreases-arguments g l = into_iter_len l.all
