use Rattle.std.proofs.Common.{map, take}
use Rattle.fa_shared_lock.specs.Only.{IsPart, dies_told}
use Rattle.fa_workers.specs.Held.{numbers_of, told_of}
use Rattle.fa_workers.proofs.helping.lift_all.Given as goal

-- What is told so far is of the dies before this place.
abbrev pub invariant-loop-index : goal.invariant-loop-index
invariant-loop-index g l = IsPart (dies_told (map told_of l.made.items)) (take l.index (numbers_of l.dies))
