use Rattle.std.proofs.Common.{take}
use Rattle.fa_plan.specs.Progress.{AreSeats}
use Rattle.fa_plan.proofs.planner.list_seats.Given as goal

abbrev pub invariant-loop-index : goal.invariant-loop-index
invariant-loop-index g l = AreSeats (take l.index l.batch) (take l.index l.given) l.seats.items
