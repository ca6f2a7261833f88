use Rattle.fa_machine.specs.Placement.{has_room}
use Rattle.std.proofs.Common.{◌<◌, ◌≡◌, false, ℕ}
use Rattle.fa_mirror.proofs.placement.has_any_room.Given as goal

abbrev pub invariant-loop-die : goal.invariant-loop-die
invariant-loop-die g l = (k : ℕ) → k < l.die → has_room (g.M.Map.view l.map) k ≡ false
