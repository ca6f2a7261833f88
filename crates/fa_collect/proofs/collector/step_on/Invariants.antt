use Rattle.std.proofs.Common.{◌≡◌, ℕ, ◌<◌, ◌≤◌, false}
use Rattle.fa_machine.specs.Copies.{is_held_slot}
use Rattle.fa_machine.specs.State.{used_at}
use Rattle.fa_collect.proofs.collector.step_on.Given as goal

abbrev pub invariant-loop-slot : goal.invariant-loop-slot
invariant-loop-slot g l = (k : ℕ) → l.first ≤ k → k < l.slot → is_held_slot (used_at (g.M.Map.view l.map) l.die.0 k) ≡ false
