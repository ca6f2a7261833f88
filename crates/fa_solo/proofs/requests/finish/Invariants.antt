use Rattle.std.proofs.Common.{◌≤◌}
use Rattle.fa_solo.specs.Turns.{RunsOn}
use Rattle.fa_solo.proofs.requests.finish.Given as goal

abbrev pub invariant-loop-turns : goal.invariant-loop-turns
invariant-loop-turns g l = (runs : RunsOn g.I.Image.made l.bytes l.initial.inner l.initial.op l.inner l.op) × (l.turns ≤ runs.turns)
