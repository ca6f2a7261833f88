use Rattle.std.proofs.Common.{◌≡◌}
use Rattle.std.specs.Prelude.{count_by}
use Rattle.fa_machine.specs.Maps.{below}
use Rattle.fa_mount_scan.specs.Recovering.{is_gone}
use Rattle.fa_mount_scan.proofs.slots.missing.count_gone.Given as goal

abbrev pub invariant-loop-die : goal.invariant-loop-die
invariant-loop-die g l = l.gone ≡ count_by (is_gone l.mask l.standings l.outcomes) (below l.die)
