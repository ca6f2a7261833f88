use Rattle.std.proofs.Common.{◌≡◌, ◌-◌}
use Rattle.std.specs.Prelude.{find}
use Rattle.std.specs.List.{range_with_len}
use Rattle.fa_mount_headers.specs.Recovering.{is_missed_die, missed_die}
use Rattle.fa_mount_headers.proofs.recovering.missed_die.Given as goal

abbrev pub invariant-loop-die : goal.invariant-loop-die
invariant-loop-die l = find (is_missed_die l.mask l.seen) (range_with_len l.die (l.dies - l.die)) ≡ missed_die l.dies l.mask l.seen
