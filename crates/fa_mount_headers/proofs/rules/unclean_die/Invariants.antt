use Rattle.std.proofs.Common.{◌≡◌, ◌-◌}
use Rattle.std.specs.Prelude.{find}
use Rattle.std.specs.List.{range_with_len}
use Rattle.fa_mount_headers.specs.Rules.{is_unclean_die, unclean_die}
use Rattle.fa_mount_headers.proofs.rules.unclean_die.Given as goal

abbrev pub invariant-loop-die : goal.invariant-loop-die
invariant-loop-die l = find (is_unclean_die l.epoch l.mask l.seen) (range_with_len l.die (l.dies - l.die)) ≡ unclean_die l.dies l.epoch l.mask l.seen
