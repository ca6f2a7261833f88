use Rattle.std.proofs.Common.{◌≡◌, ◌-◌, ◌++◌, map}
use Rattle.std.specs.List.{range_with_len}
use Rattle.fa_mount_headers.specs.Judged.{standing_of, standings_of}
use Rattle.fa_mount_headers.proofs.judging.standings_of.Given as goal

abbrev pub invariant-loop-die : goal.invariant-loop-die
invariant-loop-die g l =
    l.standings.items ++ map (standing_of l.mask l.seen) (range_with_len l.die (l.dies - l.die)) ≡ standings_of l.mask l.seen l.dies
