use Rattle.std.proofs.Common.{◌≡◌, ◌-◌, length}
use Rattle.std.specs.Prelude.{find}
use Rattle.std.specs.List.{range_with_len}
use Rattle.fa_machine.specs.Maps.{below}
use Rattle.fa_mount_scan.specs.Recovering.{is_used_spare}
use Rattle.fa_mount_scan.proofs.slots.missing.first_used_spare.Given as goal

abbrev pub invariant-loop-die : goal.invariant-loop-die
invariant-loop-die g l =
    let test = is_used_spare l.mask l.standings l.outcomes in
    find test (range_with_len l.die (length l.standings - l.die)) ≡ find test (below (length l.standings))
