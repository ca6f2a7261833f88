use Rattle.std.proofs.Common.{◌≡◌, None, length, All}
use Rattle.fa_mount_scan.proofs.slots.readings.none_ready.Given as goal

abbrev pub invariant-loop : goal.invariant-loop
invariant-loop g l = (length l.readings.items ≡ l.counter) × All (λ reading. reading ≡ None) l.readings.items
