use Rattle.fa_mount_scan.specs.Scanned.{AreSettled}
use Rattle.fa_mount_scan.proofs.slots.settle.settle.Given as goal

abbrev pub invariant-loop-outcome : goal.invariant-loop-outcome
invariant-loop-outcome g l = AreSettled l.standings l.yielded l.settled.dies.items l.settled.contents.items
