use Rattle.fa_mount_scan.specs.Readings.{AreReadingsOf}
use Rattle.fa_mount_scan.proofs.slots.readings.readings_of.Given as goal

abbrev pub invariant-loop-die : goal.invariant-loop-die
invariant-loop-die g l = AreReadingsOf l.geometry l.standings l.die l.fn.images l.readings.items
