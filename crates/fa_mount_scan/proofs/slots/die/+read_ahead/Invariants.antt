use Rattle.fa_mount_scan.proofs.slots.die.+read_ahead.Given as goal

abbrev pub decreases-read_ahead : goal.decreases-read_ahead
decreases-read_ahead g l = l.count
