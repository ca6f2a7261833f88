use Rattle.std.proofs.Common.{◌≡◌, ◌++◌, drop}
use Rattle.fa_mount_headers.specs.Rules.{seen_from}
use Rattle.fa_mount_headers.proofs.seen.all_seen.Given as goal

abbrev pub invariant-loop-index : goal.invariant-loop-index
invariant-loop-index g l = l.seen.items ++ seen_from l.index (drop l.index l.founds) ≡ seen_from 0 l.founds
