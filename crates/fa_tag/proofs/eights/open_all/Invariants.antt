use Rattle.std.proofs.Common.{◌≡◌, ◌*◌, length, take}
use Rattle.fa_tag.specs.OpenedTogether.{AreOpened}
use Rattle.fa_tag.proofs.eights.open_all.Given as goal

abbrev pub invariant-eights : goal.invariant-eights
invariant-eights l = (length l.opened ≡ length l.slots) × AreOpened (take (8 * l.i) l.slots) (take (8 * l.i) l.opened)
