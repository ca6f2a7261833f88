use Rattle.std.proofs.Common.{◌≡◌, length, take}
use Rattle.fa_tag.specs.OpenedTogether.{AreOpened}
use Rattle.fa_tag.proofs.eights.open_each.Given as goal

abbrev pub invariant-slots : goal.invariant-slots
invariant-slots l = (length l.opened ≡ length l.slots) × AreOpened (take l.i l.slots) (take l.i l.opened)
