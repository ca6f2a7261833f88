use Rattle.std.proofs.Common.{◌≡◌, length, take}
use Rattle.fa_tag.specs.OpenedTogether.{AreOpened}
use Rattle.fa_tag.proofs.eights.open_four.Given as goal

abbrev pub invariant-slots : goal.invariant-slots
invariant-slots l = (length l.opened ≡ 4) × AreOpened (take l.i l.slots) (take l.i l.opened)
