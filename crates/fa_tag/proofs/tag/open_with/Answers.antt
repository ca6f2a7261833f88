use Rattle.std.proofs.Common.{refl}
use Rattle.fa_tag.proofs.Slots.{not_erased}
use Rattle.fa_tag.proofs.tag.open_with.Goals as goal

pub returns-then-is_erased-clause-good : goal.returns-then-is_erased-clause-good
returns-then-is_erased-clause-good c tag payload slot =
    absurd (not_erased tag payload c.args.bytes.now slot (c.if-is_erased.ensures.all.0 refl))
