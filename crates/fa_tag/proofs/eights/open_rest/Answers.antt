use Rattle.fa_tag.proofs.OpenedParts.{parts_opened}
use Rattle.fa_tag.proofs.eights.open_rest.Goals as goal

pub returns : goal.returns
returns c = parts_opened c.args.slots.now 4 c.open_four.new.opened c.open_each-2.new.opened c.open_four.ensures c.open_each-2.ensures
