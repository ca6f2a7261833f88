use Rattle.std.proofs.Common.{◌∙◌, arith}
use Rattle.std.proofs.lemmas.List.{length-set, take_all}
use Rattle.fa_tag.proofs.OpenedParts.{one_more_opened}
use Rattle.fa_tag.proofs.eights.open_each.Goals as goal

pub slots-preserved : goal.slots-preserved
slots-preserved c = (
  length-set c.slots.opened c.slots.i c.open.result ∙ c.slots.invariant.0,
  one_more_opened c.args.slots.now c.slots.opened c.slots.i c.open.result (omega arith) (omega arith) c.slots.invariant.1 c.open.ensures.opened,
)

pub returns : goal.returns
returns c =
    rw (← take_all c.slots.i c.args.slots.now (omega arith), ← take_all c.slots.i c.slots.opened (omega arith)) c.slots.invariant.1
