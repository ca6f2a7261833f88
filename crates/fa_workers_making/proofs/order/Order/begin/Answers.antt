use Rattle.std.proofs.Common.{refl, subst, sym}
use Rattle.fa_core_outcome.specs.Handed.{handed_of}
use Rattle.fa_core_outcome.specs.Outcomes.{outcome_of}
use Rattle.fa_core_outcome.specs.declared.outcome.Outcome.{Outcome}
use Rattle.fa_image.specs.Image.{ReadingSlot}
use Rattle.fa_jobs.proofs.Deeds.{refused_by}
use Rattle.fa_jobs.proofs.Openings.{refused_move_ran, refused_ran}
use Rattle.fa_jobs.specs.Made.{Ran}
use Rattle.fa_workers_making.specs.Beginning.{HasRead, HasReadMove, HasRun}
use Rattle.fa_workers_making.proofs.order.Order.begin.Goals as goal

pub returns-in-Ok-clause-begins : goal.returns-in-Ok-clause-begins
returns-in-Ok-clause-begins g c same long room =
    HasRead c.in-Read.batch c.in-Read.page c.in-Read.version c.in-Read.slot c.in-Read.is refl (c.in-Ok.ensures.read same long)

pub returns-in-Err-clause-begins : goal.returns-in-Err-clause-begins
returns-in-Err-clause-begins g c same long room =
    let order = c.args.self.now in
    let refused = c.in-Err.ensures.refused same long in
    let Ends : Outcome → Type 0 =
    λ outcome. Ran g.I.Image.made order.geometry order.array order.die.0 (handed_of order.job) (outcome_of outcome c.args.buffer.now.items)
    c.args.image.now c.read_slot.new.image in
    HasRun c.in-Err.outcome refl (subst Ends (sym refused.1)
    (refused_ran _ order.geometry order.array order.die.0 (handed_of order.job) c.in-Read.batch c.in-Read.page c.in-Read.version c.in-Read.slot
    refused.0 _ _ c.in-Read.is refused.2
    (refused_by (ReadingSlot c.in-Read.slot.0) refused.0 (g.I.Image.view c.args.image.now).geometry
    (g.met.I.Image.meets _ _ _ _ refused.2).answers)))

pub returns-in-Ok-read_slot-clause-begins : goal.returns-in-Ok-read_slot-clause-begins
returns-in-Ok-read_slot-clause-begins g c same long room =
    HasReadMove c.in-Move.page c.in-Move.version c.in-Move.from c.in-Move.to c.in-Move.is refl (c.in-Ok-read_slot.ensures.read same long)

pub returns-in-Err-read_slot-clause-begins : goal.returns-in-Err-read_slot-clause-begins
returns-in-Err-read_slot-clause-begins g c same long room =
    let order = c.args.self.now in
    let refused = c.in-Err-read_slot.ensures.refused same long in
    let Ends : Outcome → Type 0 =
    λ outcome. Ran g.I.Image.made order.geometry order.array order.die.0 (handed_of order.job) (outcome_of outcome c.args.buffer.now.items)
    c.args.image.now c.read_slot-in-Move.new.image in
    HasRun c.in-Err-read_slot.outcome refl (subst Ends (sym refused.1)
    (refused_move_ran _ order.geometry order.array order.die.0 (handed_of order.job) c.in-Move.page c.in-Move.version c.in-Move.from c.in-Move.to
    refused.0 _ _ c.in-Move.is refused.2
    (refused_by (ReadingSlot c.in-Move.from.0) refused.0 (g.I.Image.view c.args.image.now).geometry
    (g.met.I.Image.meets _ _ _ _ refused.2).answers)))

pub returns-in_default : goal.returns-in_default
returns-in_default g c = record {
  begins = λ same long room. HasRun c.run.result refl (c.run.ensures.ran same long room);
  scratch = c.run.ensures.scratch;
  buffer = c.run.ensures.buffer;
}
