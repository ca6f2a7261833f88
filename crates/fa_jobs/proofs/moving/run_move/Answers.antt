use Rattle.std.proofs.Common.{ap, refl, subst, sym, Some}
use Rattle.fa_core_outcome.specs.Outcomes.{outcome_of}
use Rattle.fa_image.specs.Image.{ReadingSlot, Refused as RefusedBy}
use Rattle.fa_machine.specs.World.{ReadsSlot, Refused}
use Rattle.fa_machine.specs.Cells.{Fault}
use Rattle.fa_machine.specs.declared.jobs.Flight.TheVariants.{Move}
use Rattle.fa_jobs.specs.Made.{Ran}
use Rattle.fa_jobs.proofs.Deeds.{ran_once, refused_by}
use Rattle.fa_jobs.proofs.moving.run_move.Goals as goal

pub returns-in-Ok-clause-ran : goal.returns-in-Ok-clause-ran
returns-in-Ok-clause-ran g c array payload bytes lasting =
    subst (λ geometry. Ran g.I.Image.made geometry array c.args.die.0
    (record { flight = Move c.args.page c.args.version c.args.from c.args.to; payload = payload; lasting = lasting })
    (outcome_of c.end_move.result bytes) c.args.image.now c.end_move.new.image) c.in-Ok.ensures.geometry
    (c.end_move.ensures.ran c.args.image.now array payload bytes lasting c.in-Ok.ensures.gave)

pub returns-in-Err-clause-ran : goal.returns-in-Err-clause-ran
returns-in-Err-clause-ran g c array payload bytes lasting =
    ran_once _ _ (ReadsSlot c.args.from.0) Refused _ _ refl
    (record {
      image_call = ReadingSlot c.args.from.0;
      answer = RefusedBy c.in-Err.fault;
      is_it = refl;
      given = tt;
      link = c.in-Err.ensures.refused;
    })
    (ap (λ n. Some (Fault n)) (sym (refused_by (ReadingSlot c.args.from.0) c.in-Err.fault (g.I.Image.view c.args.image.now).geometry
    (g.met.I.Image.meets _ _ _ _ c.in-Err.ensures.refused).answers)))
