use Rattle.std.proofs.Common.{arith, refl}
use Rattle.fa_image.specs.Image.{ReadingSlot}
use Rattle.fa_jobs.proofs.Openings.{read_ran, refused_ran}
use Rattle.fa_jobs.proofs.Deeds.{refused_by}
use Rattle.fa_jobs.proofs.reading.run_read.Goals as goal

pub returns-in-Ok-clause-ran : goal.returns-in-Ok-clause-ran
returns-in-Ok-clause-ran g c batch page version array payload lasting =
    read_ran _ _ array c.args.die.0 batch page version c.args.slot payload lasting _ _ _ _ _ _ c.in-Ok.ensures.gave
    (omega (arith, c.begin_read.ensures.scratch, c.requires.scratch, c.requires.buffer)) c.end_read.ensures.opens

pub returns-in-Err-clause-ran : goal.returns-in-Err-clause-ran
returns-in-Err-clause-ran g c batch page version array payload lasting =
    refused_ran _ _ array c.args.die.0 _ batch page version c.args.slot c.in-Err.fault _ _ refl c.in-Err.ensures.refused
    (refused_by (ReadingSlot c.args.slot.0) c.in-Err.fault (g.I.Image.view c.args.image.now).geometry
    (g.met.I.Image.meets _ _ _ _ c.in-Err.ensures.refused).answers)
