use Rattle.std.proofs.Common.{◌∙◌, ap, refl, sym, Some}
use Rattle.fa_tag.specs.HeaderGrammar.{header_bytes}
use Rattle.fa_core_outcome.specs.Fits.{header_of}
use Rattle.fa_image.specs.Image.{WritingHeader, Done, Refused as RefusedBy}
use Rattle.fa_machine.specs.World.{WritesHeader, Accepted, Refused}
use Rattle.fa_machine.specs.Cells.{Fault}
use Rattle.fa_jobs.proofs.Deeds.{ran_once, refused_by}
use Rattle.fa_jobs.proofs.header.run_header.Goals as goal

pub returns-in-Ok-clause-ran : goal.returns-in-Ok-clause-ran
returns-in-Ok-clause-ran g c payload bytes lasting =
    ran_once _ _ (WritesHeader c.args.epoch c.args.live) Accepted _ _ refl
    (record { image_call = WritingHeader c.seal_header-bytes.result; answer = Done; is_it = ap WritingHeader (c.seal_header-bytes.ensures ∙ ap (λ geometry. header_bytes 2 (header_of geometry c.args.array.now c.args.die.0 c.args.epoch c.args.live)) c.geometry.ensures); given = tt; link = c.in-Ok.ensures.done }) refl

pub returns-in-Err-clause-ran : goal.returns-in-Err-clause-ran
returns-in-Err-clause-ran g c payload bytes lasting =
    ran_once _ _ (WritesHeader c.args.epoch c.args.live) Refused _ _ refl
    (record {
      image_call = WritingHeader c.seal_header-bytes.result;
      answer = RefusedBy c.in-Err.fault;
      is_it = ap WritingHeader (c.seal_header-bytes.ensures ∙ ap (λ geometry. header_bytes 2 (header_of geometry c.args.array.now c.args.die.0 c.args.epoch c.args.live)) c.geometry.ensures);
      given = tt;
      link = c.in-Err.ensures.refused;
    })
    (ap (λ n. Some (Fault n)) (sym (refused_by (WritingHeader c.seal_header-bytes.result) c.in-Err.fault (g.I.Image.view c.args.image.now).geometry
    (g.met.I.Image.meets _ _ _ _ c.in-Err.ensures.refused).answers)))
