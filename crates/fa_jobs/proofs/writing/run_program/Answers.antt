use Rattle.std.proofs.Common.{ap, refl, sym, Some}
use Rattle.fa_image.specs.Image.{Programming, Syncing, Done, Refused as RefusedBy}
use Rattle.fa_machine.specs.World.{ProgramsSlot, Accepted, Refused}
use Rattle.fa_machine.specs.Cells.{Fault, Sealed}
use Rattle.fa_jobs.proofs.Deeds.{ran_lasting, ran_once, ran_program, refused_by}
use Rattle.fa_jobs.proofs.writing.run_program.Goals as goal

pub returns-in-Ok-sync_image-clause-ran : goal.returns-in-Ok-sync_image-clause-ran
returns-in-Ok-sync_image-clause-ran g c array bytes =
    ran_lasting c.args.page c.args.version c.args.slot c.args.payload.now c.args.lasting _ Accepted _ _ _ c.if-lasting.true
    (record { image_call = Programming c.args.slot.0 c.seal.new.out; answer = Done; is_it = ap (Programming c.args.slot.0) c.seal.ensures; given = tt; link = c.in-Ok.ensures.done })
    (record { image_call = Syncing; answer = Done; is_it = refl; given = tt; link = c.in-Ok-sync_image.ensures.done }) refl

pub returns-in-Err-sync_image-clause-ran : goal.returns-in-Err-sync_image-clause-ran
returns-in-Err-sync_image-clause-ran g c array bytes =
    ran_lasting c.args.page c.args.version c.args.slot c.args.payload.now c.args.lasting _ Refused _ _ _ c.if-lasting.true
    (record { image_call = Programming c.args.slot.0 c.seal.new.out; answer = Done; is_it = ap (Programming c.args.slot.0) c.seal.ensures; given = tt; link = c.in-Ok.ensures.done })
    (record { image_call = Syncing; answer = RefusedBy c.in-Err-sync_image.fault; is_it = refl; given = tt; link = c.in-Err-sync_image.ensures.refused })
    (ap (λ n. Some (Fault n)) (sym (refused_by Syncing c.in-Err-sync_image.fault (g.I.Image.view c.program-programmed.new.self).geometry
    (g.met.I.Image.meets _ _ _ _ c.in-Err-sync_image.ensures.refused).answers)))

pub returns-else-lasting-clause-ran : goal.returns-else-lasting-clause-ran
returns-else-lasting-clause-ran g c array bytes =
    ran_program c.args.page c.args.version c.args.slot c.args.payload.now c.args.lasting _ _ c.if-lasting.false
    (record { image_call = Programming c.args.slot.0 c.seal.new.out; answer = Done; is_it = ap (Programming c.args.slot.0) c.seal.ensures; given = tt; link = c.in-Ok.ensures.done })

pub returns-in-Err-clause-ran : goal.returns-in-Err-clause-ran
returns-in-Err-clause-ran g c array bytes =
    ran_once _ _ (ProgramsSlot c.args.slot.0 (Sealed c.args.page.0 c.args.version c.args.die.0 c.args.slot.0 c.args.payload.now)) Refused _ _ refl
    (record {
      image_call = Programming c.args.slot.0 c.seal.new.out;
      answer = RefusedBy c.in-Err.fault;
      is_it = ap (Programming c.args.slot.0) c.seal.ensures;
      given = tt;
      link = c.in-Err.ensures.refused;
    })
    (ap (λ n. Some (Fault n)) (sym (refused_by (Programming c.args.slot.0 c.seal.new.out) c.in-Err.fault (g.I.Image.view c.args.image.now).geometry
    (g.met.I.Image.meets _ _ _ _ c.in-Err.ensures.refused).answers)))
