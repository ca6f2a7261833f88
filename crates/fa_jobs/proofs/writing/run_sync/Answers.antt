use Rattle.std.proofs.Common.{ap, refl, sym, Some}
use Rattle.fa_image.specs.Image.{Syncing, Done, Refused as RefusedBy}
use Rattle.fa_machine.specs.World.{Syncs, Accepted, Refused}
use Rattle.fa_machine.specs.Cells.{Fault}
use Rattle.fa_jobs.proofs.Deeds.{ran_once, refused_by}
use Rattle.fa_jobs.proofs.writing.run_sync.Goals as goal

pub returns-in-Ok-clause-ran : goal.returns-in-Ok-clause-ran
returns-in-Ok-clause-ran g c flushes array payload bytes lasting =
    ran_once _ _ Syncs Accepted _ _ refl
    (record { image_call = Syncing; answer = Done; is_it = refl; given = tt; link = c.in-Ok.ensures.done }) refl

pub returns-in-Err-clause-ran : goal.returns-in-Err-clause-ran
returns-in-Err-clause-ran g c flushes array payload bytes lasting =
    ran_once _ _ Syncs Refused _ _ refl
    (record { image_call = Syncing; answer = RefusedBy c.in-Err.fault; is_it = refl; given = tt; link = c.in-Err.ensures.refused })
    (ap (λ n. Some (Fault n)) (sym (refused_by Syncing c.in-Err.fault (g.I.Image.view c.args.image.now).geometry
    (g.met.I.Image.meets _ _ _ _ c.in-Err.ensures.refused).answers)))
