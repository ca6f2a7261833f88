use Rattle.std.proofs.Common.{ap, refl, sym, Some}
use Rattle.fa_image.specs.Image.{Erasing, Syncing, Done, Refused as RefusedBy}
use Rattle.fa_machine.specs.World.{ErasesBlock, Syncs, Accepted, Refused}
use Rattle.fa_machine.specs.Cells.{Fault}
use Rattle.fa_jobs.proofs.Deeds.{ran_once, ran_twice, refused_by}
use Rattle.fa_jobs.proofs.writing.run_erase.Goals as goal

pub returns-in-Ok-erase_block-clause-ran : goal.returns-in-Ok-erase_block-clause-ran
returns-in-Ok-erase_block-clause-ran g c array payload bytes lasting =
    ran_twice _ _ Syncs (ErasesBlock c.args.block.0) Accepted Accepted _ _ _ refl
    (record { image_call = Syncing; answer = Done; is_it = refl; given = tt; link = c.in-Ok.ensures.done }) refl
    (record { image_call = Erasing c.args.block.0; answer = Done; is_it = refl; given = tt; link = c.in-Ok-erase_block.ensures.done }) refl

pub returns-in-Err-erase_block-clause-ran : goal.returns-in-Err-erase_block-clause-ran
returns-in-Err-erase_block-clause-ran g c array payload bytes lasting =
    ran_twice _ _ Syncs (ErasesBlock c.args.block.0) Accepted Refused _ _ _ refl
    (record { image_call = Syncing; answer = Done; is_it = refl; given = tt; link = c.in-Ok.ensures.done }) refl
    (record {
      image_call = Erasing c.args.block.0;
      answer = RefusedBy c.in-Err-erase_block.fault;
      is_it = refl;
      given = tt;
      link = c.in-Err-erase_block.ensures.refused;
    })
    (ap (λ n. Some (Fault n)) (sym (refused_by (Erasing c.args.block.0) c.in-Err-erase_block.fault (g.I.Image.view c.sync_image-synced.new.image).geometry
    (g.met.I.Image.meets _ _ _ _ c.in-Err-erase_block.ensures.refused).answers)))

pub returns-in-Err-clause-ran : goal.returns-in-Err-clause-ran
returns-in-Err-clause-ran g c array payload bytes lasting =
    ran_once _ _ Syncs Refused _ _ refl
    (record { image_call = Syncing; answer = RefusedBy c.in-Err.fault; is_it = refl; given = tt; link = c.in-Err.ensures.refused })
    (ap (λ n. Some (Fault n)) (sym (refused_by Syncing c.in-Err.fault (g.I.Image.view c.args.image.now).geometry
    (g.met.I.Image.meets _ _ _ _ c.in-Err.ensures.refused).answers)))
