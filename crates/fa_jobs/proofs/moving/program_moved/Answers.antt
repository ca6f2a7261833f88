use Rattle.std.proofs.Common.{ap, refl, sym, Some}
use Rattle.fa_image.specs.Image.{Programming, Done, Refused as RefusedBy}
use Rattle.fa_machine.specs.World.{Accepted, Refused}
use Rattle.fa_machine.specs.Cells.{Fault}
use Rattle.fa_jobs.proofs.Deeds.{refused_by}
use Rattle.fa_jobs.proofs.moving.program_moved.Goals as goal

pub returns-in-Ok-clause-programmed : goal.returns-in-Ok-clause-programmed
returns-in-Ok-clause-programmed g c array = record {
  gave = Accepted;
  call = record {
    image_call = Programming c.args.to.0 c.reseal.new.slot;
    answer = Done;
    is_it = ap (Programming c.args.to.0) c.reseal.ensures;
    given = tt;
    link = c.in-Ok.ensures.done;
  };
  ends = λ cell job bytes. refl;
}

pub returns-in-Err-clause-programmed : goal.returns-in-Err-clause-programmed
returns-in-Err-clause-programmed g c array = record {
  gave = Refused;
  call = record {
    image_call = Programming c.args.to.0 c.reseal.new.slot;
    answer = RefusedBy c.in-Err.fault;
    is_it = ap (Programming c.args.to.0) c.reseal.ensures;
    given = tt;
    link = c.in-Err.ensures.refused;
  };
  ends = λ cell job bytes. ap (λ n. Some (Fault n)) (sym (refused_by (Programming c.args.to.0 c.reseal.new.slot) c.in-Err.fault
      (g.I.Image.view c.args.image.now).geometry (g.met.I.Image.meets _ _ _ _ c.in-Err.ensures.refused).answers));
}
