use Rattle.fa_laws.proofs.Returning.{run_out}
use Rattle.fa_laws.proofs.promises.a_die_that_went_out_stays_out.Goals as goal

pub returns : goal.returns
returns c = run_out c.live_dies_are_kept.ensures c.spares_are_kept.ensures
