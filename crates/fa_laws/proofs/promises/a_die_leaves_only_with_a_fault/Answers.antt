use Rattle.fa_laws.proofs.Answering.{reached_holds}
use Rattle.fa_laws.proofs.Failing.{leaves_at_a_fault}
use Rattle.fa_laws.proofs.promises.a_die_leaves_only_with_a_fault.Goals as goal

pub returns : goal.returns
returns c w after act die reached happens was is =
    leaves_at_a_fault c.live_dies_are_kept.ensures w after act die (reached_holds w reached) happens was is
