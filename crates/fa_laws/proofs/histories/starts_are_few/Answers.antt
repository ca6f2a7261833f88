use Rattle.fa_laws.proofs.Few.{reached_few}
use Rattle.fa_laws.proofs.histories.starts_are_few.Goals as goal

pub returns : goal.returns
returns c w reached =
    reached_few c.a_beginning_is_sound.ensures c.a_step_keeps_sound.ensures c.live_dies_are_kept.ensures c.spares_are_kept.ensures
    c.the_geometry_is_kept.ensures c.the_round_is_kept.ensures w reached
