use Rattle.fa_laws.proofs.Outlasting.{outlasts}
use Rattle.fa_laws.proofs.Staying.{holds_live}
use Rattle.fa_laws.proofs.Within.{reached_inside}
use Rattle.fa_laws.proofs.promises.two_copies_outlast_a_die.Goals as goal

pub returns : goal.returns
returns c w after out outcome page one two reached happens first second apart =
    let inside = reached_inside c.live_dies_are_kept.ensures c.the_geometry_is_kept.ensures w reached in
    outlasts w.core after.core out outcome page one two happens.step.does first second apart
    (inside one (holds_live w.core.page_map page one first)) (inside two (holds_live w.core.page_map page two second))
