use Rattle.fa_solo_laws.proofs.Going.{Laws}
use Rattle.fa_solo_laws.proofs.Quiet.{before_inner, behind_inner, told}
use Rattle.fa_solo_laws.proofs.driving.the_order_of_the_store_writes_nothing.Goals as goal

pub returns : goal.returns
returns g c =
    let laws : Laws = record {
      lives = c.live_dies_are_kept.ensures;
      spares = c.spares_are_kept.ensures;
      numbers = c.numbers_are_kept.ensures;
      geometry = c.the_geometry_is_kept.ensures;
      falls = c.the_last_number_never_falls.ensures;
    } in record {
      before = λ old new w of_old calm apart does fair.
          told g.I.Image.view new w
          (before_inner g.I.Image.view g.I.Image.honest g.I.Image.made g.met.I.Image.whole g.met.I.Image.meets laws old new w of_old calm apart does fair);
      behind = λ old new w of_old calm apart tidies fair.
          told g.I.Image.view new w
          (behind_inner g.I.Image.view g.I.Image.honest g.I.Image.made g.met.I.Image.whole g.met.I.Image.meets laws old new w of_old calm apart tidies fair);
    }
