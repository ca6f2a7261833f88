use Rattle.fa_solo_laws.proofs.Beginning.{mounted_store}
use Rattle.fa_solo_laws.proofs.beginnings.a_mounted_store_is_of_a_world.Goals as goal

pub returns : goal.returns
returns g c copies unclean before after array dies core store is only many agree fair state standings images bytes page =
    mounted_store g.I.Image.view g.I.Image.honest g.I.Image.made g.met.I.Image.whole g.met.I.Image.meets copies unclean before after array dies core is
    only many agree fair store state standings images bytes page
