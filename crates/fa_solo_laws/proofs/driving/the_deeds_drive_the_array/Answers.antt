use Rattle.fa_solo_laws.proofs.DrivenDeeds.{deeds_drive, dies_plain, order_plain, requests_plain}
use Rattle.fa_solo_job.specs.Deeds.{IsForDies, IsForOrder, IsForRequests}
use Rattle.fa_solo_laws.proofs.driving.the_deeds_drive_the_array.Goals as goal

pub returns : goal.returns
returns g c = record {
  dies = λ array dies seat old new first apart stands goes.
      deeds_drive g.I.Image.made array dies seat IsForDies c.the_geometry_is_kept.ensures dies_plain apart old new first stands goes;
  requests = λ array dies seat old new first apart stands goes.
      deeds_drive g.I.Image.made array dies seat IsForRequests c.the_geometry_is_kept.ensures requests_plain apart old new first stands goes;
  order = λ array dies seat old new first apart stands goes.
      deeds_drive g.I.Image.made array dies seat IsForOrder c.the_geometry_is_kept.ensures order_plain apart old new first stands goes;
}
