use Rattle.fa_solo_laws.proofs.Served.{request_served}
use Rattle.fa_solo_laws.proofs.store_requests.a_request_of_the_store_serves.Goals as goal

pub returns : goal.returns
returns g c old new request bytes answer w of_old calm apart inside has fits makes fair =
    let served = request_served g.I.Image.view g.I.Image.honest g.I.Image.made g.met.I.Image.whole g.met.I.Image.meets c.the_geometry_is_kept.ensures
    (record {
      serves = c.a_request_serves.ensures.serves;
      meets = c.a_request_serves.ensures.meets;
      reached = c.a_request_serves.ensures.reached;
    }) old new request bytes answer w of_old calm apart inside has fits fair makes in (served.0, served.1, served.2)
