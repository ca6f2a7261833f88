use Rattle.fa_solo_laws.proofs.Going.{Laws}
use Rattle.fa_solo_laws.proofs.Whole.{call_meets}
use Rattle.fa_solo_laws.proofs.store_requests.a_call_of_the_store_meets.Goals as goal

pub returns : goal.returns
returns g c old new request bytes answer w of_old free apart inside has fits call fair =
    let laws : Laws = record {
      lives = c.live_dies_are_kept.ensures;
      spares = c.spares_are_kept.ensures;
      numbers = c.numbers_are_kept.ensures;
      geometry = c.the_geometry_is_kept.ensures;
      falls = c.the_last_number_never_falls.ensures;
    } in
    let met = call_meets g.I.Image.view g.I.Image.honest g.I.Image.made g.met.I.Image.whole g.met.I.Image.meets
    (record { asks = laws; flushes = c.flushes_are_counted.ensures; rounds = c.the_round_is_kept.ensures })
    (record {
      serves = c.a_request_serves.ensures.serves;
      meets = c.a_request_serves.ensures.meets;
      reached = c.a_request_serves.ensures.reached;
    }) old request bytes answer w of_old free apart inside has fits new call fair in
    (met.last, met.of_new, met.meets_it, met.free_new)
