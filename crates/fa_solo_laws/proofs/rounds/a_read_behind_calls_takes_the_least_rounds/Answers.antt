use Rattle.std.proofs.Common.{inl, inr}
use Rattle.fa_solo_laws.proofs.Chained.{chain_idle, chain_leads}
use Rattle.fa_solo_laws.proofs.Going.{Laws}
use Rattle.fa_solo_laws.proofs.rounds.a_read_behind_calls_takes_the_least_rounds.Goals as goal

pub returns : goal.returns
returns g c start old new w exchanges offset len given places store chain fair rest few whole same is_plan =
    let laws : Laws = record {
      lives = c.live_dies_are_kept.ensures;
      spares = c.spares_are_kept.ensures;
      numbers = c.numbers_are_kept.ensures;
      geometry = c.the_geometry_is_kept.ensures;
      falls = c.the_last_number_never_falls.ensures;
    } in
    let led = chain_leads g.I.Image.view g.I.Image.honest g.I.Image.made g.met.I.Image.whole g.met.I.Image.meets
    (record { asks = laws; flushes = c.flushes_are_counted.ensures; rounds = c.the_round_is_kept.ensures })
    (record {
      serves = c.a_request_serves.ensures.serves;
      meets = c.a_request_serves.ensures.meets;
      reached = c.a_request_serves.ensures.reached;
    }) start exchanges old chain store.apart fair w store.owns in
    elim (chain_idle g.I.Image.made start store.idle exchanges old chain) [
      | inr given_up ↦ inr given_up
      | inl idle ↦ inl (c.a_read_takes_the_least_rounds.ensures.rounds old.inner new offset len given places led.0 led.1.reached led.1.core idle rest few
          whole same is_plan)
    ]
