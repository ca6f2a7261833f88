use Rattle.fa_crash.proofs.Calls.{called}
use Rattle.fa_crash.proofs.Promised.{promised_last}
use Rattle.fa_crash.proofs.stores.a_flush_of_the_store_promises_each_page.Goals as goal
use Rattle.fa_solo_laws.proofs.Going.{Laws}

pub returns : goal.returns
returns g c old new task bytes first w earlier u begins cells led of_old apart flushes call fair =
    let laws : Laws = record {
      lives = c.live_dies_are_kept.ensures;
      spares = c.spares_are_kept.ensures;
      numbers = c.numbers_are_kept.ensures;
      geometry = c.the_geometry_is_kept.ensures;
      falls = c.the_last_number_never_falls.ensures;
    } in
    let one = called g.I.Image.view g.I.Image.honest g.I.Image.made g.met.I.Image.whole g.met.I.Image.meets laws task bytes flushes old new w of_old
    apart call fair in (
      one.happenings,
      one.last,
      one.run,
      one.of_new,
      λ v page run written.
          promised_last (record {
            numbers = c.numbers_are_kept.ensures;
            raises = c.a_commit_raises_the_number.ensures;
            sound = c.a_step_keeps_sound.ensures;
          })
          c.a_beginning_is_sound.ensures first w earlier u begins cells led page one.happenings one.last v one.flushed run written,
    )
