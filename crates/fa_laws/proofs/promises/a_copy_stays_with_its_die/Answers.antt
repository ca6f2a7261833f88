use Rattle.fa_laws.proofs.Outlasting.{not_lost}
use Rattle.fa_laws.proofs.Staying.{copy_stays_over, reached_over}
use Rattle.fa_laws.proofs.Within.{reached_inside}
use Rattle.fa_laws.proofs.promises.a_copy_stays_with_its_die.Goals as goal

pub returns : goal.returns
returns c =
    let out = c.a_die_that_went_out_stays_out.ensures in
    let spares = c.spares_are_kept.ensures in
    record {
      holds = copy_stays_over out spares;
      kept = λ w last happenings page die reached holds run alive.
          let inside = reached_inside c.live_dies_are_kept.ensures c.the_geometry_is_kept.ensures last (reached_over w last happenings page reached run) in
          not_lost last.core.page_map page die (inside die alive)
          (copy_stays_over out spares w last happenings page die reached holds run alive);
    }
