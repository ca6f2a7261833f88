use Rattle.fa_solo_laws.proofs.Going.{Laws}
use Rattle.fa_solo_laws.proofs.Counts.{one_more_other}
use Rattle.fa_solo_laws.proofs.Fates.{DieLaws}
use Rattle.fa_solo_laws.proofs.Sums.{out_counted, spare_counted}
use Rattle.fa_solo_laws.proofs.dies.a_die_leaves_the_store_only_with_a_fault.Goals as goal
use Rattle.fa_image.specs.Image.{one_more}
use Rattle.std.proofs.Common.{sym, ℕ, ◌∙◌, ◌≡◌}

-- one more is another number
another : (before after : ℕ) → after ≡ one_more before → (after ≡ one_more before) × (after ≡ before → ⊥)
another before after is = (is, λ same. one_more_other before (sym is ∙ same))

pub returns : goal.returns
returns g c =
    let asks : Laws = record {
      lives = c.live_dies_are_kept.ensures;
      spares = c.spares_are_kept.ensures;
      numbers = c.numbers_are_kept.ensures;
      geometry = c.the_geometry_is_kept.ensures;
      falls = c.the_last_number_never_falls.ensures;
    } in
    let laws : DieLaws = record {
      lives = c.live_dies_are_kept.ensures;
      spares = c.spares_are_kept.ensures;
      synced = c.synced_rises_by_a_sync.ensures;
      jobs = c.a_sync_is_of_its_take.ensures;
      flushes = c.flushes_are_counted.ensures;
    } in
    record {
      live = λ old new task bytes answer w die before after of_old apart call fair live gone was is.
          another (g.I.Image.view before).faults (g.I.Image.view after).faults
          (out_counted g.I.Image.view g.I.Image.honest g.I.Image.made g.met.I.Image.whole g.met.I.Image.meets asks laws
          c.a_die_leaves_only_with_a_fault.ensures die task bytes answer old new w of_old apart call fair live gone before
          after was is);
      spare = λ old new task bytes answer w die before after of_old apart call fair spare gone none was is.
          another (g.I.Image.view before).faults (g.I.Image.view after).faults
          (spare_counted g.I.Image.view g.I.Image.honest g.I.Image.made g.met.I.Image.whole g.met.I.Image.meets asks laws
          c.a_die_leaves_only_with_a_fault.ensures die task bytes answer old new w of_old apart call fair spare gone none
          before after was is);
    }
