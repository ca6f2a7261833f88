-- A run keeps the geometry.
use Rattle.fa_crash.proofs.Runs.{run_whole_keeps}
use Rattle.fa_crash.specs.Unsynced.{Unsynced, nothing_unsynced}
use Rattle.fa_crash.specs.Whole.{RunWhole}
use Rattle.fa_laws.proofs.Ranged.{calls_core}
use Rattle.fa_laws.proofs.Within.{GeometryLaw}
use Rattle.fa_machine.specs.Run.{Event, Happening, Happens, ImageCall}
use Rattle.fa_machine.specs.State.{Core}
use Rattle.fa_machine.specs.World.{World}
use Rattle.std.proofs.Common.{List, ap, refl, ◌∙◌, ◌≡◌}

module _ (law : GeometryLaw) (first : World) where
  happens_kept : (before : World) (happening : Happening) (after : World) → before.core.page_map.geometry ≡ first.core.page_map.geometry
      → Happens before happening after → after.core.page_map.geometry ≡ first.core.page_map.geometry
  happens_kept before (Event act) after same happens = law before.core after.core act happens.step ∙ same
  happens_kept before (ImageCall die gave) after same happens =
      ap (λ (c : Core). c.page_map.geometry) (calls_core before after die (before.works die) gave happens) ∙ same

  pub geometry_kept : (happenings : List Happening) (w : World) (u : Unsynced) → RunWhole first (nothing_unsynced first) happenings w u
      → w.core.page_map.geometry ≡ first.core.page_map.geometry
  geometry_kept happenings w u run =
      run_whole_keeps (λ (v : World) (t : Unsynced). v.core.page_map.geometry ≡ first.core.page_map.geometry)
      (λ before t happening after same happens whole. happens_kept before happening after same happens)
      first (nothing_unsynced first) happenings w u refl run
