use Rattle.std.proofs.Common.{◌*◌, refl, ap, ◌∙◌, arith}
use Rattle.fa_map_calls.specs.Plain.{die_slots}
use Rattle.fa_types.specs.declared.geometry.Geometry.{Geometry}
use Rattle.fa_map.proofs.Seen.{shown_new, shown_told}
use Rattle.fa_map.proofs.page_map.PageMap.new.Goals as goal

pub invariant_of-result : goal.invariant_of-result
invariant_of-result g c =
    let t = c.in_ok-tables.tables in
    let live = c.in_ok-live.ensures.items_if_clones_equal (λ y same. same) in
    let long = t.sound.tallied.slots ∙ ap (λ (k : Geometry). k.dies * die_slots k) c.in_ok-tables.ensures.geometry in
    record {
      sound =
          shown_told c.begin.ensures live refl c.in_ok-tables.ensures.versions refl
          (shown_new c.args.geometry t.slots.entries long c.in_ok-tables.ensures.entries);
      same = c.in_ok-tables.ensures.geometry;
      few = omega arith;
    }
