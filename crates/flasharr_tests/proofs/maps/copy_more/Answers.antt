use Rattle.std.proofs.Common.{◌≡◌, ◌*◌, ◌<◌, true, false, None, ap, sym, subst, ◌∙◌, arith}
use Rattle.std.proofs.lemmas.Grind.{common_steps}
use Rattle.std.specs.Prelude.{is_some}
use Rattle.fa_types.specs.declared.geometry.Geometry.{Geometry}
use Rattle.fa_machine.specs.Copies.{copy_on, is_held_slot}
use Rattle.fa_machine.specs.State.{is_live, used_at}
use Rattle.fa_map_calls.proofs.MayHold.{held_copy, may_hold_more, none_mapped}
use Rattle.flasharr_tests.proofs.maps.copy_more.Goals as goal

pub make_current-requires : goal.make_current-requires
make_current-requires g c =
    let m = g.M.Map.view c.args.map.now in
    let live : is_live m c.args.die.0 ≡ true = grind (arith, common_steps) in
    let free : is_held_slot (used_at m c.args.die.0 c.args.slot.0) ≡ false = sym (held_copy (used_at m c.args.die.0 c.args.slot.0)) ∙ sym (ap is_some c.copy_in.ensures) ∙ sym c.is_some.ensures ∙ c.if-is_some.false in
    let bare : is_some c.copy_on.result ≡ false = grind (arith, common_steps) in
    let none : copy_on m c.args.page.0 c.args.die.0 ≡ None = sym c.copy_on.ensures ∙ none_mapped (λ slot. slot.0) c.copy_on.result bare in
    may_hold_more m (g.met.M.Map.whole c.args.map.now) c.args.page c.in-Some.last c.args.die.0 c.args.slot.0
    (subst (λ (k : Geometry). c.args.page.0 < k.pages) c.geometry-g.ensures c.if-page-g.false)
    (subst (λ (k : Geometry). c.args.slot.0 < k.blocks * k.slots) c.geometry-g.ensures c.if-slot-g.false)
    live free none (sym c.in-Some.ensures)

pub hold-requires : goal.hold-requires
hold-requires g c =
    let m = g.M.Map.view c.args.map.now in
    let live : is_live m c.args.die.0 ≡ true = grind (arith, common_steps) in
    let free : is_held_slot (used_at m c.args.die.0 c.args.slot.0) ≡ false = sym (held_copy (used_at m c.args.die.0 c.args.slot.0)) ∙ sym (ap is_some c.copy_in.ensures) ∙ sym c.is_some.ensures ∙ c.if-is_some.false in
    let bare : is_some c.copy_on.result ≡ false = grind (arith, common_steps) in
    let none : copy_on m c.args.page.0 c.args.die.0 ≡ None = sym c.copy_on.ensures ∙ none_mapped (λ slot. slot.0) c.copy_on.result bare in
    record {
      page_fits = subst (λ (k : Geometry). c.args.page.0 < k.pages) c.geometry-g.ensures c.if-page-g.false;
      slot_fits = subst (λ (k : Geometry). c.args.slot.0 < k.blocks * k.slots) c.geometry-g.ensures c.if-slot-g.false;
      live = live;
      last = sym c.in-Some.ensures;
      free = free;
      once = ap is_some none;
    }
