use Rattle.std.proofs.Common.{sym, ap, ◌∙◌}
use Rattle.fa_types.specs.declared.geometry.Geometry.{Geometry}
use Rattle.std.specs.Prelude.{find, is_none, not, ◌/◌, ◌==◌, ◌&&◌}
use Rattle.fa_machine.specs.State.{slots_of, used_at}
use Rattle.fa_plain_map.proofs.Found.{plain_found}
use Rattle.fa_plain_map.proofs.plain_map.PlainMap.slot_outside.Goals as goal

pub returns : goal.returns
returns g c =
    let s = c.args.self.now in
    c.find_erased_outside.ensures
    ∙ plain_found s.history.shown s.geometry s.live.items s.live_dies s.versions.items s.used.items s.sound (λ slot used. is_none used && not (slot / s.geometry.slots == c.args.block.0)) c.args.die.0 c.first_slot-first.result c.slots_of_die-count.result c.deref.result.now c.first_slot-first.ensures c.slots_of_die-count.ensures c.deref.ensures.value
    ∙ ap (λ (k : Geometry). find (λ slot. is_none (used_at s.history.shown c.args.die.0 slot) && not (slot / k.slots == c.args.block.0)) (slots_of s.history.shown)) (sym s.sound.geometry)
