use Rattle.std.proofs.Common.{ℕ, ◌+◌, ◌*◌, ◌<◌, Bool, Option, ap, subst, ◌∙◌}
use Rattle.std.specs.Prelude.{is_none}
use Rattle.fa_types.specs.declared.geometry.Geometry.{Geometry}
use Rattle.fa_machine.specs.declared.places.Used.{Used}
use Rattle.fa_machine.specs.Copies.{is_held_slot, is_reserved_slot, is_stale_slot}
use Rattle.fa_plain_map.proofs.Found.{plain_count_in}
use Rattle.fa_plain_map.proofs.plain_map.PlainMapMap.counts.Goals as goal

pub returns : goal.returns
returns g c =
    let s = c.args.self.now in
    let fits = subst (λ (k : Geometry). c.args.block.0 < k.blocks) s.sound.geometry c.requires.block in
    let at = ap (λ (k : ℕ). k + c.args.block.0 * s.geometry.slots) c.first_slot.ensures in
    let is = λ (test : Option Used → Bool). plain_count_in s.history.shown s.geometry s.live.items s.live_dies s.versions.items s.used.items s.sound test c.args.die.0 c.args.block.0 (c.first_slot.result + c.args.block.0 * s.geometry.slots) c.deref.result.now fits at c.deref.ensures.value in (
      c.count_states.ensures.erased ∙ is is_none,
      c.count_states.ensures.reserved ∙ is is_reserved_slot,
      c.count_states.ensures.current ∙ is is_held_slot,
      c.count_states.ensures.stale ∙ is is_stale_slot,
    )
