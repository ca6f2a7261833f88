use Rattle.std.proofs.Common.{◌≡◌, ℕ, ◌*◌, ◌-◌, ◌<◌, ◌==◌, if◌then◌else◌, Bool, false, get_or, refl, sym, ap, subst, ◌∙◌, arith}
use Rattle.fa_map_calls.specs.Plain.{die_slots}
use Rattle.fa_types.specs.declared.geometry.Geometry.{Geometry}
use Rattle.std.proofs.lemmas.List.{get_or_default}
use Rattle.fa_map.specs.Chains.{entry_of}
use Rattle.fa_map.specs.declared.entries.Entry.TheVariants.{Erased}
use Rattle.fa_map.proofs.Seen.{shown_dropped, shown_told}
use Rattle.fa_map.proofs.page_map.PageMapMap.drop_die.Goals as goal

pub invariant_of-self : goal.invariant_of-self
invariant_of-self g c =
    let s = c.args.self.now in
    let new = c.erase_die.new.self.slots.entries in
    let fits = subst (λ (k : Geometry). c.args.die.0 < k.dies) s.sound.plain.geometry c.requires in
    let was : get_or s.live.items c.args.die.0 false ≡ c.index.result.now = get_or_default s.live.items c.args.die.0 false c.index.result.now (omega (arith, fits, s.sound.plain.dies)) ∙ sym c.index.ensures in
    let less = c.less_one-self.ensures ∙ ap (λ (b : Bool). if b then s.live_dies - 1 else s.live_dies) (sym was) in
    let each = subst (λ (k : Geometry). (d slot : ℕ) → slot < die_slots k → entry_of new (die_slots k) d slot ≡ (if d == c.args.die.0 then Erased else entry_of s.tables.slots.entries (die_slots k) d slot)) s.same c.erase_die.ensures.entries in
    let long = c.erase_die.new.self.sound.tallied.slots ∙ ap (λ (k : Geometry). k.dies * die_slots k) c.erase_die.ensures.geometry ∙ sym s.tables.sound.tallied.slots in
    record {
      sound =
          shown_told c.note.ensures refl less c.erase_die.ensures.versions refl
          (shown_dropped s.history.shown s.geometry s.live.items s.live_dies s.tables.pages.versions s.tables.slots.entries s.sound c.args.die.0 new fits long each);
      same = c.erase_die.ensures.geometry ∙ s.same;
      few = s.few;
    }
