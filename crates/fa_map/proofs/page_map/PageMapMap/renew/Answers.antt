use Rattle.std.proofs.Common.{◌≡◌, ℕ, ◌*◌, ◌<◌, Some, refl, sym, ap, subst, ◌∙◌, set}
use Rattle.fa_map_calls.specs.Plain.{die_slots}
use Rattle.fa_types.specs.declared.geometry.Geometry.{Geometry}
use Rattle.fa_map.specs.Chains.{entry_of}
use Rattle.fa_map.specs.Entries.{retired}
use Rattle.fa_map.proofs.Seen.{shown_renewed, shown_told}
use Rattle.fa_map.proofs.page_map.PageMapMap.renew.Goals as goal

pub invariant_of-self : goal.invariant_of-self
invariant_of-self g c =
    let s = c.args.self.now in
    let new = c.retire.new.self.slots.entries in
    let each = subst (λ (k : Geometry). (d slot : ℕ) → slot < die_slots k → entry_of new (die_slots k) d slot ≡ retired c.args.page.0 (entry_of s.tables.slots.entries (die_slots k) d slot))
    s.same c.retire.ensures.entries in
    let long = c.retire.new.self.sound.tallied.slots ∙ ap (λ (k : Geometry). k.dies * die_slots k) c.retire.ensures.geometry ∙ sym s.tables.sound.tallied.slots in
    let versions = c.set_version.ensures.versions ∙ ap (λ l. set l c.args.page.0 (Some c.args.version)) c.retire.ensures.versions in
    record {
      sound =
          shown_told c.note.ensures refl refl versions c.set_version.ensures.entries
          (shown_renewed s.history.shown s.geometry s.live.items s.live_dies s.tables.pages.versions s.tables.slots.entries s.sound c.args.page.0 c.args.version new c.requires long each);
      same = c.set_version.ensures.geometry ∙ c.retire.ensures.geometry ∙ s.same;
      few = s.few;
    }
