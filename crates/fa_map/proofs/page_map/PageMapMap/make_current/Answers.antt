use Rattle.std.proofs.Common.{◌≡◌, ℕ, ◌+◌, ◌*◌, ◌<◌, if◌then◌else◌, false, Some, refl, sym, ap, subst, ◌∙◌, set}
use Rattle.fa_map_calls.specs.Plain.{die_slots}
use Rattle.fa_types.specs.declared.geometry.Geometry.{Geometry}
use Rattle.fa_map.specs.Chains.{entry_of}
use Rattle.fa_map.specs.Entries.{is_current_entry, retired}
use Rattle.fa_map.specs.declared.entries.Entry.TheVariants.{Current}
use Rattle.fa_map.proofs.Seen.{renewed_free, renewed_once, shown_current, shown_told}
use Rattle.fa_map.proofs.page_map.PageMapMap.make_current.Goals as goal

pub add_copy-requires-clause-free : goal.add_copy-requires-clause-free
add_copy-requires-clause-free g c =
    let s = c.args.self.now in
    let mid = c.renew.new.self in
    let size = ap (λ (k : Geometry). k.dies * die_slots k) s.same in
    let each = subst (λ (k : Geometry). (d slot : ℕ) → d < k.dies → slot < die_slots k → entry_of mid.slots.entries (die_slots k) d slot
    ≡ (if c.is_last-is_last.result then entry_of s.tables.slots.entries (die_slots k) d slot else retired c.args.page.0 (entry_of s.tables.slots.entries (die_slots k) d slot))) s.same c.renew.ensures.entries in
    let full = s.tables.sound.tallied.slots ∙ size in
    let long = mid.sound.tallied.slots ∙ ap (λ (k : Geometry). k.dies * die_slots k) c.renew.ensures.geometry ∙ size in
    let now = ap die_slots (c.renew.ensures.geometry ∙ s.same) in
    subst (λ k. is_current_entry (entry_of mid.slots.entries k c.args.die.0 c.args.slot.0) ≡ false) (sym now) (renewed_free s.history.shown s.geometry s.live.items s.live_dies s.tables.pages.versions s.tables.slots.entries s.sound c.args.page c.args.version c.args.die.0 c.args.slot.0 c.is_last-is_last.result mid.slots.entries c.requires c.is_last-is_last.ensures full long each)

pub add_copy-requires-clause-once : goal.add_copy-requires-clause-once
add_copy-requires-clause-once g c = λ other within is.
    let s = c.args.self.now in
    let mid = c.renew.new.self in
    let size = ap (λ (k : Geometry). k.dies * die_slots k) s.same in
    let each = subst (λ (k : Geometry). (d slot : ℕ) → d < k.dies → slot < die_slots k → entry_of mid.slots.entries (die_slots k) d slot
    ≡ (if c.is_last-is_last.result then entry_of s.tables.slots.entries (die_slots k) d slot else retired c.args.page.0 (entry_of s.tables.slots.entries (die_slots k) d slot))) s.same c.renew.ensures.entries in
    let full = s.tables.sound.tallied.slots ∙ size in
    let long = mid.sound.tallied.slots ∙ ap (λ (k : Geometry). k.dies * die_slots k) c.renew.ensures.geometry ∙ size in
    let now = ap die_slots (c.renew.ensures.geometry ∙ s.same) in
    renewed_once s.history.shown s.geometry s.live.items s.live_dies s.tables.pages.versions s.tables.slots.entries s.sound c.args.page c.args.version c.args.die.0 c.args.slot.0 c.is_last-is_last.result mid.slots.entries c.requires c.is_last-is_last.ensures full long each other (subst (λ k. other < k) now within) (subst (λ k. entry_of mid.slots.entries k c.args.die.0 other ≡ Current c.args.page.0) now is)

pub invariant_of-self : goal.invariant_of-self
invariant_of-self g c =
    let s = c.args.self.now in
    let mid = c.renew.new.self in
    let size = ap (λ (k : Geometry). k.dies * die_slots k) s.same in
    let each = subst (λ (k : Geometry). (d slot : ℕ) → d < k.dies → slot < die_slots k → entry_of mid.slots.entries (die_slots k) d slot
    ≡ (if c.is_last-is_last.result then entry_of s.tables.slots.entries (die_slots k) d slot else retired c.args.page.0 (entry_of s.tables.slots.entries (die_slots k) d slot))) s.same c.renew.ensures.entries in
    let full = s.tables.sound.tallied.slots ∙ size in
    let long = mid.sound.tallied.slots ∙ ap (λ (k : Geometry). k.dies * die_slots k) c.renew.ensures.geometry ∙ size in
    let now = ap die_slots (c.renew.ensures.geometry ∙ s.same) in
    let written = c.add_copy.ensures.entries ∙ ap (λ k. set mid.slots.entries (c.args.die.0 * k + c.args.slot.0) (Current c.args.page.0)) now in
    let versions = c.set_version.ensures.versions ∙ ap (λ l. set l c.args.page.0 (Some c.args.version)) (c.add_copy.ensures.versions ∙ c.renew.ensures.versions) in
    record {
      sound =
          shown_told c.note.ensures refl refl versions (c.set_version.ensures.entries ∙ written)
          (shown_current s.history.shown s.geometry s.live.items s.live_dies s.tables.pages.versions s.tables.slots.entries s.sound c.args.page c.args.version c.args.die.0 c.args.slot.0 c.is_last-is_last.result mid.slots.entries c.requires c.is_last-is_last.ensures full long each);
      same = c.set_version.ensures.geometry ∙ c.add_copy.ensures.geometry ∙ c.renew.ensures.geometry ∙ s.same;
      few = s.few;
    }
