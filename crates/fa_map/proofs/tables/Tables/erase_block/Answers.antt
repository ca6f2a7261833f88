use Rattle.std.proofs.Common.{◌≡◌, ◌+◌, ◌*◌, ◌<◌, ◌==◌, ◌&&◌, nat_le, nat_lt, if◌then◌else◌, Bool, sym, ap, subst, ◌∙◌, arith, set}
use Rattle.fa_map.specs.Chains.{entry_of}
use Rattle.fa_map.specs.Entries.{erased_entry}
use Rattle.fa_map_calls.specs.Plain.{die_slots}
use Rattle.fa_types.specs.declared.geometry.Geometry.{Geometry}
use Rattle.fa_map_calls.proofs.Indices.{die_fits, in_block, index_fits}
use Rattle.fa_map.proofs.Swept.{sweep_step}
use Rattle.fa_map.proofs.tables.Tables.erase_block.Goals as goal

pub loop-slot-preserved : goal.loop-slot-preserved
loop-slot-preserved g c =
    let s = c.args.self.now in
    let n = die_slots s.geometry in
    let same = ap die_slots c.loop-slot.invariant.geometry in
    let dies = ap (λ (k : Geometry). k.dies) c.loop-slot.invariant.geometry in
    let room = die_fits c.args.block s.geometry.blocks s.geometry.slots c.requires.block in
    let within : c.loop-slot.slot < n = omega (arith, room) in
    let fits = index_fits c.args.die.0 c.loop-slot.slot s.geometry.dies n c.requires.die within in
    record {
      geometry = c.erase_unreserved.ensures.geometry ∙ c.loop-slot.invariant.geometry;
      versions = c.erase_unreserved.ensures.versions ∙ c.loop-slot.invariant.versions;
      entries = sweep_step s.slots.entries c.loop-slot.self.slots.entries n erased_entry c.args.die.0 (c.args.block * s.geometry.slots) c.loop-slot.slot (omega arith) within
          (subst (λ k. c.args.die.0 * n + c.loop-slot.slot < k) (sym (c.loop-slot.self.sound.tallied.slots ∙ (λ i. dies i * same i))) fits) c.loop-slot.invariant.entries c.erase_unreserved.new.self.slots.entries
          (c.erase_unreserved.ensures.entries
          ∙ ap (λ k. set c.loop-slot.self.slots.entries (c.args.die.0 * k + c.loop-slot.slot) (erased_entry (entry_of c.loop-slot.self.slots.entries k c.args.die.0 c.loop-slot.slot))) same);
    }

pub returns-clause-entries : goal.returns-clause-entries
returns-clause-entries g c = λ d slot within.
    let s = c.args.self.now in
    let n = die_slots s.geometry in
    let few = s.geometry.within.slots_fit in
    let end : c.loop-slot.slot ≡ c.args.block * s.geometry.slots + s.geometry.slots = omega arith in
    c.loop-slot.invariant.entries d slot within
    ∙ ap (λ (b : Bool). if d == c.args.die.0 && b then erased_entry (entry_of s.slots.entries n d slot) else entry_of s.slots.entries n d slot)
    (ap (λ k. nat_le (c.args.block * s.geometry.slots) slot && nat_lt slot k) end ∙ in_block slot c.args.block s.geometry.slots (omega (arith, few.0)))
