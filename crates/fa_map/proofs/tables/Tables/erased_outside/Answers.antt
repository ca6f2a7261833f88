use Rattle.std.proofs.Common.{◌-◌, sym, ◌∙◌, arith}
use Rattle.std.proofs.Math.Nat.{mul-le-mul}
use Rattle.std.specs.FinMap.{contains_key}
use Rattle.fa_map.specs.Chains.{entry_of}
use Rattle.fa_map.specs.Entries.{is_erased_entry}
use Rattle.fa_map_calls.specs.Plain.{die_slots}
use Rattle.fa_map.proofs.Found.{block_end, found_parts, outside_first, outside_later, outside_none}
use Rattle.fa_map_calls.proofs.Ranges.{find_below}
use Rattle.fa_map.proofs.tables.Tables.erased_outside.Goals as goal

pub erased_from-requires-in-Some-clause-from : goal.erased_from-requires-in-Some-clause-from
erased_from-requires-in-Some-clause-from g c =
    let s = c.args.self.now in
    let n = die_slots s.geometry in
    let inside = find_below (λ slot. is_erased_entry (entry_of s.slots.entries n c.args.die.0 slot)) 0 (n - 0) c.in-Some.slot
    (sym c.erased_from.ensures ∙ c.in-Some.is) in
    block_end s.geometry c.in-Some.slot c.args.block (omega (arith, inside)) c.if-slot-self.true

pub overflow_mul-block : goal.overflow_mul-block
overflow_mul-block g c =
    let s = c.args.self.now in
    let n = die_slots s.geometry in
    let inside = find_below (λ slot. is_erased_entry (entry_of s.slots.entries n c.args.die.0 slot)) 0 (n - 0) c.in-Some.slot
    (sym c.erased_from.ensures ∙ c.in-Some.is) in
    let end = block_end s.geometry c.in-Some.slot c.args.block (omega (arith, inside)) c.if-slot-self.true in
    let slots = s.geometry.within.slots_fit in
    let blocks = s.geometry.within.blocks_fit in
    let most = mul-le-mul blocks.1 slots.1 in
    omega (arith, end, most)

pub returns-in-Some-clause-slot : goal.returns-in-Some-clause-slot
returns-in-Some-clause-slot g c =
    let s = c.args.self.now in
    let n = die_slots s.geometry in
    let some = s.geometry.within.slots_fit in
    let at = sym c.erased_from.ensures ∙ c.in-Some.is in
    let inside = find_below (λ slot. is_erased_entry (entry_of s.slots.entries n c.args.die.0 slot)) 0 (n - 0) c.in-Some.slot at in
    outside_later s.geometry s.slots.entries s.counts.items (contains_key s.finder.slots) (contains_key s.finder.blocks) (found_parts s.geometry s.slots.entries s.counts.items s.finder s.found).2 c.args.die.0 c.requires
    c.args.block c.in-Some.slot (omega (arith, some.0)) at c.if-slot-self.true
    (block_end s.geometry c.in-Some.slot c.args.block (omega (arith, inside)) c.if-slot-self.true)
    c.erased_from-in-Some.result c.erased_from-in-Some.ensures

pub returns-in-Some-2-clause-slot : goal.returns-in-Some-2-clause-slot
returns-in-Some-2-clause-slot g c =
    let s = c.args.self.now in
    sym (outside_first s.geometry s.slots.entries s.counts.items (contains_key s.finder.slots) (contains_key s.finder.blocks) (found_parts s.geometry s.slots.entries s.counts.items s.finder s.found).2 c.args.die.0 c.requires
    c.args.block c.in-Some.slot (sym c.erased_from.ensures ∙ c.in-Some.is) c.if-slot-self.false)

pub returns-in-None-clause-slot : goal.returns-in-None-clause-slot
returns-in-None-clause-slot g c =
    let s = c.args.self.now in
    sym (outside_none s.geometry s.slots.entries s.counts.items (contains_key s.finder.slots) (contains_key s.finder.blocks) (found_parts s.geometry s.slots.entries s.counts.items s.finder s.found).2 c.args.die.0 c.requires
    c.args.block (sym c.erased_from.ensures ∙ c.in-None.is))
