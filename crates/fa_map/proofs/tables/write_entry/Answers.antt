use Rattle.std.proofs.Common.{ℕ, ◌+◌, ◌*◌, ◌/◌, ◌<◌, Bool, List, get_or, sym, ap, subst, ◌∙◌, arith, set}
use Rattle.std.proofs.Math.Nat.{mul-le-mul}
use Rattle.fa_map.specs.Entries.{AreTallied, count_of, is_erased_entry, is_same_state, no_counts, one_if, state_of_entry}
use Rattle.fa_map.specs.declared.entries.Entry.{Entry}
use Rattle.fa_map_calls.specs.declared.slots.SlotState.{SlotState}
use Rattle.fa_map_calls.specs.declared.slots.SlotState.TheVariants as states
use Rattle.fa_map.proofs.Tallied.{free_few, free_some, its_block, set_few, tallied_set, tally_few, tally_some}
use Rattle.std.specs.FinMap.{contains_key}
use Rattle.std.specs.Prelude.{if◌then◌else◌, ◌==◌}
use Rattle.fa_machine.specs.Maps.{Numbers}
use Rattle.fa_map.specs.Found.{IsFound, rank_index}
use Rattle.fa_map_calls.specs.Plain.{die_slots}
use Rattle.fa_map.proofs.Found.{found_parts, found_set, found_whole}
use Rattle.fa_map_calls.proofs.Indices.{index_fits}
use Rattle.fa_map.proofs.tables.write_entry.Goals as goal

pub moved-after-requires-clause-from : goal.moved-after-requires-clause-from
moved-after-requires-clause-from g c =
    let k = c.args.geometry in
    let s = c.args.slots.now.entries in
    let old = c.requires.old in
    subst (λ (x : SlotState). 0 < count_of x (get_or c.args.counts.now (c.args.die.0 * k.blocks + c.args.slot.0 / k.slots) no_counts))
    (sym (c.state_of.ensures ∙ ap state_of_entry old)) (tally_some k s c.args.counts.now c.args.erased.now c.requires.tallied c.args.die.0 c.args.slot.0 c.requires.die c.requires.slot)

pub moved-after-requires-clause-to : goal.moved-after-requires-clause-to
moved-after-requires-clause-to g c =
    let k = c.args.geometry in
    let s = c.args.slots.now.entries in
    let few = tally_few k s c.args.counts.now c.args.erased.now c.requires.tallied c.args.die.0 c.args.slot.0 c.requires.die c.requires.slot c.state_of-2.result in
    let most = k.within.slots_fit in
    omega (arith, few, most.1)

pub shifted-requires-clause-some : goal.shifted-requires-clause-some
shifted-requires-clause-some g c = λ is.
    let k = c.args.geometry in
    let s = c.args.slots.now.entries in
    let old = c.requires.old in
    free_some k s c.args.counts.now c.args.erased.now c.requires.tallied c.args.die.0 c.args.slot.0 c.requires.die c.requires.slot
    (sym (c.is_erased-from.ensures ∙ ap is_erased_entry old) ∙ is)

pub shifted-requires-clause-few : goal.shifted-requires-clause-few
shifted-requires-clause-few g c =
    let k = c.args.geometry in
    let s = c.args.slots.now.entries in
    let few = free_few k s c.args.counts.now c.args.erased.now c.requires.tallied c.args.die.0 c.args.slot.0 c.requires.die c.requires.slot in
    let most = k.within.slots_fit in
    let more = k.within.blocks_fit in
    let all = mul-le-mul more.1 most.1 in
    omega (arith, few, all)

pub put_slot-requires-clause-bound : goal.put_slot-requires-clause-bound
put_slot-requires-clause-bound g c =
    let slots = (found_parts c.args.geometry c.args.slots.now.entries c.args.counts.now c.args.finder.now c.requires.found).0 in
    omega (arith, c.index_of-index.ensures.fits, slots)

pub put_slot-requires-clause-was : goal.put_slot-requires-clause-was
put_slot-requires-clause-was g c =
    let k = c.args.geometry in
    let s = c.args.slots.now.entries in
    let old = c.requires.old in
    ap (contains_key c.args.finder.now.slots) c.index_of-index.ensures.index
    ∙ (found_parts k s c.args.counts.now c.args.finder.now c.requires.found).2.slots c.args.die.0 c.args.slot.0 c.requires.die c.requires.slot
    ∙ sym (c.is_erased-from.ensures ∙ ap is_erased_entry old)

pub put_block-requires-clause-bound : goal.put_block-requires-clause-bound
put_block-requires-clause-bound g c =
    c.put_slot.ensures.blocks_bound ∙ (found_parts c.args.geometry c.args.slots.now.entries c.args.counts.now c.args.finder.now c.requires.found).1

pub put_block-requires-clause-few : goal.put_block-requires-clause-few
put_block-requires-clause-few g c =
    let k = c.args.geometry in
    let s = c.args.slots.now.entries in
    tally_few k s c.args.counts.now c.args.erased.now c.requires.tallied c.args.die.0 c.args.slot.0 c.requires.die c.requires.slot states.Stale

pub put_block-requires-clause-few_now : goal.put_block-requires-clause-few_now
put_block-requires-clause-few_now g c =
    let k = c.args.geometry in
    let s = c.args.slots.now.entries in
    let old = c.requires.old in
    let counts = get_or c.args.counts.now (c.args.die.0 * k.blocks + c.args.slot.0 / k.slots) no_counts in
    set_few k s c.args.counts.now c.args.erased.now c.requires.tallied c.args.die.0 c.args.slot.0 c.requires.die c.requires.slot c.args.entry c.moved-after.result c.shifted.result
    (tallied_set k s c.args.counts.now c.args.erased.now c.requires.tallied c.args.die.0 c.args.slot.0 c.requires.die c.requires.slot c.args.entry c.moved-after.result c.shifted.result
    (λ x.
    ap (λ (j : SlotState). count_of x c.moved-after.result + one_if (is_same_state j x)) (sym (c.state_of.ensures ∙ ap state_of_entry old)) ∙ c.moved-after.ensures x
    ∙ ap (λ (j : SlotState). count_of x counts + one_if (is_same_state j x)) c.state_of-2.ensures)
    (ap (λ (b : Bool). c.shifted.result + one_if b) (sym (c.is_erased-from.ensures ∙ ap is_erased_entry old)) ∙ c.shifted.ensures
    ∙ ap (λ (b : Bool). get_or c.args.erased.now c.args.die.0 0 + one_if b) c.is_erased-to.ensures))
    states.Stale

pub put_block-requires-clause-was : goal.put_block-requires-clause-was
put_block-requires-clause-was g c = λ rank least.
    let k = c.args.geometry in
    let s = c.args.slots.now.entries in
    let number = c.args.slot.0 / k.slots in
    ap (λ (m : Numbers). contains_key m (rank_index k c.args.die.0 rank number)) c.put_slot.ensures.blocks
    ∙ (found_parts k s c.args.counts.now c.args.finder.now c.requires.found).2.blocks c.args.die.0 rank number c.requires.die least (its_block k s c.args.counts.now c.args.erased.now c.requires.tallied c.args.die.0 c.args.slot.0 c.requires.die c.requires.slot)

pub returns-clause-tallied : goal.returns-clause-tallied
returns-clause-tallied g c =
    let k = c.args.geometry in
    let s = c.args.slots.now.entries in
    let old = c.requires.old in
    let counts = get_or c.args.counts.now (c.args.die.0 * k.blocks + c.args.slot.0 / k.slots) no_counts in
    subst (λ (l : List Entry). AreTallied k l (set c.args.counts.now (c.args.die.0 * k.blocks + c.args.slot.0 / k.slots) c.moved-after.result)
    (set c.args.erased.now c.args.die.0 c.shifted.result))
    (sym (c.set_entry.ensures.entries ∙ ap (λ (j : ℕ). set s j c.args.entry) c.index_of-index.ensures.index))
    (tallied_set k s c.args.counts.now c.args.erased.now c.requires.tallied c.args.die.0 c.args.slot.0 c.requires.die c.requires.slot c.args.entry c.moved-after.result c.shifted.result
    (λ x.
    ap (λ (j : SlotState). count_of x c.moved-after.result + one_if (is_same_state j x)) (sym (c.state_of.ensures ∙ ap state_of_entry old)) ∙ c.moved-after.ensures x
    ∙ ap (λ (j : SlotState). count_of x counts + one_if (is_same_state j x)) c.state_of-2.ensures)
    (ap (λ (b : Bool). c.shifted.result + one_if b) (sym (c.is_erased-from.ensures ∙ ap is_erased_entry old)) ∙ c.shifted.ensures
    ∙ ap (λ (b : Bool). get_or c.args.erased.now c.args.die.0 0 + one_if b) c.is_erased-to.ensures))

pub returns-clause-found : goal.returns-clause-found
returns-clause-found g c =
    let k = c.args.geometry in
    let s = c.args.slots.now.entries in
    let index = c.args.die.0 * die_slots k + c.args.slot.0 in
    let number = c.args.slot.0 / k.slots in
    let tallied = c.requires.tallied in
    let its = its_block k s c.args.counts.now c.args.erased.now c.requires.tallied c.args.die.0 c.args.slot.0 c.requires.die c.requires.slot in
    let old = c.args.finder.now in
    let parts = found_parts k s c.args.counts.now old c.requires.found in
    subst (λ (l : List Entry). IsFound k l (set c.args.counts.now (c.args.die.0 * k.blocks + number) c.moved-after.result) c.put_block.new.self)
    (sym (c.set_entry.ensures.entries ∙ ap (λ (j : ℕ). set s j c.args.entry) c.index_of-index.ensures.index))
    (found_whole k (set s index c.args.entry) (set c.args.counts.now (c.args.die.0 * k.blocks + number) c.moved-after.result) c.put_block.new.self
    (c.put_block.ensures.slots_bound ∙ c.put_slot.ensures.bound ∙ parts.0)
    (c.put_block.ensures.bound ∙ c.put_slot.ensures.blocks_bound ∙ parts.1)
    (found_set k s c.args.counts.now (contains_key old.slots) (contains_key old.blocks) parts.2 c.args.die.0 c.args.slot.0 c.requires.slot
    (subst (λ n. index < n) (sym tallied.slots) (index_fits c.args.die.0 c.args.slot.0 k.dies (die_slots k) c.requires.die c.requires.slot)) its
    (subst (λ n. c.args.die.0 * k.blocks + number < n) (sym tallied.blocks) (index_fits c.args.die.0 number k.dies k.blocks c.requires.die its))
    c.args.entry c.moved-after.result (contains_key c.put_block.new.self.slots) (contains_key c.put_block.new.self.blocks)
    (λ j.
    ap (λ (m : Numbers). contains_key m j) c.put_block.ensures.slots ∙ c.put_slot.ensures.slots j
    ∙ ap (λ i. if j == i then c.is_erased-to.result else contains_key old.slots j) c.index_of-index.ensures.index
    ∙ ap (λ (b : Bool). if j == index then b else contains_key old.slots j) c.is_erased-to.ensures)
    c.put_block.ensures.here
    (λ d rank b least inside apart.
    c.put_block.ensures.others d rank b least inside apart ∙ ap (λ (m : Numbers). contains_key m (rank_index k d rank b)) c.put_slot.ensures.blocks)))
