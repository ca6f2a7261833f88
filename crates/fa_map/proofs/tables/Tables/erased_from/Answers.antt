use Rattle.std.proofs.Common.{◌*◌, ◌+◌, ◌-◌, ap, sym, ◌∙◌, arith}
use Rattle.std.specs.List.{find, range_with_len}
use Rattle.std.specs.FinMap.{contains_key}
use Rattle.fa_map_calls.specs.Plain.{die_slots}
use Rattle.fa_map.proofs.Found.{erased_at, erased_none, erased_past, found_parts}
use Rattle.fa_map_calls.proofs.Ranges.{find_is}
use Rattle.fa_map.proofs.tables.Tables.erased_from.Goals as goal

pub overflow_sub-result : goal.overflow_sub-result
overflow_sub-result g c =
    let parts = find_is (contains_key c.args.self.now.finder.slots) _ _ c.in-Some.index (sym c.slot_from.ensures ∙ c.in-Some.is) in
    omega (arith, parts.0)

pub returns-in-Some : goal.returns-in-Some
returns-in-Some g c =
    let s = c.args.self.now in
    let start = c.args.die.0 * die_slots s.geometry + c.args.from in
    sym (erased_at s.geometry s.slots.entries s.counts.items (contains_key s.finder.slots) (contains_key s.finder.blocks) (found_parts s.geometry s.slots.entries s.counts.items s.finder s.found).2 c.args.die.0 c.requires.die
    c.args.from c.requires.from c.slot_from.result
    (c.slot_from.ensures ∙ ap (λ k. find (contains_key s.finder.slots) (range_with_len start (k - start))) (found_parts s.geometry s.slots.entries s.counts.items s.finder s.found).0)
    c.in-Some.index c.in-Some.is c.if-index-first.true)

pub returns-in_default : goal.returns-in_default
returns-in_default g c =
    let s = c.args.self.now in
    let start = c.args.die.0 * die_slots s.geometry + c.args.from in
    sym (erased_past s.geometry s.slots.entries s.counts.items (contains_key s.finder.slots) (contains_key s.finder.blocks) (found_parts s.geometry s.slots.entries s.counts.items s.finder s.found).2 c.args.die.0 c.requires.die
    c.args.from c.requires.from c.slot_from.result
    (c.slot_from.ensures ∙ ap (λ k. find (contains_key s.finder.slots) (range_with_len start (k - start))) (found_parts s.geometry s.slots.entries s.counts.items s.finder s.found).0)
    c.in-Some.index c.in-Some.is c.if-index-first.false)

pub returns-in_default-2 : goal.returns-in_default-2
returns-in_default-2 g c =
    let s = c.args.self.now in
    let start = c.args.die.0 * die_slots s.geometry + c.args.from in
    sym (erased_none s.geometry s.slots.entries s.counts.items (contains_key s.finder.slots) (contains_key s.finder.blocks) (found_parts s.geometry s.slots.entries s.counts.items s.finder s.found).2 c.args.die.0 c.requires.die
    c.args.from c.requires.from c.slot_from.result
    (c.slot_from.ensures ∙ ap (λ k. find (contains_key s.finder.slots) (range_with_len start (k - start))) (found_parts s.geometry s.slots.entries s.counts.items s.finder s.found).0)
    c.in_default.is)
