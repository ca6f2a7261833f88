use Rattle.std.proofs.Common.{◌≡◌, ap, arith, sym, true, inl, inr, ◌∙◌, ◌*◌}
use Rattle.std.proofs.lemmas.Bool.{cases_eq}
use Rattle.fa_collect.proofs.Held.{held_is, is_current_state, other_state}
use Rattle.fa_map_calls.proofs.Ranges.{find_none, find_some}
use Rattle.fa_machine.specs.Copies.{is_held_slot}
use Rattle.fa_machine.specs.State.{used_at}
use Rattle.fa_machine.specs.declared.jobs.CollectorStep.TheVariants.{EraseBlock, MoveSlot}
use Rattle.fa_types.specs.declared.geometry.Geometry.{Geometry}
use Rattle.std.specs.Option.{option_map_or}
use Rattle.fa_collect.proofs.collector.step_on.Goals as goal

pub returns-in-Current : goal.returns-in-Current
returns-in-Current g c =
    let m = g.M.Map.view c.args.map.now in
    let slots : c.geometry-slots.result.slots ≡ m.geometry.slots = ap (λ (k : Geometry). k.slots) c.geometry-slots.ensures in
    let first : c.args.block.0 * c.geometry-slots.result.slots ≡ c.args.block.0 * m.geometry.slots = ap (λ n. c.args.block.0 * n) slots in
    let held : is_held_slot (used_at m c.args.die.0 c.loop-slot.slot) ≡ true =
    held_is (used_at m c.args.die.0 c.loop-slot.slot) ∙ ap is_current_state (sym c.state.ensures ∙ c.in-Current.is) in
    let low = c.loop-slot.auto.slot in
    let high = c.loop-slot-test.true in
    sym (ap (λ o. option_map_or (λ slot. MoveSlot (record { 0 = slot })) o (EraseBlock (record { 0 = c.args.block.0 })))
    (find_some (λ slot. is_held_slot (used_at m c.args.die.0 slot)) (c.args.block.0 * m.geometry.slots) m.geometry.slots c.loop-slot.slot
    (omega (arith, low, first)) (omega (arith, high, first, slots)) held
    (λ k from below. c.loop-slot.invariant k (omega (arith, from, first)) below)))

pub returns : goal.returns
returns g c =
    let m = g.M.Map.view c.args.map.now in
    let slots : c.geometry-slots.result.slots ≡ m.geometry.slots = ap (λ (k : Geometry). k.slots) c.geometry-slots.ensures in
    let first : c.args.block.0 * c.geometry-slots.result.slots ≡ c.args.block.0 * m.geometry.slots = ap (λ n. c.args.block.0 * n) slots in
    let high = c.loop-slot-test.false in
    sym (ap (λ o. option_map_or (λ slot. MoveSlot (record { 0 = slot })) o (EraseBlock (record { 0 = c.args.block.0 })))
    (find_none (λ slot. is_held_slot (used_at m c.args.die.0 slot)) (c.args.block.0 * m.geometry.slots) m.geometry.slots
    (λ k from below. c.loop-slot.invariant k (omega (arith, from, first)) (omega (arith, below, high, first, slots)))))

pub loop-slot-preserved : goal.loop-slot-preserved
loop-slot-preserved g c = λ k low high.
    let m = g.M.Map.view c.args.map.now in
    elim (cases_eq k c.loop-slot.slot) [
      | inl same ↦ ap (λ n. is_held_slot (used_at m c.args.die.0 n)) same ∙ held_is (used_at m c.args.die.0 c.loop-slot.slot)
          ∙ ap is_current_state (sym c.state.ensures) ∙ other_state c.state.result c.in_default.not-Current
      | inr apart ↦ c.loop-slot.invariant k low (omega (arith, high, apart))
    ]
