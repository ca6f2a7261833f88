-- What the collector does: its victim, and its next step.
use Rattle.std.specs.Prelude.{ℕ, ◌*◌, ◌/◌, Bool, not, ◌==◌, ◌&&◌, ◌||◌, nat_lt, nat_le, List, Option}
use Rattle.std.specs.Prelude.{find, count_by}
use Rattle.std.specs.Option.{option_map_or}
use Rattle.std.specs.List.{list_all, range_with_len}
use Rattle.fa_machine.specs.declared.jobs.CollectorStep.{CollectorStep}
use Rattle.fa_machine.specs.declared.jobs.CollectorStep.TheVariants.{MoveSlot, EraseBlock, Nothing}
use Rattle.fa_machine.specs.declared.places.Used.{Used}
use Rattle.fa_machine.specs.Copies.{is_reserved_slot, is_held_slot, is_stale_slot}
use Rattle.fa_machine.specs.Maps.{below}
use Rattle.fa_machine.specs.Placement.{is_erased_slot}
use Rattle.fa_machine.specs.State.{MapState, slots_of, used_at}

-- the slots of a block
abbrev pub slots_in : MapState → ℕ → List ℕ
slots_in m block = range_with_len (block * m.geometry.slots) m.geometry.slots

abbrev pub is_in_block : MapState → ℕ → ℕ → Bool
is_in_block m block slot = slot / m.geometry.slots == block

-- how many slots of a block are in such a state
abbrev pub count_in : MapState → ℕ → ℕ → (Option Used → Bool) → ℕ
count_in m die block test = count_by (λ slot. test (used_at m die slot)) (slots_in m block)

-- what the collector may take to move a slot of the block: an erased slot outside of it
abbrev pub is_erased_outside : MapState → ℕ → ℕ → ℕ → Bool
is_erased_outside m die block slot = is_erased_slot m die slot && not (is_in_block m block slot)

-- Whether a block may be the victim: it has a stale slot, none that is reserved, and no more current ones than there
-- are erased slots outside of it.
abbrev pub may_be_victim : MapState → ℕ → ℕ → Bool
may_be_victim m die block =
    nat_lt 0 (count_in m die block is_stale_slot) && count_in m die block is_reserved_slot == 0
    && nat_le (count_in m die block is_held_slot) (count_by (is_erased_outside m die block) (slots_of m))

-- whether a block has no more stale slots than b, where it may be the victim at all
abbrev pub is_no_better : MapState → ℕ → ℕ → ℕ → Bool
is_no_better m die b block = not (may_be_victim m die block) || nat_le (count_in m die block is_stale_slot) (count_in m die b is_stale_slot)

-- The victim: among those blocks the one with most stale slots, the lowest on ties.
abbrev pub victim : MapState → ℕ → Option ℕ
victim m die = find (λ b. may_be_victim m die b && list_all (is_no_better m die b) (below m.geometry.blocks)) (below m.geometry.blocks)

-- the next step on a victim: to move its lowest current slot, and where none is left to erase it
abbrev pub step_on : MapState → ℕ → ℕ → CollectorStep
step_on m die block = option_map_or (λ slot. MoveSlot (record { 0 = slot }))
    (find (λ slot. is_held_slot (used_at m die slot)) (slots_in m block)) (EraseBlock (record { 0 = block }))

abbrev pub next_step : MapState → ℕ → CollectorStep
next_step m die = option_map_or (step_on m die) (victim m die) Nothing

-- where the collector moves a slot of its victim to: the lowest erased slot outside of it
abbrev pub move_place : MapState → ℕ → ℕ → Option ℕ
move_place m die block = find (is_erased_outside m die block) (slots_of m)
