-- The slot that a writer takes.
use Rattle.fa_machine.specs.Placement.{has_room, is_erased_slot, lowest_erased, room}
use Rattle.fa_machine.specs.State.{MapState, is_live}
use Rattle.fa_map_calls.proofs.Ranges.{find_below}
use Rattle.fa_map_calls.specs.Changes.{writers_slot}
use Rattle.std.proofs.Common.{None, Some, ap, arith, cond, true, ℕ, ◌*◌, ◌<◌, ◌≡◌}
use Rattle.std.proofs.lemmas.Bool.{and_parts}
use Rattle.std.specs.Prelude.{nat_lt}

-- the slot that a writer takes is the lowest that is erased, where there is room
pub writers_lowest : (m : MapState) (die : ℕ) → has_room m die ≡ true → writers_slot m die ≡ lowest_erased m die
writers_lowest m die room_is =
    ap (λ b. cond b (lowest_erased m die) None) (and_parts (is_live m die) (nat_lt 0 (room m die)) room_is).1

-- such a slot is the die's
pub lowest_fits : (m : MapState) (die slot : ℕ) → lowest_erased m die ≡ Some slot → slot < m.geometry.blocks * m.geometry.slots
lowest_fits m die slot is =
    let below_all = find_below (λ k. is_erased_slot m die k) 0 (m.geometry.blocks * m.geometry.slots) slot is in omega (arith, below_all)
