use Rattle.std.proofs.Common.{◌≡◌, ℕ, ◌<◌, ◌≤◌, slice_index_or}
use Rattle.fa_machine.specs.declared.places.Target.{Target}
use Rattle.fa_core_tables.specs.Waits.{dies_of, room_of, waiting_of}
use Rattle.fa_core_write.proofs.queueing.make_rooms.Given as goal

abbrev pub invariant-loop-index : goal.invariant-loop-index
invariant-loop-index g l =
    (dies_of l.waiting ≡ dies_of l.initial.waiting) × (waiting_of l.waiting ≡ waiting_of l.initial.waiting)
    × ((k : ℕ) (d : Target) → k < l.index → 3 ≤ room_of l.waiting (slice_index_or l.slots k d).die.0)
