-- What contracts see of the programs that wait: one list, how many dies have a queue, and the room of each.
use Rattle.std.specs.Prelude.{ℕ, List, length, map, slice_index_or}
use Rattle.fa_machine.specs.State.{WaitingProgram}
use Rattle.fa_core_tables.specs.Queues.{room_in}
use Rattle.fa_core_tables.specs.declared.waiting.Waiting.{Waiting}

module _ {A : Type 0} where
  abbrev pub waiting_of : Waiting A → List WaitingProgram
  waiting_of waiting = waiting.programs.shown

  abbrev pub dies_of : Waiting A → ℕ
  dies_of waiting = length waiting.queues.items

  -- how many more programs a die's queue has room for, and 0 for a die without a queue
  abbrev pub room_of : Waiting A → ℕ → ℕ
  room_of waiting die = slice_index_or (map room_in waiting.queues.items) die 0
