-- Programs that wait, in a queue for each die.
use Rattle.std.specs.Prelude.{◌≡◌, ℕ, ◌-◌, List, [], filter, map, slice_index_or}
use Rattle.std.specs.VecDeque.{deque_capacity, deque_len}
use Rattle.std.specs.declared.collections.VecDeque.{VecDeque}
use Rattle.fa_machine.specs.State.{WaitingProgram}
use Rattle.fa_machine.specs.Taking.{is_for}
use Rattle.fa_core_tables.specs.declared.queued.QueuedProgram.{QueuedProgram}

-- Each queue has the programs that wait for its die, the oldest first. No program waits for a die without a queue.
pub record AreQueues (waiting : List WaitingProgram) (queues : List (List WaitingProgram)) : Type 0 where
  pub each : (die : ℕ) → slice_index_or queues die [] ≡ filter (is_for die) waiting

module _ {A : Type 0} where
  -- a queued program as the array's state has it
  abbrev pub program_of : QueuedProgram A → WaitingProgram
  program_of p = record { die = p.die.0; slot = p.slot.0; page = p.page.0; version = p.version; payload = p.payload }

  abbrev pub programs_in : VecDeque (QueuedProgram A) A → List WaitingProgram
  programs_in queue = map program_of queue.items

  abbrev pub queues_in : List (VecDeque (QueuedProgram A) A) → List (List WaitingProgram)
  queues_in queues = map programs_in queues

  -- how many more programs a queue has room for
  abbrev pub room_in : VecDeque (QueuedProgram A) A → ℕ
  room_in queue = deque_capacity queue - deque_len queue
