-- What holds of a state besides what is true of the machine's: its containers have a place for each die of its geometry, its counters
-- are not at their ends, its batches know their bookings and reads, and what they name is of the array.
use Rattle.std.specs.FinMap.{contains_key, len}
use Rattle.std.specs.Prelude.{◌≡◌, ℕ, ◌+◌, ◌*◌, ◌<◌, ◌≤◌, ◌^◌, length, true}
use Rattle.fa_core_batches.specs.Batches.{batches_of, bytes_of}
use Rattle.fa_core_batches.specs.Pages.{opened}
use Rattle.fa_core_bookings.specs.Bookings.{calendar_of}
use Rattle.fa_machine.specs.Maps.{is_one_of}
use Rattle.fa_machine.specs.State.{MapState}
use Rattle.fa_core_tables.specs.Dies.{bound_of, by_die}
use Rattle.fa_core_tables.specs.Waits.{dies_of}
use Rattle.fa_set.specs.Members.{bound_of as numbers_of, members}
use Rattle.fa_core_state.specs.Tracked.{AreTracked}
use Rattle.fa_core_state.specs.declared.state.State.{State}

pub record IsFitted {M A : Type 0} (view : M → MapState) (state : State M A) : Type 0 where
  pub behind : numbers_of state.behind ≡ (view state.page_map).geometry.dies
  pub spares : numbers_of state.spares ≡ (view state.page_map).geometry.dies
  pub stepped : numbers_of state.stepped ≡ (view state.page_map).geometry.dies
  pub waiting : dies_of state.waiting ≡ (view state.page_map).geometry.dies
  pub jobs : bound_of state.jobs ≡ (view state.page_map).geometry.dies
  pub asked : bound_of state.asked ≡ (view state.page_map).geometry.dies
  pub synced : bound_of state.synced ≡ (view state.page_map).geometry.dies
  pub last : state.last < 2 ^ 62
  -- so that it can rise with each die that goes out or comes in
  pub epoch : state.epoch + len (view state.page_map).live + 2 * len (members state.spares) < 2 ^ 62
  pub flushes : state.flushes ≤ 2 ^ 62
  pub round : (calendar_of state.bookings).round ≤ 2 ^ 56
  pub buffers : bytes_of state.batches ≡ (view state.page_map).geometry.page_bytes
  pub tracked : AreTracked (calendar_of state.bookings).bookings (by_die state.jobs) state.batches
  -- the pages of a batch are of the array, and few
  pub listed : (batch page : ℕ) → is_one_of (opened (batches_of state.batches) batch).pages page ≡ true
      → page < (view state.page_map).geometry.pages
  pub few : (batch : ℕ) → length (opened (batches_of state.batches) batch).pages ≤ 1024
  -- bookings are on dies of the array, which have a place for a job
  pub inside : (die round : ℕ) → contains_key (calendar_of state.bookings).bookings (die, round) ≡ true
      → die < bound_of state.jobs
