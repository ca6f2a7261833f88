-- The array's state: one record of finite maps. Pages, dies, slots, rounds and ids are keys by their numbers.
-- Two states with the same entries are equal.
use Rattle.std.specs.Prelude.{ℕ, ◌*◌, Bool, List, Option}
use Rattle.std.specs.Ordering.{nat_cmp}
use Rattle.std.specs.FinMap.{FinMap, contains_key, get}
use Rattle.fa_types.specs.declared.geometry.Geometry.{Geometry}
use Rattle.fa_machine.specs.declared.answers.HistoryEntry.{HistoryEntry}
use Rattle.fa_machine.specs.declared.jobs.Flight.{Flight}
use Rattle.fa_machine.specs.declared.places.Booking.{Booking}
use Rattle.fa_machine.specs.declared.places.Copying.{Copying}
use Rattle.fa_machine.specs.declared.places.Target.{Target}
use Rattle.fa_machine.specs.declared.places.Used.{Used}
use Rattle.fa_machine.specs.declared.places.Version.{Version}
use Rattle.fa_types.specs.declared.window.Window.{Window}
use Rattle.fa_machine.specs.Maps.{place_cmp, Numbers, below}

-- The page map's part: which dies are live, the last write of each page that was ever written, and the state of
-- each slot of a live die, by die and slot. A slot that is not named is erased.
pub record MapState : Type 0 where
  pub geometry : Geometry
  pub live : Numbers
  pub versions : FinMap nat_cmp Version
  pub used : FinMap place_cmp Used

-- The calendar's part: the current round, the booked rounds by die and round, and the window of each die that
-- has one which has not passed.
pub record CalendarState : Type 0 where
  pub round : ℕ
  pub bookings : FinMap place_cmp Booking
  pub windows : FinMap nat_cmp Window

-- what is reserved under a claim: the number that was given, and a slot for each copy
pub record Reservation : Type 0 where
  pub version : Version
  pub targets : List Target

-- a page that is one writer's to write
pub record OpenClaim : Type 0 where
  pub page : ℕ
  pub reserved : Option Reservation

-- a batch: its pages in the list's order, and the bytes of those that have an answer
pub record OpenBatch : Type 0 where
  pub pages : List ℕ
  pub answers : FinMap nat_cmp (List ℕ)

-- a program that waits for its die
pub record WaitingProgram : Type 0 where
  pub die : ℕ
  pub slot : ℕ
  pub page : ℕ
  pub version : Version
  pub payload : List ℕ

-- where the history begins: a number or none for each page, and how many Commits and Starts came before
pub record Base : Type 0 where
  pub numbers : FinMap nat_cmp ℕ
  pub commits : ℕ
  pub starts : ℕ

pub record Core : Type 0 where
  -- how many copies a page is to have, 2 or 3; no event changes it
  pub copies : ℕ
  pub page_map : MapState
  pub calendar : CalendarState
  -- how often the live dies have changed
  pub epoch : ℕ
  -- live dies whose header is not one of this epoch
  pub behind : Numbers
  -- spares that were not brought in yet
  pub spares : Numbers
  -- dies whose collector's step of this round is done
  pub stepped : Numbers
  -- the last sequence number given
  pub last : ℕ
  -- the oldest first
  pub waiting : List WaitingProgram
  -- the job of each die that has one
  pub jobs : FinMap nat_cmp Flight
  -- the copy under way
  pub copying : Option Copying
  pub claims : FinMap nat_cmp OpenClaim
  pub batches : FinMap nat_cmp OpenBatch
  -- how many flushes were begun
  pub flushes : ℕ
  -- for each live die the last flush that asked it for a sync
  pub asked : FinMap nat_cmp ℕ
  -- for each live die how many flushes had been begun when its last sync that ended was taken
  pub synced : FinMap nat_cmp ℕ
  pub base : Base
  pub history : List HistoryEntry

-- all dies, the spares and those that are out among them
abbrev pub dies_of : MapState → List ℕ
dies_of m = below m.geometry.dies

-- the slots of a die
abbrev pub slots_of : MapState → List ℕ
slots_of m = below (m.geometry.blocks * m.geometry.slots)

abbrev pub is_live : MapState → ℕ → Bool
is_live m die = contains_key m.live die

-- the state of a slot, and nothing where it is erased
abbrev pub used_at : MapState → ℕ → ℕ → Option Used
used_at m die slot = get m.used (die, slot)
