-- A request from its beginning to its end, by one thread: its turns, what it prepares, and what is done for dies while it waits.
use Rattle.std.specs.Prelude.{◌≡◌, ℕ, ◌+◌, IsTrue, List}
use Rattle.fa_shared_request.specs.Counts.{GoesOn}
use Rattle.fa_mount_headers.specs.declared.judging.Standing.{Standing}
use Rattle.fa_image.specs.Image.{ImageAnswer, ImageCall}
use Rattle.fa_shared_lock.specs.Moves.{Turned}
use Rattle.fa_shared_request.specs.Ops.{OpView, Prepares, answer_of, stage_of, task_in}
use Rattle.fa_shared_request.specs.Waiting.{HasNoWindow, awaits_flush, waits, without_room}
use Rattle.fa_shared_steps.specs.declared.request.Task.{Task}
use Rattle.fa_shared_steps.specs.declared.stage.Stage.{Stage}
use Rattle.fa_shared_lock.specs.Seats.{commits_with, number_of}
use Rattle.fa_shared_lock.specs.declared.seat.Seat.{Seat}
use Rattle.fa_solo_job.specs.Deeds.{Goes, IsMeanwhile}
use Rattle.fa_solo_job.specs.House.{House}
use Rattle.fa_solo_job.specs.Inner.{house_of}
use Rattle.fa_solo_job.specs.declared.inner.Inner.{Inner}
use Rattle.fa_types.specs.declared.blocks.BlockFault.{BlockFault}

-- How far a request is: the array with its images, the seat by which its events are made, its stage, and its answer so far.
pub record Asking (L I A : Type 0) : Type 0 where
  pub house : House I
  pub seat : Seat L
  pub stage : Stage A
  pub answer : List ℕ

module _ {L I A : Type 0} (made : I → ImageCall → ImageAnswer → I → Type 0) (array : List ℕ) (dies : List Standing) (seat : ℕ) (task : Task)
    (bytes : List ℕ) where
  -- a turn of the request, which leaves the images as they are
  pub record MakesTurn (old new : Asking L I A) : Type 0 where
    pub turned : Turned task old.seat new.seat old.house.core old.stage new.house.core new.stage
    pub number : number_of new.seat ≡ number_of old.seat
    pub images : new.house.images ≡ old.house.images
    pub answer : new.answer ≡ old.answer

  -- what it prepares, which leaves the array as it is
  pub record MakesReady (old new : Asking L I A) : Type 0 where
    pub prepares : Prepares task bytes old.stage old.answer new.stage new.answer
    pub same_house : new.house ≡ old.house
    pub same_seat : new.seat ≡ old.seat

  -- what is done while it may have to wait, which leaves the request as it is
  pub record PassesTime (old new : Asking L I A) : Type 0 where
    pub in_time : IsTrue (waits old.stage)
    pub goes : Goes made array dies seat (IsMeanwhile (awaits_flush old.stage)) old.house new.house
    pub commits : commits_with new.seat ≡ commits_with old.seat
    pub number : number_of new.seat ≡ number_of old.seat
    pub stage : new.stage ≡ old.stage
    pub answer : new.answer ≡ old.answer

  -- A write that wants room is refused, as no window is to be had by which a die would be collected.
  pub record GivesUp (old new : Asking L I A) : Type 0 where
    pub fault : BlockFault
    pub cause : HasNoWindow old.house.core fault
    pub stage : new.stage ≡ without_room fault old.stage
    pub same_house : new.house ≡ old.house
    pub same_seat : new.seat ≡ old.seat
    pub answer : new.answer ≡ old.answer

  -- any number of these, one after the other, and how many of them are turns
  pub data Asks (old : Asking L I A) : ℕ → Asking L I A → Type 0 where
    Begins : Asks old 0 old
    Turns : (turns : ℕ) (middle new : Asking L I A) → Asks old turns middle → MakesTurn middle new → Asks old (turns + 1) new
    Readies : (turns : ℕ) (middle new : Asking L I A) → Asks old turns middle → MakesReady middle new → Asks old turns new
    Waits : (turns : ℕ) (middle new : Asking L I A) → Asks old turns middle → PassesTime middle new → Asks old turns new
    Refuses : (turns : ℕ) (middle new : Asking L I A) → Asks old turns middle → GivesUp middle new → Asks old turns new

module _ {L M I A : Type 0} where
  abbrev pub asking_of : Inner L M I A → OpView A → Asking L I A
  asking_of inner op = record { house = house_of inner; seat = inner.seat; stage = stage_of op; answer = answer_of op }

  -- A request went on so, with these bytes. The Commits of the seat keep up with its pages, and nothing else of the array under its lock
  -- has changed.
  pub record RunsOn (made : I → ImageCall → ImageAnswer → I → Type 0) (bytes : List ℕ) (inner : Inner L M I A) (op : OpView A) (new : Inner L M I A)
      (next : OpView A) : Type 0 where
    pub turns : ℕ
    pub asks : Asks made inner.locked.number inner.dies.items (number_of inner.seat) (task_in op) bytes (asking_of inner op) turns (asking_of new next)
    pub counts : GoesOn inner.seat op new.seat next
    pub rest : new.locked ≡ record inner.locked { core = new.locked.core; book = new.locked.book }
    pub dies : new.dies.items ≡ inner.dies.items
