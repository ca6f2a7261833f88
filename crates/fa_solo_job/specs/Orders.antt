-- What is done for the array's order: deeds, and pages that get one more copy of what was read of them; and how it ends.
use Rattle.std.specs.Prelude.{◌≡◌, ℕ, ◌+◌, ◌-◌, ◌^◌, ◌<◌, ◌≤◌, true, false, List, [], ◌∷◌, ◌++◌, Some, None, Result, Ok, Err}
use Rattle.std.specs.FinMap.{get}
use Rattle.fa_mount_headers.specs.declared.judging.Standing.{Standing}
use Rattle.fa_image.specs.Image.{ImageAnswer, ImageCall}
use Rattle.fa_machine.specs.Looks.{next_thin, wants_window}
use Rattle.fa_machine.specs.Placement.{is_thin}
use Rattle.fa_machine.specs.Reading.{Admitted, results}
use Rattle.fa_machine.specs.State.{Core}
use Rattle.fa_machine.specs.Step.{Act, Step, Admit, Advance, CommitCopy, EndBatch, ReserveCopy, Window}
use Rattle.fa_machine.specs.declared.answers.Copied.{Copied}
use Rattle.fa_machine.specs.declared.answers.ReadState.TheVariants.{Ready, Waiting}
use Rattle.fa_machine.specs.declared.places.Version.{Version}
use Rattle.fa_machine.specs.declared.refusals.AdvanceRefused.{AdvanceRefused}
use Rattle.fa_machine.specs.declared.refusals.CommitCopyRefused.{CommitCopyRefused}
use Rattle.fa_machine.specs.declared.refusals.CommitCopyRefused.TheVariants.{Pending}
use Rattle.fa_machine.specs.declared.refusals.ReserveCopyRefused.TheVariants.{NoRoom, Busy as CopyBusy, NoMemory as CopyNoMemory}
use Rattle.fa_machine.specs.declared.refusals.WindowRefused.TheVariants.{Busy as WindowBusy, NoMemory as WindowNoMemory}
use Rattle.fa_solo_job.specs.Deeds.{Goes, IsDue, IsForDies, IsForOrder, windows_in}
use Rattle.fa_solo_job.specs.House.{House}

-- What ends it where it is refused: a window, a batch, or a slot for one more copy.
abbrev pub IsRefusal : Act → Type 0
IsRefusal (Window die rounds (Err WindowBusy)) = Unit {0}
IsRefusal (Window die rounds (Err WindowNoMemory)) = Unit {0}
IsRefusal (Admit (page ∷ []) (Err refused)) = Unit {0}
IsRefusal (ReserveCopy page seq payload (Err NoRoom)) = Unit {0}
IsRefusal (ReserveCopy page seq payload (Err CopyNoMemory)) = Unit {0}
-- while a copy is under way that was given up
IsRefusal (ReserveCopy page seq payload (Err CopyBusy)) = Unit {0}
IsRefusal act = ⊥

-- no live die wants a window
abbrev pub WantsNoWindow : Core → Type 0
WantsNoWindow core = (die : ℕ) → die < core.page_map.geometry.dies → wants_window core.page_map die ≡ false

-- Nothing is left to be done: no live die wants a window, and no thin page has a place to go.
pub record IsInOrder (core : Core) : Type 0 where
  pub windows : WantsNoWindow core
  pub copies : next_thin core.copies core.page_map ≡ None

module _ {I : Type 0} (made : I → ImageCall → ImageAnswer → I → Type 0) (array : List ℕ) (dies : List Standing) (seat : ℕ) where
  -- A batch is looked at so often while it has not all of its answers, and behind each look what there is to be done for dies is made.
  pub data Awaits (batch : ℕ) (old : House I) : ℕ → House I → Type 0 where
    NoWait : Awaits batch old 0 old
    WaitsOn : (looks : ℕ) (middle new : House I) → Awaits batch old looks middle → results middle.core batch ≡ Waiting
        → Goes made array dies seat IsForDies middle new → Awaits batch old (looks + 1) new

  -- A thin page is asked for by a batch of its own, which ends, whatever it gave.
  pub record ReadsPage (old new : House I) : Type 0 where
    pub page : ℕ
    pub admitted : Admitted
    pub looks : ℕ
    pub answers : List (ℕ × List ℕ)
    pub asked : House I
    pub waited : House I
    pub due : is_thin old.core.copies old.core.page_map page ≡ true
    pub asks : Step old.core (Admit (page ∷ []) (Ok admitted)) asked.core
    pub waits : Awaits admitted.batch.0 asked looks waited
    pub ends : Step waited.core (EndBatch admitted.batch.0 answers) new.core
    pub images : (asked.images ≡ old.images) × (new.images ≡ waited.images)

  -- A thin page is read by a batch of its own, which ends as it is ready, and a slot is reserved for one more copy of the bytes that the
  -- batch gave last. The copy has the number that the page has as it is asked for.
  pub record CopiesPage (old new : House I) : Type 0 where
    pub page : ℕ
    pub version : Version
    pub admitted : Admitted
    pub others : List (ℕ × List ℕ)
    pub given : ℕ
    pub bytes : List ℕ
    pub asked : House I
    pub waited : House I
    pub ended : House I
    pub last : get old.core.page_map.versions page ≡ Some version
    pub due : is_thin old.core.copies old.core.page_map page ≡ true
    pub asks : Step old.core (Admit (page ∷ []) (Ok admitted)) asked.core
    pub waits : Goes made array dies seat IsForDies asked waited
    pub ready : results waited.core admitted.batch.0 ≡ Ready
    pub ends : Step waited.core (EndBatch admitted.batch.0 (others ++ (given, bytes) ∷ [])) ended.core
    pub reserves : Step ended.core (ReserveCopy page version.seq.0 bytes (Ok tt)) new.core
    pub images : (asked.images ≡ old.images) × (ended.images ≡ waited.images) × (new.images ≡ ended.images)

  -- The copy under way is looked at in vain so often, and behind each look what there is to be done for dies is made.
  pub data Looks (old : House I) : ℕ → House I → Type 0 where
    NoLook : Looks old 0 old
    OneMore : (looks : ℕ) (middle looked new : House I) → Looks old looks middle → Step middle.core (CommitCopy (Err Pending)) looked.core
        → looked.images ≡ middle.images → Goes made array dies seat IsForDies looked new → Looks old (looks + 1) new

  -- The copy is looked at until it has ended, or is over as there is none; or it was looked at in vain 2^64 - 1 times.
  pub data Settles (old : House I) : House I → Type 0 where
    Commits : (looks : ℕ) (middle new : House I) (answer : Result Copied CommitCopyRefused) → Looks old looks middle
        → (answer ≡ Err Pending → ⊥) → Step middle.core (CommitCopy answer) new.core → new.images ≡ middle.images → Settles old new
    IsOver : (looks : ℕ) (new : House I) → Looks old looks new → new.core.copying ≡ None → Settles old new
    Endless : (looks : ℕ) (new : House I) → Looks old looks new → 2 ^ 64 - 1 ≤ looks → Settles old new

  -- any number of these, one after the other
  pub data Orders (old : House I) : House I → Type 0 where
    Rests : Orders old old
    Deals : (middle new : House I) → Orders old middle → Goes made array dies seat IsForOrder middle new → Orders old new
    Reads : (middle new : House I) → Orders old middle → ReadsPage middle new → Orders old new
    Copies : (middle copied new : House I) → Orders old middle → CopiesPage middle copied → Settles copied new → Orders old new

  -- how often copies were looked at in vain
  abbrev pub looks_of : (old new : House I) → Settles old new → ℕ
  looks_of old new (Commits looks middle here answer looked ends step images) = looks
  looks_of old new (IsOver looks here looked none) = looks
  looks_of old new (Endless looks here looked many) = looks

  abbrev pub looks_in : (old new : House I) → Orders old new → ℕ
  looks_in old new Rests = 0
  looks_in old new (Deals middle here before goes) = looks_in old middle before
  looks_in old new (Reads middle here before reads) = looks_in old middle before
  looks_in old new (Copies middle copied here before copies settles) = looks_in old middle before + looks_of copied new settles

  -- How often something was tried: a window asked for, a page read, or a batch or copy looked at in vain.
  abbrev pub tries_in : (old new : House I) → Orders old new → ℕ
  tries_in old new Rests = 0
  tries_in old new (Deals middle here before goes) = tries_in old middle before + windows_in made array dies seat IsForOrder middle new goes
  tries_in old new (Reads middle here before reads) = tries_in old middle before + (1 + reads.looks)
  tries_in old new (Copies middle copied here before copies settles) = tries_in old middle before + (1 + looks_of copied new settles)

  -- What stops it. An event is refused. Or a batch is ended that has not all of its answers, as no die had a job and the round was refused
  -- to pass. Behind that only what is for dies is done.
  pub data IsHalted (old : House I) (new : House I) : Type 0 where
    Refused : (middle tried : House I) (act : Act) → Orders old middle → IsRefusal act → IsDue middle.core act
        → Step middle.core act tried.core
        → tried.images ≡ middle.images → Goes made array dies seat IsForDies tried new → IsHalted old new
    Unread : (middle read : House I) (refused : AdvanceRefused) → Orders old middle → (reads : ReadsPage middle read)
        → results reads.waited.core reads.admitted.batch.0 ≡ Waiting
        → Step reads.waited.core (Advance (Err refused)) reads.waited.core → Goes made array dies seat IsForDies read new → IsHalted old new

  -- It goes on until nothing is left to be done, or something stops it; or something was tried 2^64 - 1 times.
  pub data IsDone (old new : House I) (orders : Orders old new) : Type 0 where
    InOrder : IsInOrder new.core → IsDone old new orders
    Halted : IsHalted old new → IsDone old new orders
    Untiring : 2 ^ 64 - 1 ≤ tries_in old new orders → IsDone old new orders
