-- What is done with an array and its images by one thread: events, and jobs of dies from their Takes to their Dones. No two jobs are under
-- way at once, and each Done tells what the job's own calls of its image gave.
use Rattle.std.specs.FinMap.{contains_key}
use Rattle.std.specs.Prelude.{◌≡◌, ℕ, ◌+◌, Bool, true, false, is_some, List, [], ◌∷◌, Some, None, Ok, Err, slice_get, slice_set}
use Rattle.fa_mount_headers.specs.declared.judging.Standing.{Standing}
use Rattle.fa_image.specs.Image.{ImageAnswer, ImageCall}
use Rattle.fa_machine.specs.Cells.{Outcome}
use Rattle.fa_machine.specs.Collecting.{victim}
use Rattle.fa_machine.specs.Looks.{wants_window}
use Rattle.fa_machine.specs.Placement.{is_thin}
use Rattle.fa_machine.specs.Reading.{results}
use Rattle.fa_machine.specs.State.{Core, is_live}
use Rattle.fa_machine.specs.Step.{Act, Step, Admit, Advance, Done, Fold, ReserveCopy, SpareIn, Take, Window}
use Rattle.fa_machine.specs.Taking.{Handed}
use Rattle.fa_machine.specs.declared.answers.ReadState.TheVariants.{Waiting}
use Rattle.fa_mount.specs.Standings.{place_on}
use Rattle.fa_solo_job.specs.House.{House}
use Rattle.fa_core_outcome.specs.Fits.{IsJobFor}
use Rattle.fa_jobs.specs.Made.{Ran}
use Rattle.fa_shared.specs.Spares.{wants_spare}

-- The events that are made for dies whatever is asked: a Take that gives no job, windows, rounds that pass, and the history's Fold.
abbrev pub IsForDies : Act → Type 0
IsForDies (Take die seat None) = Unit {0}
IsForDies (Window die rounds answer) = Unit {0}
IsForDies (Advance answer) = Unit {0}
IsForDies Fold = Unit {0}
IsForDies act = ⊥

-- Those, and spares that are brought in.
abbrev pub IsForRequests : Act → Type 0
IsForRequests (SpareIn die answer) = Unit {0}
IsForRequests act = IsForDies act

-- What is made while a request waits. While a flush is waited for no spare is brought in, as that would be a die that the flush did not
-- ask.
abbrev pub IsMeanwhile : Bool → Act → Type 0
IsMeanwhile true act = IsForDies act
IsMeanwhile false act = IsForRequests act

-- All those, and what is refused while a thin page is to get one more copy. A batch is opened by `ReadsPage` and `CopiesPage` alone, each
-- of which ends it. A slot is reserved for one more copy by `CopiesPage` alone, and such a copy ends in `Settles` alone.
abbrev pub IsForOrder : Act → Type 0
IsForOrder (Admit (page ∷ []) (Err refused)) = Unit {0}
IsForOrder (ReserveCopy page seq payload (Err refused)) = Unit {0}
IsForOrder act = IsForRequests act

-- 1 for a window that is asked for
abbrev pub windows_by : Act → ℕ
windows_by (Window die rounds answer) = 1
windows_by act = 0

-- What a later round is awaited for: the reads of a batch that has not all of its answers; or a collector's step, where a live die has a
-- window that has not passed, and a block to collect.
pub data IsAwaited (core : Core) : Type 0 where
  ForReads : (batch : ℕ) → results core batch ≡ Waiting → IsAwaited core
  ForStep : (die : ℕ) → is_live core.page_map die ≡ true → contains_key core.calendar.windows die ≡ true
      → is_some (victim core.page_map die) ≡ true → IsAwaited core

-- What is asked of the array where an event is made of itself. A window is given to a die that wants one, no round passes in vain, a spare
-- comes in where one is wanted, and so while a die is live, and a page is read for a copy of it where it is thin.
abbrev pub IsDue : Core → Act → Type 0
IsDue core (Window die rounds answer) = wants_window core.page_map die ≡ true
IsDue core (Advance answer) = IsAwaited core
IsDue core (SpareIn die (Ok done)) = wants_spare core.page_map ≡ true
IsDue core (Admit (page ∷ []) answer) = is_thin core.copies core.page_map page ≡ true
IsDue core act = Unit {0}

module _ {I : Type 0} (made : I → ImageCall → ImageAnswer → I → Type 0) (array : List ℕ) (dies : List Standing) (seat : ℕ) where
  -- A job of a die: it is taken, its calls are made of the die's image, and it ends as they gave.
  pub record MakesJob (die : ℕ) (old new : House I) : Type 0 where
    pub job : Handed
    pub outcome : Outcome
    pub taken : Core
    pub index : ℕ
    pub before : I
    pub after : I
    pub takes : Step old.core (Take die seat (Some job)) taken
    pub place : place_on dies die ≡ Some index
    pub image : slice_get old.images index ≡ Some before
    pub fits : IsJobFor old.core.page_map.geometry array die job
    pub ran : Ran made old.core.page_map.geometry array die job outcome before after
    pub ends : Step taken (Done die outcome) new.core
    pub images : new.images ≡ slice_set old.images index after

  -- Any number of deeds, one after the other, of which the events are some of these, each made where it is due.
  pub data Goes (P : Act → Type 0) (old : House I) : House I → Type 0 where
    Stays : Goes P old old
    Makes : (middle new : House I) (act : Act) → Goes P old middle → P act → IsDue middle.core act → Step middle.core act new.core
        → new.images ≡ middle.images → Goes P old new
    Runs : (middle new : House I) (die : ℕ) → Goes P old middle → MakesJob die middle new → Goes P old new

  -- how many windows were asked for
  abbrev pub windows_in : (P : Act → Type 0) (old new : House I) → Goes P old new → ℕ
  windows_in P old new Stays = 0
  windows_in P old new (Makes middle here act before may due step images) = windows_in P old middle before + windows_by act
  windows_in P old new (Runs middle here die before job) = windows_in P old middle before
