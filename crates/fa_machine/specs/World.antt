-- The array with its images: what stands in each slot, the calls that the jobs in flight have made, and the plain array,
-- which changes at Commit alone. A run is a list of events and of image calls, of which any may fail.
use Rattle.std.specs.Prelude.{◌≡◌, ℕ, Bool, true, ◌==◌, ◌&&◌, cond, if◌then◌else◌, List, [], ◌∷◌, ◌++◌, Option, Some, None, Ok}
use Rattle.std.specs.Prelude.{Contains, option_and_then, option_map, filter_map, fold, slice_index_or, is_some}
use Rattle.std.specs.FinMap.{get}
use Rattle.fa_types.specs.Plain.{put}
use Rattle.fa_machine.specs.declared.jobs.Flight.{Flight}
use Rattle.fa_machine.specs.declared.jobs.Flight.TheVariants.{Header, Move, Erase, Read, Program, Sync}
use Rattle.fa_machine.specs.Cells.{Cell, Empty, Sealed, Outcome, DidRead, DidProgram}
use Rattle.fa_machine.specs.Cells.{DidMove, DidErase, DidWriteHeader, DidSync, Fault, Wrong, payload_of, moved_payload}
use Rattle.fa_machine.specs.Reading.{at_once, zeros}
use Rattle.fa_machine.specs.State.{Core}
use Rattle.fa_machine.specs.Step.{Act, Reserve, ReserveHole, ReserveFewer, Commit, Admit, Take, Done, ReserveCopy}
use Rattle.fa_machine.specs.Taking.{Handed}
use Rattle.fa_machine.specs.Writing.{claimed_page}

-- a call that a job makes of its die's image
pub data JobCall : Type 0 where
  ReadsSlot : (slot : ℕ) → JobCall
  ProgramsSlot : (slot : ℕ) (cell : Cell) → JobCall
  ErasesBlock : (block : ℕ) → JobCall
  WritesHeader : (epoch live : ℕ) → JobCall
  Syncs : JobCall

pub data Gave : Type 0 where
  GaveCell : (cell : Cell) → Gave
  Accepted : Gave
  Refused : Gave

-- the number of a call's fault
abbrev pub number_of_call : JobCall → ℕ
number_of_call (ReadsSlot slot) = 1
number_of_call (ProgramsSlot slot cell) = 2
number_of_call (ErasesBlock block) = 3
number_of_call (WritesHeader epoch live) = 5
number_of_call Syncs = 6

-- an erase is behind a sync, so that what replaces the block's slots is durable before they are gone
abbrev pub first_call : ℕ → Flight → List ℕ → JobCall
first_call die (Header epoch live) payload = WritesHeader epoch live
first_call die (Move page version from to) payload = ReadsSlot from.0
first_call die (Erase block) payload = Syncs
first_call die (Read batch page version slot) payload = ReadsSlot slot.0
first_call die (Program page version slot) payload = ProgramsSlot slot.0 (Sealed page.0 version die slot.0 payload)
first_call die (Sync flushes) payload = Syncs

-- a move that read the slot that was asked for programs the same page, number and kind into its new slot
abbrev pub second_call : ℕ → Flight → Cell → Option JobCall
second_call die (Move page version from to) cell =
    option_map (λ payload. ProgramsSlot to.0 (Sealed page.0 version die to.0 payload)) (moved_payload page.0 version die from.0 cell)
second_call die flight cell = None

-- the call behind an accepted first one: an erase behind its sync, and a sync behind a lasting program
abbrev pub call_behind : Flight → Bool → Option JobCall
call_behind (Erase block) lasting = Some (ErasesBlock block.0)
call_behind (Program page version slot) true = Some Syncs
call_behind flight lasting = None

-- a job in flight, and what its calls gave so far
pub record Work : Type 0 where
  pub job : Handed
  pub gave : List Gave

abbrev pub next_call : ℕ → Handed → List Gave → Option JobCall
next_call die job [] = Some (first_call die job.flight job.payload)
next_call die job (GaveCell cell ∷ []) = second_call die job.flight cell
next_call die job (Accepted ∷ []) = call_behind job.flight job.lasting
next_call die job gave = None

-- how a job ends whose first call gave a cell: a move goes on where it read the slot that was asked for
abbrev pub read_by : ℕ → Flight → Cell → Option Outcome
read_by die (Move page version from to) cell = cond (is_some (moved_payload page.0 version die from.0 cell)) None (Some Wrong)
read_by die (Read batch page version slot) cell = Some (DidRead cell)
read_by die flight cell = None

-- how a job ends whose calls were all accepted
abbrev pub ended_by : Flight → Option Outcome
ended_by (Program page version slot) = Some DidProgram
ended_by (Erase block) = Some DidErase
ended_by (Header epoch live) = Some DidWriteHeader
ended_by (Sync flushes) = Some DidSync
ended_by flight = None

-- The outcome of a job whose calls gave this, if it made them all.
abbrev pub outcome_of : ℕ → Handed → List Gave → Option Outcome
outcome_of die job (Refused ∷ []) = Some (Fault (number_of_call (first_call die job.flight job.payload)))
outcome_of die job (GaveCell cell ∷ []) = read_by die job.flight cell
outcome_of die job (GaveCell cell ∷ Accepted ∷ []) = Some DidMove
outcome_of die job (GaveCell cell ∷ Refused ∷ []) = Some (Fault 2)
outcome_of die job (Accepted ∷ []) = cond (is_some (call_behind job.flight job.lasting)) None (ended_by job.flight)
outcome_of die job (Accepted ∷ Accepted ∷ []) = option_and_then (λ call. ended_by job.flight) (call_behind job.flight job.lasting)
outcome_of die job (Accepted ∷ Refused ∷ []) = option_map (λ call. Fault (number_of_call call)) (call_behind job.flight job.lasting)
outcome_of die job gave = None

-- what a header tells that a job wrote: the epoch and the live dies, and no clean mark
pub record HeaderTells : Type 0 where
  pub epoch : ℕ
  pub live : ℕ

-- An image: what reads of its slots give, and its header, where a job wrote it. What a header that no job wrote tells is of
-- no use here.
pub record DieImage : Type 0 where
  pub seen : ℕ → Cell
  pub header : Option HeaderTells

abbrev pub with_cell : ℕ → Cell → DieImage → DieImage
with_cell slot cell image = record image { seen = λ s. if s == slot then cell else image.seen s }

-- Calls of an image that is honest. A refused program, erase or header may leave anything in what it was writing. A sync and a
-- refused read change nothing.
abbrev pub Calls : (ℕ → ℕ → Bool) → JobCall → Gave → DieImage → DieImage → Type 0
Calls is_of (ReadsSlot slot) (GaveCell cell) before after = (cell ≡ before.seen slot) × (after ≡ before)
Calls is_of (ReadsSlot slot) Accepted before after = ⊥
Calls is_of call (GaveCell cell) before after = ⊥
Calls is_of (ProgramsSlot slot cell) Accepted before after = after ≡ with_cell slot cell before
Calls is_of (ProgramsSlot slot cell) Refused before after = (left : Cell) × (after ≡ with_cell slot left before)
Calls is_of (ErasesBlock block) Accepted before after =
    after ≡ record before { seen = λ slot. if is_of block slot then Empty else before.seen slot }
Calls is_of (ErasesBlock block) Refused before after =
    (left : ℕ → Cell) × (after ≡ record before { seen = λ slot. if is_of block slot then left slot else before.seen slot })
Calls is_of (WritesHeader epoch live) Accepted before after =
    after ≡ record before { header = Some (record { epoch = epoch; live = live }) }
Calls is_of (WritesHeader epoch live) Refused before after = (left : Option HeaderTells) × (after ≡ record before { header = left })
Calls is_of call gave before after = after ≡ before

-- the bytes that a read is to give, and the moment of its Take
pub record Due : Type 0 where
  pub bytes : List ℕ
  pub since : ℕ

-- bytes that were answered for a page by a read that started while the page had this number
pub record Told : Type 0 where
  pub page : ℕ
  pub seq : ℕ
  pub bytes : List ℕ

pub record World : Type 0 where
  pub core : Core
  pub images : ℕ → DieImage
  -- the job in flight of each die
  pub works : ℕ → Option Work
  pub plain : List (List ℕ)
  -- what was reserved for a page with a number
  pub payloads : ℕ → ℕ → List ℕ
  -- what is due to the read in flight of each die
  pub due : ℕ → Due
  -- what was due to the answer of each page of a batch
  pub values : ℕ → ℕ → Due
  pub told : List Told
  -- how many events there were, and at which of them each batch was admitted
  pub moment : ℕ
  pub admitted : ℕ → ℕ

-- a function with one value changed
abbrev pub with_value : {X : Type 0} → ℕ → X → (ℕ → X) → ℕ → X
with_value n x f m = if m == n then x else f m

abbrev pub with_value_at : {X : Type 0} → ℕ → ℕ → X → (ℕ → ℕ → X) → ℕ → ℕ → X
with_value_at n k x f m j = if m == n && j == k then x else f m j

-- the plain array's page
abbrev pub plain_page : World → ℕ → List ℕ
plain_page w page = slice_index_or w.plain page []

abbrev pub with_payload : ℕ → ℕ → List ℕ → World → World
with_payload claim seq payload w = record w { payloads = with_value_at (claimed_page w.core claim) seq payload w.payloads }

-- the numbers of those pages that are holes, told with zeros
abbrev pub told_at_once : Core → List ℕ → List Told
told_at_once core pages = filter_map
    (λ page. option_map (λ v. record { page = page; seq = v.seq.0; bytes = zeros core.page_map }) (get core.page_map.versions page))
    (at_once core.page_map pages)

-- a batch: what its pages that are answered at once are due, from this moment on
abbrev pub with_batch : ℕ → List ℕ → World → World
with_batch batch pages w = record w {
  values = fold (λ values page. with_value_at batch page (record { bytes = plain_page w page; since = w.moment }) values)
      w.values (at_once w.core.page_map pages);
  told = w.told ++ told_at_once w.core pages;
  admitted = with_value batch w.moment w.admitted;
}

-- a job that was handed out: a read is due the plain array's page of this moment
abbrev pub with_due : ℕ → Flight → World → World
with_due die (Read batch page version slot) w =
    record w { due = with_value die (record { bytes = plain_page w page.0; since = w.moment }) w.due }
with_due die flight w = w

-- an answer of a read: what was due to it is what its page is due
abbrev pub with_told : ℕ → ℕ → ℕ → ℕ → Option (List ℕ) → World → World
with_told die batch page seq None w = w
with_told die batch page seq (Some bytes) w = record w {
  values = with_value_at batch page (w.due die) w.values;
  told = w.told ++ (record { page = page; seq = seq; bytes = bytes }) ∷ [];
}

abbrev pub with_end : ℕ → Option Flight → Outcome → World → World
with_end die (Some (Read batch page version slot)) (DidRead cell) w =
    with_told die batch.0 page.0 version.seq.0 (payload_of page.0 version die slot.0 cell) w
with_end die flight outcome w = w

-- what an event changes in the world besides the array's state
abbrev pub followed : Act → World → World
followed (Reserve claim payload (Ok seq)) w = with_payload claim seq.0 payload w
followed (ReserveHole claim (Ok seq)) w = with_payload claim seq.0 (zeros w.core.page_map) w
followed (ReserveFewer claim payload (Ok seq)) w = with_payload claim seq.0 payload w
followed (Commit claim seat (Ok seq)) w =
    let page = claimed_page w.core claim in record w { plain = put page (w.payloads page seq.0) w.plain }
followed (Admit pages (Ok admitted)) w = with_batch admitted.batch.0 pages w
followed (Take die seat (Some job)) w =
    record (with_due die job.flight w) { works = with_value die (Some (record { job = job; gave = [] })) w.works }
followed (Done die outcome) w = record (with_end die (get w.core.jobs die) outcome w) { works = with_value die None w.works }
followed act w = w

-- What an event owes to the world: a Done tells the outcome that its job's calls gave, and one more copy that is reserved has
-- bytes that were answered by a read which started while the page had this number.
abbrev pub IsTold : World → Act → Type 0
IsTold w (Done die outcome) = option_and_then (λ k. outcome_of die k.job k.gave) (w.works die) ≡ Some outcome
IsTold w (ReserveCopy page seq payload (Ok done)) = Contains w.told (record { page = page; seq = seq; bytes = payload })
IsTold w act = Unit {0}
