-- A die is lost and a spare takes its copy: the events of an array of four dies and a spare, with three copies of a page.
use Rattle.std.specs.Prelude.{◌≡◌, ℕ, List, [], ◌∷◌, ◌++◌, Ok, Some, None}
use Rattle.std.specs.FinMap.{empty, from_sorted}
use Rattle.fa_types.specs.declared.geometry.Geometry.{Geometry}
use Rattle.fa_machine.specs.declared.answers.Copied.TheVariants.{Current}
use Rattle.fa_machine.specs.declared.answers.ReadState.TheVariants.{Torn}
use Rattle.fa_machine.specs.declared.jobs.Flight.TheVariants.{Erase}
use Rattle.fa_machine.specs.declared.places.Used.TheVariants.{Stale}
use Rattle.fa_machine.specs.Beginning.{IsBeginning}
use Rattle.fa_machine.specs.Cells.{DidErase, Fault}
use Rattle.fa_machine.specs.Copies.{holders}
use Rattle.fa_machine.specs.Looks.{counts}
use Rattle.fa_machine.specs.Reading.{Planned, results}
use Rattle.fa_machine.specs.Run.{Happening, Event, ImageCall, HappensEvent, Run}
use Rattle.fa_machine.specs.State.{MapState, used_at}
use Rattle.fa_machine.specs.Step.{Abandon, Act, Admit, Claim, Commit, CommitCopy, Done, EndBatch, Fold, Release, Replan}
use Rattle.fa_machine.specs.Step.{Reserve, ReserveCopy, SpareIn, Take, Window}
use Rattle.fa_machine.specs.Taking.{Handed, handed}
use Rattle.fa_machine.specs.World.{World, Accepted, Refused}
use Rattle.fa_laws.specs.EightPages.{write_of}
use Rattle.fa_laws.specs.Formatted.{formatted, new_core}
use Rattle.fa_laws.specs.Telling.{gives, next_round, pages_of, place_of, programs, programs_and_syncs, starts, writes_header}

-- five dies, of which one is a spare, each of 4 blocks of 4 slots, with 8 pages
pub record HasFiveDies (geometry : Geometry) : Type 0 where
  pub dies : geometry.dies ≡ 5
  pub spares : geometry.spares ≡ 1
  pub blocks : geometry.blocks ≡ 4
  pub slots : geometry.slots ≡ 4
  pub pages : geometry.pages ≡ 8

-- dies 0 to 3 are live
abbrev pub four_live : Geometry → MapState
four_live geometry = record {
  geometry = geometry;
  live = from_sorted ((0, tt) ∷ (1, tt) ∷ (2, tt) ∷ (3, tt) ∷ []);
  versions = empty;
  used = empty;
}

-- the array as it is formatted: die 4 is the spare, and each page is to have three copies
abbrev pub with_a_spare : Geometry → World
with_a_spare geometry = record (formatted geometry) {
  core = record (new_core 0 (four_live geometry) empty) { copies = 3; spares = from_sorted ((4, tt) ∷ []) };
}

-- page 0 is written, to slot 0 of dies 0, 1 and 2
abbrev pub writing_thrice : (ℕ → List ℕ) → List Happening
writing_thrice bytes =
    writes_header 0 1 15 ++ writes_header 1 1 15 ++ writes_header 2 1 15 ++ writes_header 3 1 15
    ++ (Event (Claim 0 (Ok (record { 0 = 0 }))) ∷ Event (Reserve 0 (bytes 0) (Ok (write_of 0).seq)) ∷ [])
    ++ programs 0 0 0 (write_of 0) (bytes 0) ++ programs 1 0 0 (write_of 0) (bytes 0) ++ programs 2 0 0 (write_of 0) (bytes 0)
    ++ Event (Commit 0 0 (Ok (write_of 0).seq)) ∷ Event (Release 0) ∷ []

-- page 0 is read on a die in the current round
abbrev pub read_on : (die round : ℕ) → Planned
read_on die round = record { rounds = 1; places = place_of 0 die round ∷ []; shortage = pages_of (0 ∷ []) }

abbrev pub admits_page : (die round : ℕ) → Act
admits_page die round = Admit (0 ∷ []) (Ok (record { batch = record { 0 = 0 }; planned = read_on die round }))

-- the read of die 0 meets a fault
abbrev pub losing : List Happening
losing = Event (admits_page 0 1) ∷ starts 0 0 0 ∷ ImageCall 0 Refused ∷ Event (Done 0 (Fault 1)) ∷ []

-- die 4 comes in, and all headers are written
abbrev pub mending : List Happening
mending =
    Event (SpareIn 4 (Ok tt)) ∷ writes_header 1 3 30 ++ writes_header 2 3 30 ++ writes_header 3 3 30 ++ writes_header 4 3 30

-- the batch is planned anew, read on die 1, and answered
abbrev pub answering : (ℕ → List ℕ) → List Happening
answering bytes =
    Event (Replan 0 (Ok (read_on 1 1))) ∷ starts 1 0 0 ∷ gives bytes 1 0 0 ++ Event (EndBatch 0 ((0, bytes 0) ∷ [])) ∷ []

-- what was read is copied to die 4, which syncs it
abbrev pub copying : (ℕ → List ℕ) → List Happening
copying bytes =
    Event (ReserveCopy 0 1 (bytes 0) (Ok tt)) ∷ programs_and_syncs 4 0 0 (write_of 0) (bytes 0) ++ Event (CommitCopy (Ok Current)) ∷ []

-- a write of page 3 is given up before it is programmed: its slots on dies 3, 1 and 4 are stale
abbrev pub giving_up : (ℕ → List ℕ) → List Happening
giving_up bytes =
    Event (Claim 3 (Ok (record { 0 = 0 }))) ∷ Event (Reserve 0 (bytes 3) (Ok (record { 0 = 2 })))
    ∷ Event (Abandon 0 (Ok tt)) ∷ Event (Release 0) ∷ []

-- in its window, round 2, die 3 erases its block 0, behind a sync
abbrev pub the_erase : Handed
the_erase = handed (Erase (record { 0 = 0 }))

abbrev pub erasing : List Happening
erasing =
    Event (Window 3 1 (Ok (record { 0 = 2 }))) ∷ next_round 2 ∷ Event (Take 3 0 (Some the_erase)) ∷ ImageCall 3 Accepted
    ∷ ImageCall 3 Accepted ∷ Event (Done 3 DidErase) ∷ []

-- page 0 is read from its new copy, on die 4
abbrev pub reading_again : (ℕ → List ℕ) → List Happening
reading_again bytes =
    Event (admits_page 4 2) ∷ starts 4 0 0 ∷ gives bytes 4 0 0 ++ Event (EndBatch 0 ((0, bytes 0) ∷ [])) ∷ []

-- The whole chain, with what its states are.
pub record SpareTakesACopy (geometry : Geometry) (bytes : ℕ → List ℕ) : Type 0 where
  pub begins : IsBeginning (with_a_spare geometry)
  -- page 0 has three copies
  pub written : World
  pub writes : Run (with_a_spare geometry) (writing_thrice bytes) written
  pub three : holders written.core.page_map 0 ≡ 0 ∷ 1 ∷ 2 ∷ []
  -- die 0 goes out: two are left, and the batch is torn
  pub torn : World
  pub loses : Run written losing torn
  pub two : holders torn.core.page_map 0 ≡ 1 ∷ 2 ∷ []
  pub is_torn : results torn.core 0 ≡ Torn
  -- the spare comes in, and the batch is answered
  pub mended : World
  pub mends : Run torn mending mended
  pub answered : World
  pub reads : Run mended (answering bytes) answered
  -- the spare has the third copy
  pub copied : World
  pub copies : Run answered (copying bytes) copied
  pub again : holders copied.core.page_map 0 ≡ 1 ∷ 2 ∷ 4 ∷ []
  -- a slot of die 3 is stale, and erased with its block
  pub given_up : World
  pub gives_up : Run copied (giving_up bytes) given_up
  pub stale : used_at given_up.core.page_map 3 0 ≡ Some Stale
  pub erased : World
  pub erases : Run given_up erasing erased
  pub is_erased : used_at erased.core.page_map 3 0 ≡ None
  -- the history is folded, which leaves one Commit and two Starts counted
  pub folded : World
  pub folds : HappensEvent erased Fold folded
  pub none : folded.core.history ≡ []
  pub counted : counts folded.core ≡ (1, 2)
  -- the new copy is read, and gives the page's bytes
  pub last : World
  pub reads_again : Run folded (reading_again bytes) last
