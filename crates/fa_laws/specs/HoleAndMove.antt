-- A hole, a move under a booked read, and a flush: their events on an array of two dies, from the array as it was formatted.
use Rattle.std.specs.Prelude.{◌≡◌, ℕ, nat_lt, List, [], ◌∷◌, ◌++◌, map, replicate, Ok, Some, false}
use Rattle.std.specs.FinMap.{get}
use Rattle.fa_types.specs.declared.geometry.Geometry.{Geometry}
use Rattle.fa_machine.specs.declared.answers.Flush.{Flush}
use Rattle.fa_machine.specs.declared.answers.FlushState.TheVariants.{Synced, Waiting}
use Rattle.fa_machine.specs.declared.jobs.Flight.TheVariants.{Move}
use Rattle.fa_types.specs.declared.kind.Kind.TheVariants.{Hole}
use Rattle.fa_machine.specs.declared.places.Version.{Version}
use Rattle.fa_machine.specs.Beginning.{IsBeginning}
use Rattle.fa_machine.specs.Cells.{DidMove, Sealed}
use Rattle.fa_machine.specs.Copies.{copy_on}
use Rattle.fa_machine.specs.Maps.{below}
use Rattle.fa_machine.specs.Reading.{Planned, batch_at}
use Rattle.fa_machine.specs.Run.{Happening, Event, ImageCall, HappensEvent, Run}
use Rattle.fa_machine.specs.Step.{Act, Admit, Claim, Commit, Done, EndBatch, FlushBegin, FlushState, Release, Reserve}
use Rattle.fa_machine.specs.Step.{ReserveHole, Take, Window}
use Rattle.fa_machine.specs.Taking.{Handed, handed}
use Rattle.fa_machine.specs.World.{World, Accepted, GaveCell, plain_page}
use Rattle.fa_laws.specs.EightPages.{write_of}
use Rattle.fa_laws.specs.Formatted.{formatted}
use Rattle.fa_laws.specs.Telling.{gives, next_round, pages_of, place_of, programs, starts, syncs, writes_header}

-- two dies, no spare, each of 4 blocks of 4 slots, with 8 pages
pub record HasTwoDies (geometry : Geometry) : Type 0 where
  pub dies : geometry.dies ≡ 2
  pub spares : geometry.spares ≡ 0
  pub blocks : geometry.blocks ≡ 4
  pub slots : geometry.slots ≡ 4
  pub pages : geometry.pages ≡ 8

abbrev pub zeros_of : Geometry → List ℕ
zeros_of geometry = replicate geometry.page_bytes 0

-- a page is written as the next write, on both dies in one slot
abbrev pub writes_page : (page slot : ℕ) → List ℕ → List Happening
writes_page page slot payload =
    (Event (Claim page (Ok (record { 0 = 0 }))) ∷ Event (Reserve 0 payload (Ok (write_of page).seq)) ∷ [])
    ++ programs 0 page slot (write_of page) payload ++ programs 1 page slot (write_of page) payload
    ++ Event (Commit 0 0 (Ok (write_of page).seq)) ∷ Event (Release 0) ∷ []

-- both headers are written, and pages 0, 1 and 2, to slots 0, 1 and 2
abbrev pub writing : (ℕ → List ℕ) → List Happening
writing bytes =
    writes_header 0 1 3 ++ writes_header 1 1 3
    ++ writes_page 0 0 (bytes 0) ++ writes_page 1 1 (bytes 1) ++ writes_page 2 2 (bytes 2)

-- the fourth write: a hole
abbrev pub the_hole : Version
the_hole = record { seq = record { 0 = 4 }; kind = Hole }

-- page 0 is made a hole: its zeros are in slot 3 of both dies, and slot 0 is stale
abbrev pub making_a_hole : Geometry → List Happening
making_a_hole geometry =
    (Event (Claim 0 (Ok (record { 0 = 0 }))) ∷ Event (ReserveHole 0 (Ok the_hole.seq)) ∷ [])
    ++ programs 0 0 3 the_hole (zeros_of geometry) ++ programs 1 0 3 the_hole (zeros_of geometry)
    ++ Event (Commit 0 0 (Ok the_hole.seq)) ∷ Event (Release 0) ∷ []

-- die 0 has its collector's window in round 2, which is the current round then
abbrev pub opening_a_window : List Happening
opening_a_window = Event (Window 0 1 (Ok (record { 0 = 2 }))) ∷ next_round 2 ∷ []

-- Pages 1 and 2 are read: round 2 of die 0 is closed, so that in one round there is one place for two pages.
abbrev pub two_rounds : Planned
two_rounds = record { rounds = 2; places = place_of 1 0 3 ∷ place_of 2 1 2 ∷ []; shortage = pages_of (1 ∷ 2 ∷ []) }

abbrev pub admits_three : Act
admits_three = Admit (0 ∷ 1 ∷ 2 ∷ []) (Ok (record { batch = record { 0 = 0 }; planned = two_rounds }))

-- the collector moves page 1 on die 0 from slot 1 to slot 4, the first one outside its block
abbrev pub the_move : Handed
the_move = handed (Move (record { 0 = 1 }) (write_of 1) (record { 0 = 1 }) (record { 0 = 4 }))

abbrev pub moving : (ℕ → List ℕ) → List Happening
moving bytes =
    Event (Take 0 0 (Some the_move)) ∷ ImageCall 0 (GaveCell (Sealed 1 (write_of 1) 0 1 (bytes 1)))
    ∷ ImageCall 0 Accepted ∷ Event (Done 0 DidMove) ∷ []

-- die 1 reads page 2 in round 2, and die 0 page 1 in round 3, from its new slot
abbrev pub reading : (ℕ → List ℕ) → List Happening
reading bytes = starts 1 2 2 ∷ gives bytes 1 2 2 ++ next_round 3 ∷ starts 0 1 4 ∷ gives bytes 0 1 4

-- the first flush, of dies 0 and 1
abbrev pub the_flush : Flush
the_flush = record { number = 1; live = map (λ die. nat_lt die 2) (below 64) }

-- it waits until both dies have synced
abbrev pub flushing : List Happening
flushing =
    (Event (FlushBegin (Ok the_flush)) ∷ Event (FlushState the_flush Waiting) ∷ []) ++ syncs 0 1
    ++ Event (FlushState the_flush Waiting) ∷ syncs 1 1 ++ Event (FlushState the_flush Synced) ∷ []

-- The whole chain, with what its states are.
pub record ReadsAHoleAndAMovedPage (geometry : Geometry) (bytes : ℕ → List ℕ) : Type 0 where
  pub begins : IsBeginning (formatted geometry)
  pub written : World
  pub writes : Run (formatted geometry) (writing bytes) written
  pub content : map (plain_page written) (0 ∷ 1 ∷ 2 ∷ []) ≡ map bytes (0 ∷ 1 ∷ 2 ∷ [])
  -- page 0 is a hole, and reads as zeros
  pub holed : World
  pub makes_a_hole : Run written (making_a_hole geometry) holed
  pub is_hole : get holed.core.page_map.versions 0 ≡ Some the_hole
  pub is_zeros : plain_page holed 0 ≡ zeros_of geometry
  pub windowed : World
  pub opens_a_window : Run holed opening_a_window windowed
  -- page 0 is answered at once, and the read of page 1 is booked on die 0 for round 3, while its copy is in slot 1
  pub admitted : World
  pub admits : HappensEvent windowed admits_three admitted
  pub at_once : get (batch_at admitted.core 0).answers 0 ≡ Some (zeros_of geometry)
  pub booked : get admitted.core.calendar.bookings (0, 3)
      ≡ Some (record { batch = record { 0 = 0 }; page = record { 0 = 1 }; started = false })
  pub before : copy_on admitted.core.page_map 1 0 ≡ Some 1
  -- the move goes before the read
  pub moved : World
  pub moves : Run admitted (moving bytes) moved
  pub after : copy_on moved.core.page_map 1 0 ≡ Some 4
  -- the read is of the new slot, and each page is answered with its bytes
  pub ready : World
  pub reads : Run moved (reading bytes) ready
  pub answered : World
  pub ends : HappensEvent ready (EndBatch 0 ((0, zeros_of geometry) ∷ (1, bytes 1) ∷ (2, bytes 2) ∷ [])) answered
  -- the flush waits for both dies, and is synced
  pub last : World
  pub flushes : Run answered flushing last
