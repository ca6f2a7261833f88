-- A batch of eight pages in which a die fails: its events, from the array as it was mounted to the answered batch.
use Rattle.std.specs.Prelude.{◌≡◌, ℕ, ◌+◌, ◌==◌, ◌||◌, List, [], ◌∷◌, ◌++◌, map, option_map, Ok, Some}
use Rattle.fa_types.specs.declared.geometry.Geometry.{Geometry}
use Rattle.fa_cert.specs.Verdict.{IsVerdict}
use Rattle.fa_cert.specs.declared.verdict.Verdict.TheVariants.{Least}
use Rattle.fa_machine.specs.declared.answers.ReadState.TheVariants.{Ready, Torn}
use Rattle.fa_machine.specs.Beginning.{IsBeginning}
use Rattle.fa_machine.specs.Cells.{Fault}
use Rattle.fa_machine.specs.Conditions.{reserved_under}
use Rattle.fa_machine.specs.Copies.{holders}
use Rattle.fa_machine.specs.Placement.{targets}
use Rattle.fa_machine.specs.Reading.{Planned, entries_for, released, results}
use Rattle.fa_machine.specs.Rounds.{is_closed}
use Rattle.fa_machine.specs.Run.{Happening, Event, ImageCall, HappensEvent, Run}
use Rattle.fa_machine.specs.State.{Reservation, is_live}
use Rattle.fa_machine.specs.Step.{Admit, Claim, Done, EndBatch, Replan, Reserve}
use Rattle.fa_machine.specs.World.{World, Refused}
use Rattle.fa_laws.specs.EightPages.{eight, written_in_turn}
use Rattle.fa_laws.specs.Telling.{gives, next_round, pages_of, place_of, starts, writes_header}

-- Three rounds for eight pages on three dies. All eight are more than the six places of two rounds.
abbrev pub first_plan : Planned
first_plan = record {
  rounds = 3;
  places =
      place_of 0 0 1 ∷ place_of 3 0 2 ∷ place_of 6 0 3
      ∷ place_of 1 1 1 ∷ place_of 4 1 2 ∷ place_of 7 1 3
      ∷ place_of 2 2 1 ∷ place_of 5 2 2 ∷ [];
  shortage = pages_of eight;
}

-- In round 2, as pages 4, 6 and 7 are left and die 1 is out: pages 4 and 6 are on die 0 alone, of which rounds 2 and 3 have
-- one open place.
abbrev pub second_plan : Planned
second_plan = record {
  rounds = 3;
  places = place_of 4 0 3 ∷ place_of 6 0 4 ∷ place_of 7 2 3 ∷ [];
  shortage = pages_of (4 ∷ 6 ∷ []);
}

-- the headers of the mounted array are written, and the eight pages are admitted
abbrev pub admission : List Happening
admission = writes_header 0 1 7 ++ writes_header 1 1 7 ++ writes_header 2 1 7
    ++ Event (Admit eight (Ok (record { batch = record { 0 = 0 }; planned = first_plan }))) ∷ []

-- the reads of the first round, and those of the second, of which that of die 1 meets a fault
abbrev pub failure : (ℕ → List ℕ) → List Happening
failure bytes =
    (starts 0 0 0 ∷ starts 1 1 1 ∷ starts 2 2 1 ∷ []) ++ gives bytes 0 0 0 ++ gives bytes 1 1 1 ++ gives bytes 2 2 1
    ++ (next_round 2 ∷ starts 0 3 2 ∷ starts 1 4 2 ∷ starts 2 5 3 ∷ []) ++ gives bytes 0 3 2 ++ gives bytes 2 5 3
    ++ ImageCall 1 Refused ∷ Event (Done 1 (Fault 1)) ∷ []

-- the headers of the dies that are left, of the next epoch, and the plan anew
abbrev pub planning_anew : List Happening
planning_anew = writes_header 0 2 5 ++ writes_header 2 2 5 ++ Event (Replan 0 (Ok second_plan)) ∷ []

-- the reads that are left, in two rounds
abbrev pub reading_on : (ℕ → List ℕ) → List Happening
reading_on bytes =
    (next_round 3 ∷ starts 0 4 3 ∷ starts 2 7 4 ∷ []) ++ gives bytes 0 4 3 ++ gives bytes 2 7 4
    ++ (next_round 4 ∷ starts 0 6 4 ∷ []) ++ gives bytes 0 6 4

-- a write of page 1 thereafter
abbrev pub later_write : (ℕ → List ℕ) → List Happening
later_write bytes = Event (Claim 1 (Ok (record { 0 = 0 }))) ∷ Event (Reserve 0 (bytes 1) (Ok (record { 0 = 9 }))) ∷ []

-- The whole chain, with what its states are.
pub record BatchOutlastsDie (geometry : Geometry) (bytes : ℕ → List ℕ) : Type 0 where
  pub begins : IsBeginning (written_in_turn geometry bytes)
  pub pairs : map (holders (written_in_turn geometry bytes).core.page_map) eight
      ≡ (0 ∷ 1 ∷ []) ∷ (1 ∷ 2 ∷ []) ∷ (0 ∷ 2 ∷ []) ∷ (0 ∷ 2 ∷ []) ∷ (0 ∷ 1 ∷ []) ∷ (1 ∷ 2 ∷ []) ∷ (0 ∷ 1 ∷ []) ∷ (1 ∷ 2 ∷ []) ∷ []
  -- the batch is admitted, with the least plan: `check` answers Least(3)
  pub admitted : World
  pub admits : Run (written_in_turn geometry bytes) admission admitted
  pub least : let core = (written_in_turn geometry bytes).core in
      IsVerdict (entries_for core.page_map eight) core.calendar.round (is_closed core.page_map core.calendar)
      3 first_plan.places first_plan.shortage (Least 3)
  -- die 1 goes out at its second read, and the batch is torn
  pub torn : World
  pub fails : Run admitted (failure bytes) torn
  pub left : (die : ℕ) → is_live torn.core.page_map die ≡ (die == 0 || die == 2)
  pub epoch : torn.core.epoch ≡ admitted.core.epoch + 1
  pub is_torn : results torn.core 0 ≡ Torn
  -- what is left is planned anew, with the least plan against the calendar that its own bookings do not close
  pub planned : World
  pub plans : Run torn planning_anew planned
  pub least_anew : let core = torn.core in
      IsVerdict (entries_for core.page_map (4 ∷ 6 ∷ 7 ∷ [])) core.calendar.round
      (is_closed core.page_map (released 0 core.calendar)) 3 second_plan.places second_plan.shortage (Least 3)
  -- all eight pages have their bytes
  pub ready : World
  pub reads : Run planned (reading_on bytes) ready
  pub is_ready : results ready.core 0 ≡ Ready
  pub last : World
  pub ends : HappensEvent ready (EndBatch 0 (map (λ page. (page, bytes page)) eight)) last
  -- a later write of page 1, whose homes were dies 1 and 2, goes to dies 2 and 0
  pub later : targets last.core.copies last.core.page_map 1 ≡ 2 ∷ 0 ∷ []
  pub writing : World
  pub writes : Run last (later_write bytes) writing
  pub reserved : option_map {T = Reservation} (λ r. map (λ t. t.die.0) r.targets) (reserved_under writing.core 0) ≡ Some (2 ∷ 0 ∷ [])
