-- What stands in a slot of an image, and how a job on a die can end.
use Rattle.std.specs.Prelude.{ℕ, Bool, true, false, ◌==◌, ◌&&◌, cond, List, Option, Some, None}
use Rattle.fa_types.specs.declared.kind.Kind.{Kind}
use Rattle.fa_types.specs.declared.kind.Kind.TheVariants.{Data, Hole}
use Rattle.fa_machine.specs.declared.jobs.Flight.{Flight}
use Rattle.fa_machine.specs.declared.jobs.Flight.TheVariants.{Header, Move, Erase, Read, Program, Sync}
use Rattle.fa_machine.specs.declared.places.Version.{Version}

-- Nothing, a page with its tag, or bytes that are neither.
pub data Cell : Type 0 where
  Empty : Cell
  Sealed : (page : ℕ) (version : Version) (die slot : ℕ) (payload : List ℕ) → Cell
  Broken : Cell

-- The payload of a cell whose tag is this page, number, die and slot.
abbrev pub payload_of : ℕ → Version → ℕ → ℕ → Cell → Option (List ℕ)
payload_of page version die slot (Sealed p v d s payload) =
    cond (p == page && v.seq.0 == version.seq.0 && d == die && s == slot) (Some payload) None
payload_of page version die slot cell = None

abbrev pub is_same_kind : Kind → Kind → Bool
is_same_kind Data Data = true
is_same_kind Hole Hole = true
is_same_kind kind other = false

-- The payload of a cell that a move may copy: its tag is this page, number, die and slot, and says the same kind.
abbrev pub moved_payload : ℕ → Version → ℕ → ℕ → Cell → Option (List ℕ)
moved_payload page version die slot (Sealed p v d s payload) =
    cond (is_same_kind v.kind version.kind) (payload_of page version die slot (Sealed p v d s payload)) None
moved_payload page version die slot cell = None

pub data Outcome : Type 0 where
  -- a read gave what stands in the slot
  DidRead : (cell : Cell) → Outcome
  DidProgram : Outcome
  DidMove : Outcome
  DidErase : Outcome
  DidWriteHeader : Outcome
  DidSync : Outcome
  -- the image refused a call, by its number 1 to 6
  Fault : (call : ℕ) → Outcome
  -- the slot that a move read was not the one asked for
  Wrong : Outcome

-- a job ends by an outcome of its kind or by a fault
abbrev pub is_of_kind : Flight → Outcome → Bool
is_of_kind flight (Fault call) = true
is_of_kind (Read batch page version slot) (DidRead cell) = true
is_of_kind (Program page version slot) DidProgram = true
is_of_kind (Move page version from to) DidMove = true
is_of_kind (Move page version from to) Wrong = true
is_of_kind (Erase block) DidErase = true
is_of_kind (Header epoch live) DidWriteHeader = true
is_of_kind (Sync flushes) DidSync = true
is_of_kind flight outcome = false
