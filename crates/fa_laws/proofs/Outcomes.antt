-- What the calls of a job gave, by the outcome that they come to.
use Rattle.fa_laws.proofs.Scene.{Bytes, GaveFits, Stands}
use Rattle.fa_machine.specs.Cells.{Cell, DidErase, DidMove, DidProgram, DidRead, DidSync, DidWriteHeader, Fault, Outcome, Wrong}
use Rattle.fa_machine.specs.Cells.{moved_payload}
use Rattle.fa_machine.specs.World.{Accepted, Gave, GaveCell, Refused, outcome_of}
use Rattle.fa_machine.specs.declared.ids.BatchId.{BatchId}
use Rattle.fa_machine.specs.declared.jobs.Flight.TheVariants.{Move, Program, Read}
use Rattle.fa_machine.specs.declared.places.Version.{Version}
use Rattle.fa_types.specs.declared.numbers.Page.{Page}
use Rattle.fa_types.specs.declared.numbers.Slot.{Slot}
use Rattle.std.proofs.Common.{Bool, List, None, Option, Some, [], ap, arith, cond, false, sym, true, ℕ, ◌∙◌, ◌∷◌, ◌≡◌}
use Rattle.std.specs.Prelude.{is_some}

abbrev pub tag : Option Outcome → ℕ
tag None = 0
tag (Some (DidRead cell)) = 1
tag (Some DidProgram) = 2
tag (Some DidMove) = 3
tag (Some DidErase) = 4
tag (Some DidWriteHeader) = 5
tag (Some DidSync) = 6
tag (Some (Fault call)) = 7
tag (Some Wrong) = 8

abbrev cell_of : Cell → Option Outcome → Cell
cell_of other (Some (DidRead cell)) = cell
cell_of other outcome = other

if_wrong : (b : Bool) → tag (cond b None (Some Wrong)) ≡ 3 → ⊥
if_wrong true e = absurd (omega (arith, e))
if_wrong false e = absurd (omega (arith, e))

pub gave_program : (b : Bytes) (die : ℕ) (page : Page) (version : Version) (slot : Slot) (payload : List ℕ) (lasting : Bool) (gave : List Gave)
    → outcome_of die (record { flight = Program page version slot; payload = payload; lasting = lasting }) gave ≡ Some DidProgram
    → GaveFits b die (Program page version slot) gave → Stands b page.0 version die slot.0
gave_program b die page version slot payload lasting (Accepted ∷ gave) e g = g
gave_program b die page version slot payload lasting (GaveCell cell ∷ Accepted ∷ []) e g = absurd (omega (arith, ap tag e))
gave_program b die page version slot payload lasting (GaveCell cell ∷ Refused ∷ []) e g = absurd (omega (arith, ap tag e))
gave_program b die page version slot payload lasting (GaveCell cell ∷ []) e g = absurd (omega (arith, ap tag e))
gave_program b die page version slot payload lasting (Refused ∷ []) e g = absurd (omega (arith, ap tag e))
gave_program b die page version slot payload lasting gave e g = absurd (omega (arith, ap tag e))

pub gave_move : (b : Bytes) (die : ℕ) (page : Page) (version : Version) (from to : Slot) (payload : List ℕ) (lasting : Bool) (gave : List Gave)
    → outcome_of die (record { flight = Move page version from to; payload = payload; lasting = lasting }) gave ≡ Some DidMove
    → GaveFits b die (Move page version from to) gave → Stands b page.0 version die to.0
gave_move b die page version from to payload lasting (GaveCell cell ∷ Accepted ∷ []) e g = g
gave_move b die page version from to payload lasting (GaveCell cell ∷ Refused ∷ []) e g = absurd (omega (arith, ap tag e))
gave_move b die page version from to payload lasting (GaveCell cell ∷ []) e g = absurd (if_wrong (is_some (moved_payload page.0 version die from.0 cell)) (ap tag e))
gave_move b die page version from to payload lasting (Accepted ∷ []) e g = absurd (omega (arith, ap tag e))
gave_move b die page version from to payload lasting (Accepted ∷ Accepted ∷ []) e g = absurd (omega (arith, ap tag e))
gave_move b die page version from to payload lasting (Accepted ∷ Refused ∷ []) e g = absurd (omega (arith, ap tag e))
gave_move b die page version from to payload lasting (Refused ∷ []) e g = absurd (omega (arith, ap tag e))
gave_move b die page version from to payload lasting gave e g = absurd (omega (arith, ap tag e))

pub gave_read : (b : Bytes) (die : ℕ) (batch : BatchId) (page : Page) (version : Version) (slot : Slot) (payload : List ℕ) (lasting : Bool) (gave : List Gave) (cell : Cell)
    → outcome_of die (record { flight = Read batch page version slot; payload = payload; lasting = lasting }) gave ≡ Some (DidRead cell)
    → GaveFits b die (Read batch page version slot) gave → cell ≡ b.seen die slot.0
gave_read b die batch page version slot payload lasting (GaveCell found ∷ []) cell e g = sym (ap (cell_of found) e) ∙ g
gave_read b die batch page version slot payload lasting (GaveCell found ∷ Accepted ∷ []) cell e g = absurd (omega (arith, ap tag e))
gave_read b die batch page version slot payload lasting (GaveCell found ∷ Refused ∷ []) cell e g = absurd (omega (arith, ap tag e))
gave_read b die batch page version slot payload lasting (Accepted ∷ []) cell e g = absurd (omega (arith, ap tag e))
gave_read b die batch page version slot payload lasting (Accepted ∷ Accepted ∷ []) cell e g = absurd (omega (arith, ap tag e))
gave_read b die batch page version slot payload lasting (Accepted ∷ Refused ∷ []) cell e g = absurd (omega (arith, ap tag e))
gave_read b die batch page version slot payload lasting (Refused ∷ []) cell e g = absurd (omega (arith, ap tag e))
gave_read b die batch page version slot payload lasting gave cell e g = absurd (omega (arith, ap tag e))
