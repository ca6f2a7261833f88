-- What contracts see of how a job ended: the machine's own.
use Rattle.std.specs.Prelude.{ℕ, List}
use Rattle.fa_core_outcome.specs.declared.outcome.Outcome.{Outcome}
use Rattle.fa_core_outcome.specs.declared.outcome.Outcome.TheVariants.{Read, Programmed, Moved, Erased, HeaderWritten, Synced, Fault, Wrong}
use Rattle.fa_image.specs.Image.{fault_number}
use Rattle.fa_machine.specs.Cells.{Cell, Empty, Sealed, Broken, Outcome as JobOutcome, DidRead, DidProgram, DidMove, DidErase}
use Rattle.fa_machine.specs.Cells.{DidWriteHeader, DidSync, Fault as DidFault, Wrong as WasWrong}
use Rattle.fa_tag.specs.declared.tag.Opened.{Opened}
use Rattle.fa_tag.specs.declared.tag.Opened.TheVariants.{Erased as OpenedErased, Good, Bad}

-- what stands in a slot that was opened so, with this payload
abbrev pub cell_of : Opened → List ℕ → Cell
cell_of OpenedErased payload = Empty
cell_of (Good tag) payload = Sealed tag.page.0 (record { seq = tag.seq; kind = tag.kind }) tag.die.0 tag.slot.0 payload
cell_of Bad payload = Broken

abbrev pub outcome_of : Outcome → List ℕ → JobOutcome
outcome_of (Read opened) payload = DidRead (cell_of opened payload)
outcome_of Programmed payload = DidProgram
outcome_of Moved payload = DidMove
outcome_of Erased payload = DidErase
outcome_of HeaderWritten payload = DidWriteHeader
outcome_of Synced payload = DidSync
outcome_of (Fault fault) payload = DidFault (fault_number fault)
outcome_of Wrong payload = WasWrong
