-- Happenings that leave the plain array as it is, and what batches are answered then.
use Rattle.std.specs.Prelude.{◌≡◌, ℕ, List, Ok}
use Rattle.fa_machine.specs.Run.{Happening, Event}
use Rattle.fa_machine.specs.Step.{Commit, EndBatch}
use Rattle.fa_machine.specs.World.{World, plain_page}

-- the happening is no Commit that is accepted
abbrev pub WritesNothing : Happening → Type 0
WritesNothing (Event (Commit claim seat (Ok seq))) = ⊥
WritesNothing happening = Unit {0}

-- the batch does not end
abbrev pub EndsNoBatch : ℕ → Happening → Type 0
EndsNoBatch batch (Event (EndBatch b answer)) = b ≡ batch → ⊥
EndsNoBatch batch happening = Unit {0}

-- what is answered for a page is the plain array's page
abbrev pub GivesPlainPage : World → ℕ × List ℕ → Type 0
GivesPlainPage w answer = answer.1 ≡ plain_page w answer.0
