-- Happenings between the Take and the Done of a die's job.
use Rattle.std.specs.Prelude.{◌≡◌, ℕ}
use Rattle.fa_machine.specs.Run.{Happening, Event}
use Rattle.fa_machine.specs.Step.{Done}

-- the job of the die does not end
abbrev pub EndsNoJob : ℕ → Happening → Type 0
EndsNoJob die (Event (Done d outcome)) = d ≡ die → ⊥
EndsNoJob die happening = Unit {0}
