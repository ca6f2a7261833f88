-- Happenings between a Reserve and the Commit of what it reserved.
use Rattle.std.specs.Prelude.{◌≡◌, ℕ, Ok}
use Rattle.fa_machine.specs.Run.{Happening, Event}
use Rattle.fa_machine.specs.Step.{Abandon, Commit, Release}

-- the claim is not released, and what is reserved under it is neither committed nor given up
abbrev pub KeepsClaim : ℕ → Happening → Type 0
KeepsClaim claim (Event (Release c)) = c ≡ claim → ⊥
KeepsClaim claim (Event (Commit c seat (Ok seq))) = c ≡ claim → ⊥
KeepsClaim claim (Event (Abandon c (Ok done))) = c ≡ claim → ⊥
KeepsClaim claim happening = Unit {0}
