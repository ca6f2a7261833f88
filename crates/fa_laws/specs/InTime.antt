-- By when a batch has its answers: each page that was planned is read by the plan's last round.
use Rattle.std.specs.Prelude.{◌≡◌, ℕ, ◌+◌, max, Ok}
use Rattle.fa_machine.specs.Run.{Happening, Event}
use Rattle.fa_machine.specs.State.{Core}
use Rattle.fa_machine.specs.Step.{Act, Admit, Replan}

-- The round in which all reads of a batch that an event planned have ended. Beside those of a plan anew there may be reads
-- in flight, which end in the current round.
abbrev pub IsPlannedUntil : Core → Act → ℕ → ℕ → Type 0
IsPlannedUntil core (Admit pages (Ok admitted)) batch until =
    (admitted.batch.0 ≡ batch) × (until ≡ core.calendar.round + admitted.planned.rounds)
IsPlannedUntil core (Replan b (Ok planned)) batch until = (b ≡ batch) × (until ≡ core.calendar.round + max 1 planned.rounds)
IsPlannedUntil core act batch until = ⊥

-- a happening that plans nothing for the batch
abbrev pub PlansNothing : ℕ → Happening → Type 0
PlansNothing batch (Event (Admit pages (Ok admitted))) = admitted.batch.0 ≡ batch → ⊥
PlansNothing batch (Event (Replan b (Ok planned))) = b ≡ batch → ⊥
PlansNothing batch happening = Unit {0}
