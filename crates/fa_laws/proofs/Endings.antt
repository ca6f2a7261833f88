-- What an event and an image call ask of a job and its work, each of which may be there or not.
use Rattle.fa_machine.specs.Cells.{Outcome, is_of_kind}
use Rattle.fa_machine.specs.Run.{CallsNext}
use Rattle.fa_machine.specs.State.{Core}
use Rattle.fa_machine.specs.Step.{is_sized_read}
use Rattle.fa_machine.specs.World.{Gave, Work, World, next_call, outcome_of, with_end, with_value}
use Rattle.fa_machine.specs.declared.jobs.Flight.{Flight}
use Rattle.std.proofs.Common.{Bool, None, Option, Some, false, ℕ, ◌≡◌}
use Rattle.std.specs.Option.{option_map_or}
use Rattle.std.specs.Prelude.{option_and_then, ◌&&◌}

-- the outcome of a Done is what its job's calls gave
abbrev pub HasOutcome : ℕ → Option Work → Outcome → Type 0
HasOutcome die work outcome = option_and_then (λ k. outcome_of die k.job k.gave) work ≡ Some outcome

abbrev pub may_end : Core → Option Flight → Outcome → Bool
may_end core flight outcome = option_map_or (λ job. is_of_kind job outcome) flight false && is_sized_read core outcome

-- the world in which a job is over
abbrev pub with_done : ℕ → Option Flight → Outcome → World → World
with_done die flight outcome w = record (with_end die flight outcome w) { works = with_value die None w.works }

-- the next call of the work of a die
abbrev pub HappensCall : World → ℕ → Option Work → Gave → World → Type 0
HappensCall before die work gave after = CallsNext before die work (option_and_then (λ k. next_call die k.job k.gave) work) gave after
