-- Events of some kind alone, one after the other.
use Rattle.std.specs.FinMap.{get}
use Rattle.std.specs.Option.{option_map_or}
use Rattle.std.specs.Prelude.{◌≡◌, ◌++◌, ◌&&◌, List, [], ◌∷◌, ℕ, Bool, true, false, Some, None, Ok, is_some, map}
use Rattle.fa_core_calls.specs.declared.call.Answer.{Answer}
use Rattle.fa_core_calls.specs.declared.call.Answer.TheVariants.{Advance as GaveAdvance}
use Rattle.fa_machine.specs.Cells.{Outcome, is_of_kind}
use Rattle.fa_machine.specs.State.{Core}
use Rattle.fa_machine.specs.Step.{Act, Advance, Done, Fold, Step, Take, is_sized}
use Rattle.fa_machine.specs.Taking.{Handed}
use Rattle.fa_machine.specs.Turning.{advance_refusal}

-- Whatever lies between two states is such events, each with its answer.
pub data MakesOnly (kind : Act → Type 0) (old : Core) : Core → Type 0 where
  NoMore : MakesOnly kind old old
  OneMore : (between : Core) (act : Act) (new : Core) → MakesOnly kind old between → kind act → Step between act new
      → MakesOnly kind old new

-- a round passes, or may not
abbrev pub IsAdvance : Act → Type 0
IsAdvance (Advance answer) = Unit {0}
IsAdvance act = ⊥

-- No round may pass.
abbrev pub MayNotAdvance : Core → Type 0
MayNotAdvance core = is_some (advance_refusal core) ≡ true

module _ {A : Type 0} where
  -- whether a round passed
  abbrev pub has_passed : Answer A → Bool
  has_passed (GaveAdvance (Ok round)) = true
  has_passed answer = false

-- What may come beside jobs that are taken with a seat: rounds pass, the history is folded, and a Take gives no job.
abbrev pub IsBeside : ℕ → Act → Type 0
IsBeside seat (Advance answer) = Unit {0}
IsBeside seat Fold = Unit {0}
IsBeside seat (Take die by None) = by ≡ seat
IsBeside seat act = ⊥

-- Jobs are taken with a seat, and the dies that they are of are held behind those that were held before.
pub data TakesJobs (seat : ℕ) (old : Core) (held : List ℕ) : Core → List ℕ → Type 0 where
  NoJob : TakesJobs seat old held old held
  Beside : (between : Core) (dies : List ℕ) (act : Act) (new : Core) → TakesJobs seat old held between dies → IsBeside seat act
      → Step between act new → TakesJobs seat old held new dies
  OneJob : (between : Core) (dies : List ℕ) (die : ℕ) (job : Handed) (new : Core) → TakesJobs seat old held between dies
      → Step between (Take die seat (Some job)) new → TakesJobs seat old held new (dies ++ die ∷ [])

-- What is told of a die's job: how it ended, and the bytes beside that.
pub record Told : Type 0 where
  pub die : ℕ
  pub outcome : Outcome
  pub bytes : List ℕ

-- the dies of which something is told
abbrev pub dies_told : List Told → List ℕ
dies_told told = map (λ t. t.die) told

-- some of them, in their order
pub data IsPart : List ℕ → List ℕ → Type 0 where
  NoPart : IsPart [] []
  OneStays : (part whole : List ℕ) (die : ℕ) → IsPart part whole → IsPart (part ++ die ∷ []) (whole ++ die ∷ [])
  OneGoes : (part whole : List ℕ) (die : ℕ) → IsPart part whole → IsPart part (whole ++ die ∷ [])

-- The job of a die ends as is told, or it may not end so: its kind is another, or the bytes are not those of a page.
pub data EndsJob (told : Told) (old new : Core) : Type 0 where
  Ended : Step old (Done told.die told.outcome) new → EndsJob told old new
  MayNot : (option_map_or (λ job. is_of_kind job told.outcome) (get old.jobs told.die) false && is_sized old told.bytes) ≡ false → new ≡ old
      → EndsJob told old new

-- The jobs of which something is told end, one after the other, and the last first.
pub data EndsJobs : Core → List Told → Core → Type 0 where
  NoEnd : (core : Core) → EndsJobs core [] core
  OneEnd : (old : Core) (others : List Told) (told : Told) (between new : Core) → EndsJob told old between → EndsJobs between others new
      → EndsJobs old (others ++ told ∷ []) new
