-- Runs: any order of events, each with its answer, and of image calls, each of a job in flight, that keeps the
-- conditions; and which runs read right.
use Rattle.std.specs.Prelude.{◌≡◌, ℕ, suc, ◌≤◌, List, [], ◌∷◌, ◌++◌, Option, Some, None, option_and_then, option_map}
use Rattle.std.specs.List.{AllByRecursion}
use Rattle.fa_machine.specs.Collecting.{is_in_block}
use Rattle.fa_machine.specs.Step.{Act, EndBatch, Step}
use Rattle.fa_machine.specs.World.{World, Work, JobCall, Gave, DieImage, Calls, IsTold, followed, next_call, with_value}

pub data Happening : Type 0 where
  Event : (act : Act) → Happening
  ImageCall : (die : ℕ) (gave : Gave) → Happening

-- an event: a step of the array's state, and what follows from it
pub record HappensEvent (before : World) (act : Act) (after : World) : Type 0 where
  pub step : Step before.core act after.core
  pub told : IsTold before act
  pub follows : after ≡ record (followed act before) { core = after.core; moment = suc before.moment }

-- the next call of the work that a die is at, if it has one, as its image answers it
abbrev pub CallsNext : World → ℕ → Option Work → Option JobCall → Gave → World → Type 0
CallsNext before die work None gave after = ⊥
CallsNext before die work (Some call) gave after =
    (image : DieImage) × Calls (is_in_block before.core.page_map) call gave (before.images die) image × (after ≡ record before {
      images = with_value die image before.images;
      works = with_value die (option_map {T = Work} (λ k. record k { gave = k.gave ++ gave ∷ [] }) work) before.works;
    })

abbrev pub Happens : World → Happening → World → Type 0
Happens before (Event act) after = HappensEvent before act after
Happens before (ImageCall die gave) after =
    CallsNext before die (before.works die) (option_and_then (λ k. next_call die k.job k.gave) (before.works die)) gave after

abbrev pub Run : World → List Happening → World → Type 0
Run before [] after = after ≡ before
Run before (happening ∷ happenings) after = (middle : World) × Happens before happening middle × Run middle happenings after

-- An answer of a page is what was due to it: the plain array's page at the Take of the read that gave it, or at the batch's
-- admission where it was answered there. Neither was before the batch's admission.
abbrev pub IsRightAnswer : World → ℕ → ℕ × List ℕ → Type 0
IsRightAnswer w batch answer = (answer.1 ≡ (w.values batch answer.0).bytes) × (w.admitted batch ≤ (w.values batch answer.0).since)

abbrev pub ReadsRight : World → Act → Type 0
ReadsRight w (EndBatch batch answer) = AllByRecursion (IsRightAnswer w batch) answer
ReadsRight w act = Unit {0}
