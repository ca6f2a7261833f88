-- How the Commits of a seat keep up with the pages that a request writes which is done in parts.
use Rattle.std.specs.Prelude.{◌≡◌, ℕ, Bool, List, is_some}
use Rattle.std.specs.List.{sum_by}
use Rattle.fa_shared_request.specs.declared.parts.Part.{Part}
use Rattle.fa_shared_request.specs.Counts.{Counts}
use Rattle.fa_shared_request.specs.Ops.{ended, stage_of, task_in}
use Rattle.fa_shared_request.specs.Tallies.{Tally, left, pages_in, refusals}
use Rattle.fa_shared_steps.specs.Tasks.{task_of, within}
use Rattle.fa_shared_steps.specs.declared.request.Request.{Request}
use Rattle.fa_shared_lock.specs.Seats.{commits_with, number_of}
use Rattle.fa_shared_lock.specs.declared.seat.Seat.{Seat}

-- how many pages a request writes between two offsets
abbrev pub pages_between : ℕ → Request → ℕ → ℕ → ℕ
pages_between page_bytes request from to = pages_in (task_of page_bytes (within request from to))

module _ {A : Type 0} where
  -- of a request that is done in parts
  abbrev pub left_in : Part A → ℕ
  left_in part = left (task_in part.op) (stage_of part.op)

  abbrev pub refusals_in : Part A → ℕ
  refusals_in part = refusals (stage_of part.op)

  abbrev pub tally_of_parts : ℕ → List (Part A) → Tally
  tally_of_parts commits parts = record { commits = commits; left = sum_by left_in parts; refused = sum_by refusals_in parts }

  -- whether a part has ended
  abbrev pub has_ended : Part A → Bool
  has_ended part = is_some (ended (stage_of part.op))

module _ {L A : Type 0} where
  -- So did the parts of one.
  pub record PartsGoOn (before : Seat L) (parts : List (Part A)) (after : Seat L) (next : List (Part A)) : Type 0 where
    pub counts : Counts (tally_of_parts (commits_with before) parts) (tally_of_parts (commits_with after) next)
    pub number : number_of after ≡ number_of before
