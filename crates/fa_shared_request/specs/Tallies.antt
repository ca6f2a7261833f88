-- How many pages a request writes, and how many of them are still to be committed.
use Rattle.std.specs.Prelude.{ℕ, ◌+◌, ◌-◌, Option, Some, None}
use Rattle.fa_shared_request.specs.Ops.{OpView, stage_of, task_in}
use Rattle.fa_shared_steps.specs.Ranges.{first_page, past_page}
use Rattle.fa_shared_steps.specs.declared.range.Range.{Range}
use Rattle.fa_shared_steps.specs.declared.request.Fill.{Fill}
use Rattle.fa_shared_steps.specs.declared.request.Task.{Task}
use Rattle.fa_shared_steps.specs.declared.stage.Purpose.{Purpose}
use Rattle.fa_shared_steps.specs.declared.stage.Purpose.TheVariants.{Answer, Merge}
use Rattle.fa_shared_steps.specs.declared.stage.Stage.{Stage}
use Rattle.fa_shared_steps.specs.declared.stage.Stage.TheVariants.{Listing, Asking, Reading, Leaving, Sorting, Claiming, Filling, Reserving}
use Rattle.fa_shared_steps.specs.declared.stage.Stage.TheVariants.{Committing, Abandoning, Releasing, BeginningFlush, Flushing, Ended}
use Rattle.fa_types.specs.declared.blocks.BlockFault.{BlockFault}

-- How many pages a task writes: each that has a byte of its range, if it writes at all.
abbrev pub pages_by : Option Fill → Range → ℕ
pages_by None r = 0
pages_by (Some fill) r = past_page r - first_page r

abbrev pub pages_in : Task → ℕ
pages_in t = pages_by t.fill t.range

-- a page that is being written, and the pages of the range behind it
abbrev pub from_page_on : Task → ℕ → ℕ
from_page_on t page = past_page t.range - (page + 1) + 1

-- How many pages are still to be committed. A page counts until its Commit was accepted; of a request that is refused none does.
abbrev pub left_for : Task → Purpose → ℕ
left_for t (Answer page) = 0
left_for t (Merge held) = from_page_on t held.page.0

abbrev pub left_behind : Task → ℕ → Option BlockFault → ℕ
left_behind t page None = past_page t.range - (page + 1)
left_behind t page (Some fault) = 0

-- 1 of a request that is refused, or is to be
abbrev pub refusals_by : Option BlockFault → ℕ
refusals_by None = 0
refusals_by (Some fault) = 1

module _ {A : Type 0} where
  abbrev pub left : Task → Stage A → ℕ
  left t (Listing purpose) = left_for t purpose
  left t (Asking purpose pages) = left_for t purpose
  left t (Reading purpose batch) = left_for t purpose
  left t (Leaving purpose batch fault) = 0
  left t (Sorting purpose answers) = left_for t purpose
  left t (Claiming page) = from_page_on t page.0
  left t (Filling held fewer) = from_page_on t held.page.0
  left t (Reserving held wish) = from_page_on t held.page.0
  left t (Committing held wish) = from_page_on t held.page.0
  left t (Abandoning held wish) = from_page_on t held.page.0
  left t (Releasing held fault) = left_behind t held.page.0 fault
  left t BeginningFlush = 0
  left t (Flushing flush) = 0
  left t (Ended fault) = 0

  abbrev pub refusals : Stage A → ℕ
  refusals (Leaving purpose batch fault) = 1
  refusals (Releasing held fault) = refusals_by fault
  refusals (Ended fault) = refusals_by fault
  refusals stage = 0

-- The Commits that were made with a seat, how many pages its requests still have to commit, and how many of these requests are refused.
pub record Tally : Type 0 where
  pub commits : ℕ
  pub left : ℕ
  pub refused : ℕ

module _ {A : Type 0} where
  abbrev pub tally_at : ℕ → Task → Stage A → Tally
  tally_at commits t stage = record { commits = commits; left = left t stage; refused = refusals stage }

  abbrev pub tally_of : ℕ → OpView A → Tally
  tally_of commits op = tally_at commits (task_in op) (stage_of op)
