-- The calendar of one die.
use Rattle.std.specs.Prelude.{ℕ, ◌≤◌, List, Option}
use Rattle.fa_types.specs.Open.{rounds_that, max_closed}
use Rattle.fa_types.specs.declared.window.Window.{Window}
use Rattle.fa_closed.specs.declared.spans.Span.{Span}
use Rattle.fa_closed.specs.Runs.{is_covered}
use Rattle.fa_calendar.specs.Merging.{total_rounds, AreMerged}

-- its closed rounds as spans, its window, and how many spans there is room for
pub record DieState : Type 0 where
  pub spans : List Span
  pub window : Option Window
  pub room : ℕ

-- The spans are merged, their rounds are no more than may be, and there is room for a span for each of them.
pub record IsRoomy (die : DieState) : Type 0 where
  pub merged : AreMerged die.spans
  pub few : total_rounds die.spans ≤ max_closed
  pub kept : total_rounds die.spans ≤ die.room

-- The closed rounds are no more than may be, and there is room for a span for each of them, so that none of them
-- takes memory to be opened.
pub record HasRoom (die : DieState) : Type 0 where
  pub few : (from n : ℕ) → rounds_that (is_covered die.spans) from n ≤ max_closed
  pub kept : (from n : ℕ) → rounds_that (is_covered die.spans) from n ≤ die.room
