-- The pages that were given dies, and how one page more is given a die.
use Rattle.std.specs.Prelude.{◌≡◌, ℕ, ◌+◌, ◌<◌, ◌≤◌, true, ◌==◌, if◌then◌else◌, List, length, slice_index}
use Rattle.fa_types.specs.declared.numbers.Die.{Die}
use Rattle.fa_batch_terms.specs.Batch.{Entry}
use Rattle.fa_plan_search.specs.declared.walk.Tables.{Tables}
use Rattle.fa_plan_search.specs.declared.walk.Walk.{Walk}
use Rattle.fa_plan_search.specs.Reading.{AreLoads, can_read, die_of, load_of}
use Rattle.fa_plan_search.specs.Search.{IsWalk, has_reached, rank_of, way_to}

-- each page was given a die that holds it
abbrev pub AreReaders : List Entry → List Die → Type 0
AreReaders batch given = (page : ℕ) → page < length given → can_read batch page (die_of given page) ≡ true

-- no die has more pages than it has room for
abbrev pub AreWithinOpenCounts : List Die → List ℕ → Type 0
AreWithinOpenCounts given open_counts = (die : ℕ) → die < 256 → load_of given die ≤ slice_index open_counts die

-- pages were given dies that hold them, none more than it has room for
pub record AreGiven (batch : List Entry) (given : List Die) (tables : Tables) : Type 0 where
  pub short : length given ≤ length batch
  pub long : length tables.loads ≡ 256
  pub readers : AreReaders batch given
  pub loads : AreLoads given tables.loads
  pub within : AreWithinOpenCounts given tables.open_counts

-- Pages were handed on along a way from its end up to a page, which wants this die: the rest of the way is as it was, and each
-- die has as many pages as it began with, but for a free one and this one.
pub record IsHandingOn (batch : List Entry) (first : List Die) (w : Walk) (free : ℕ) (given : List Die) (d : Die) (page : ℕ) : Type 0 where
  pub walk : IsWalk batch first w
  pub reached : has_reached w d.0 ≡ true
  pub way : page ≡ way_to w d.0
  pub long : length given ≡ length first
  pub same : (die : ℕ) → has_reached w die ≡ true → rank_of w die ≤ rank_of w d.0
      → die_of given (way_to w die) ≡ die_of first (way_to w die)
  pub readers : AreReaders batch given
  pub loads : (die : ℕ) → load_of given die + (if d.0 == die then 1 else 0) ≡ load_of first die + (if free == die then 1 else 0)
