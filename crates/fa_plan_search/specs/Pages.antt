-- The pages of a batch, and those of them that a walk reached.
use Rattle.std.specs.Prelude.{◌≡◌, ℕ, ◌+◌, ◌<◌, ◌≤◌, ◌==◌, List, length, map, count_by, All, slice_index_or, take}
use Rattle.fa_types.specs.declared.numbers.Die.{Die}
use Rattle.fa_types.specs.declared.numbers.Page.{Page}
use Rattle.fa_batch_terms.specs.Batch.{Entry, times_named}
use Rattle.fa_plan_search.specs.declared.walk.Walk.{Walk}
use Rattle.fa_plan_search.specs.Reading.{no_entry}
use Rattle.fa_plan_search.specs.Search.{IsReached, has_reached}

-- the pages of a batch
abbrev pub pages_of : List Entry → List Page
pages_of batch = map (λ e. e.page) batch

-- the page of an index that a walk reached
pub record IsReachedPage (batch : List Entry) (given : List Die) (w : Walk) (page : Page) : Type 0 where
  pub index : ℕ
  pub within : index < length batch
  pub reached : IsReached given w index
  pub is : (slice_index_or batch index no_entry).page ≡ page

-- the pages that a walk reached among the first ones that have dies, none twice
pub record AreReachedAmong (batch : List Entry) (given : List Die) (w : Walk) (first : ℕ) (pages : List Page) : Type 0 where
  pub many : length pages ≡ count_by (λ d. has_reached w d.0) (take first given)
  pub once : (page : ℕ) → count_by (λ p. p.0 == page) pages ≤ times_named (take first batch) page
  pub each : All (IsReachedPage batch given w) pages

-- all pages that a walk reached, with the one from which it began
pub record AreReached (batch : List Entry) (given : List Die) (w : Walk) (pages : List Page) : Type 0 where
  pub many : length pages ≡ count_by (λ d. has_reached w d.0) given + 1
  pub once : (page : ℕ) → count_by (λ p. p.0 == page) pages ≤ times_named batch page
  pub each : All (IsReachedPage batch given w) pages
