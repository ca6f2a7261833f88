-- How many rounds a batch takes at least, by the open places of dies.
use Rattle.std.specs.Prelude.{◌≡◌, ℕ, ◌+◌, ◌-◌, ◌<◌, ◌≤◌, Bool, true, false, List, length, slice_index_or}
use Rattle.fa_batch_terms.specs.Batch.{Entry}
use Rattle.fa_batch_terms.specs.Certificate.{AreTheHolders, open_places}
use Rattle.fa_cert_places.specs.OpenCounts.{marked}
use Rattle.fa_plan_search.specs.Pages.{pages_of}

-- The simple bound: the least number of rounds in which the dies that hold any of the pages have as many open places
-- as there are pages.
pub record IsSimpleBound (batch : List Entry) (current : ℕ) (closed : ℕ → ℕ → Bool) (rounds : ℕ) : Type 0 where
  pub dies : List ℕ
  pub whose : AreTheHolders batch (pages_of batch) dies
  pub enough : length batch ≤ open_places current closed dies rounds
  pub fewer : (less : ℕ) → less < rounds → open_places current closed dies less < length batch

-- how many open places the marked dies have
abbrev pub places_of : ℕ → (ℕ → ℕ → Bool) → List Bool → ℕ → ℕ
places_of current closed marks rounds = open_places current closed (marked marks 256) rounds

-- some die is marked
pub record IsSomeMarked (marks : List Bool) : Type 0 where
  pub die : ℕ
  pub known : die < 256
  pub is_marked : slice_index_or marks die false ≡ true

-- so many rounds are the first with enough places for the pages, after so many that are too few
pub record IsFirstEnough (current : ℕ) (closed : ℕ → ℕ → Bool) (marks : List Bool) (pages low rounds : ℕ) : Type 0 where
  pub later : low < rounds
  pub limit : rounds ≤ pages + 1048576
  pub fewer : places_of current closed marks (rounds - 1) < pages
  pub enough : pages ≤ places_of current closed marks rounds
