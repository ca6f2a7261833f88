-- A plan in the making: the first pages have dies, within a number of rounds that no plan goes below.
use Rattle.std.specs.Prelude.{◌≡◌, ℕ, ◌+◌, ◌-◌, ◌*◌, ◌≤◌, Bool, List, length, map}
use Rattle.fa_types.specs.declared.numbers.Die.{Die}
use Rattle.fa_batch_terms.specs.Batch.{Entry}
use Rattle.fa_batch_terms.specs.Certificate.{ShowsNoFewer}
use Rattle.fa_plan.specs.declared.layout.Seat.{Seat}
use Rattle.fa_plan.specs.declared.planner.Progress.{Progress}
use Rattle.fa_plan.specs.Bound.{IsSimpleBound}
use Rattle.fa_plan.specs.Giving.{AreGiven}
use Rattle.fa_cert_places.specs.OpenCounts.{AreOpenCounts}
use Rattle.fa_plan_search.specs.Pages.{pages_of}

-- the pages of a batch with the dies that they were given
pub record AreSeats (batch : List Entry) (given : List Die) (seats : List Seat) : Type 0 where
  pub pages : map (λ s. s.page) seats ≡ pages_of batch
  pub dies : map (λ s. s.die) seats ≡ given

module _ {A : Type 0} where
  -- how many steps are left at most: pages that want a die, and rounds that can still be added
  abbrev pub steps_left : List Entry → Progress A → ℕ
  steps_left batch p = (length batch - length p.given.items) + (length batch + 1048576 - p.rounds)

  pub record IsProgress (batch : List Entry) (current : ℕ) (closed : ℕ → ℕ → Bool) (p : Progress A) : Type 0 where
    pub given : AreGiven batch p.given.items p.tables
    pub open_counts : AreOpenCounts current closed p.rounds p.tables.open_counts
    pub limit : p.rounds ≤ length batch + 1048576
    pub shows : ShowsNoFewer batch current closed p.rounds p.short
    pub few : (first : ℕ) → IsSimpleBound batch current closed first → p.searches + first ≤ length p.given.items + p.rounds
    pub most : p.searches ≤ length p.given.items + p.rounds
    pub counted : length p.given.items ≤ p.searches
    pub whole : p.searches ≡ length p.given.items → p.short ≡ pages_of batch
    pub looks : p.looks ≤ p.searches * length batch
