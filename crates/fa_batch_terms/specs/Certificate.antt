-- What is least, and what shows it: a plan, with pages that are too many for one round less.
use Rattle.std.specs.Prelude.{◌≡◌, ℕ, zero, suc, ◌<◌, ◌≤◌, Bool, ◌==◌, if◌then◌else◌, List, [], length, count_by, All}
use Rattle.std.specs.List.{list_any, sum_by}
use Rattle.fa_types.specs.Open.{open_among}
use Rattle.fa_types.specs.declared.numbers.Page.{Page}
use Rattle.fa_batch_terms.specs.Batch.{Entry, holds, times_named}
use Rattle.fa_batch_terms.specs.Plan.{IsPlan, rounds_of}
use Rattle.fa_batch_terms.specs.declared.place.Place.{Place}

-- so many rounds are least: some plan has them, and no plan has fewer
pub record IsLeast (batch : List Entry) (current : ℕ) (closed : ℕ → ℕ → Bool) (rounds : ℕ) : Type 0 where
  pub some : (places : List Place) × IsPlan batch current closed places × (rounds_of current places ≡ rounds)
  pub fewest : (places : List Place) → IsPlan batch current closed places → rounds ≤ rounds_of current places

-- whether a die holds any of the pages
abbrev pub holds_any : List Entry → List Page → ℕ → Bool
holds_any batch pages die = list_any (λ p. holds batch p.0 die) pages

-- the dies that hold any of the pages, each once, and no other
abbrev pub AreTheHolders : List Entry → List Page → List ℕ → Type 0
AreTheHolders batch pages dies = (die : ℕ) → count_by (λ d. d == die) dies ≡ (if holds_any batch pages die then 1 else 0)

-- how many places of the dies are open in so many rounds from the current one on
abbrev pub open_places : ℕ → (ℕ → ℕ → Bool) → List ℕ → ℕ → ℕ
open_places current closed dies rounds = sum_by (λ die. open_among current closed die rounds) dies

-- each of the pages is in the batch, and none is named twice
pub record AreNamed (batch : List Entry) (pages : List Page) : Type 0 where
  pub known : All (λ p. 1 ≤ times_named batch p.0) pages
  pub once : (page : ℕ) → count_by (λ p. p.0 == page) pages ≤ 1

-- there are more of the pages than open places, in so many rounds, of all the dies that hold any of them
abbrev pub AreTooMany : List Entry → ℕ → (ℕ → ℕ → Bool) → ℕ → List Page → Type 0
AreTooMany batch current closed rounds pages =
    (dies : List ℕ) × AreTheHolders batch pages dies × (open_places current closed dies rounds < length pages)

-- a shortage for so many rounds
pub record IsShortage (batch : List Entry) (current : ℕ) (closed : ℕ → ℕ → Bool) (rounds : ℕ) (pages : List Page) : Type 0 where
  pub named : AreNamed batch pages
  pub many : AreTooMany batch current closed rounds pages

-- that no plan has fewer rounds: a shortage for one round less, and nothing where there is no round
abbrev pub ShowsNoFewer : List Entry → ℕ → (ℕ → ℕ → Bool) → ℕ → List Page → Type 0
ShowsNoFewer batch current closed zero pages = pages ≡ []
ShowsNoFewer batch current closed (suc rounds) pages = IsShortage batch current closed rounds pages

-- a plan of so many rounds, and what shows that no plan has fewer
pub record IsCertificate (batch : List Entry) (current : ℕ) (closed : ℕ → ℕ → Bool) (rounds : ℕ) (places : List Place)
    (pages : List Page) : Type 0 where
  pub plan : IsPlan batch current closed places
  pub length_is : rounds_of current places ≡ rounds
  pub least : ShowsNoFewer batch current closed rounds pages
