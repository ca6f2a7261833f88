-- How many rounds pages need.
use Rattle.std.specs.Prelude.{ℕ, ◌+◌, ◌<◌, ◌≤◌, Bool, List, length}
use Rattle.fa_types.specs.declared.numbers.Page.{Page}
use Rattle.fa_batch_terms.specs.Batch.{Entry}
use Rattle.fa_batch_terms.specs.Certificate.{AreTheHolders, ShowsNoFewer, open_places}

-- whoever lists the dies that hold any of the pages finds too few open places, or enough
abbrev pub AreTooFew : List Entry → ℕ → (ℕ → ℕ → Bool) → ℕ → List Page → Type 0
AreTooFew batch current closed rounds pages =
    (dies : List ℕ) → AreTheHolders batch pages dies → open_places current closed dies rounds < length pages

abbrev pub AreEnough : List Entry → ℕ → (ℕ → ℕ → Bool) → ℕ → List Page → Type 0
AreEnough batch current closed rounds pages =
    (dies : List ℕ) → AreTheHolders batch pages dies → length pages ≤ open_places current closed dies rounds

-- so many rounds are the first that the pages leave, after so many for which they are a shortage
pub record IsRaised (batch : List Entry) (current : ℕ) (closed : ℕ → ℕ → Bool) (pages : List Page) (low rounds : ℕ) : Type 0 where
  pub later : low < rounds
  pub limit : rounds ≤ length pages + 1048576
  pub shows : ShowsNoFewer batch current closed rounds pages
  pub enough : AreEnough batch current closed rounds pages
