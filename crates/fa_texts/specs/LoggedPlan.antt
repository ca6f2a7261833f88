-- A logged plan: the text of a batch with the text of its certificate at once behind it.
use Rattle.std.specs.Prelude.{◌≡◌, ℕ, List, ◌++◌}
use Rattle.fa_types.specs.declared.numbers.Page.{Page}
use Rattle.fa_closed.specs.declared.closed.Run.{Run}
use Rattle.fa_batch_terms.specs.declared.place.Place.{Place}
use Rattle.fa_batch_terms.specs.Batch.{Entry}
use Rattle.fa_texts.specs.BatchText.{batch_lines, IsBatchText}
use Rattle.fa_texts.specs.CertificateText.{IsCertificateText, IsPrinted}
use Rattle.fa_texts.specs.Text.{words_by_line}

-- What is printed as the logged plan of a batch: the lines of its text, and what is printed of its plan and its shortage.
pub record IsLoggedPlanPrinted (entries : List Entry) (runs : List Run) (rounds : ℕ) (places : List Place) (pages : List Page)
    (out : List ℕ) : Type 0 where
  pub first : List ℕ
  pub second : List ℕ
  pub parts : out ≡ first ++ second
  pub batch : (more : List ℕ) → words_by_line (first ++ more) ≡ batch_lines entries runs ++ words_by_line more
  pub certificate : IsPrinted rounds places pages second

-- A logged plan was printed behind an old text.
pub record PrintsLoggedPlan (entries : List Entry) (runs : List Run) (rounds : ℕ) (places : List Place) (pages : List Page)
    (old new : List ℕ) : Type 0 where
  pub text : List ℕ
  pub behind : new ≡ old ++ text
  pub printed : IsLoggedPlanPrinted entries runs rounds places pages text

-- lines that are a batch text with a certificate text at once behind it, and nothing more
pub record AreTexts (lines : List (List (List ℕ))) (entries : List Entry) (runs : List Run) (rounds : ℕ)
    (places : List Place) (pages : List Page) : Type 0 where
  pub first : List (List (List ℕ))
  pub second : List (List (List ℕ))
  pub parts : lines ≡ first ++ second
  pub batch : IsBatchText first entries runs
  pub certificate : IsCertificateText second rounds places pages
