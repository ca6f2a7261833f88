-- Tables of marks: of dies by their numbers, and of the entries of a batch by their indices.
use Rattle.std.specs.Prelude.{◌≡◌, ℕ, ◌<◌, Bool, false, List, length, slice_index_or}
use Rattle.fa_types.specs.declared.numbers.Page.{Page}
use Rattle.fa_batch_terms.specs.Batch.{Entry}
use Rattle.fa_batch_terms.specs.Certificate.{holds_any}

-- a table marks the dies that hold any of the pages
pub record AreHoldersMarked (batch : List Entry) (pages : List Page) (marks : List Bool) : Type 0 where
  pub long : length marks ≡ 256
  pub marks_are : (die : ℕ) → slice_index_or marks die false ≡ holds_any batch pages die

-- a table marks the entries of a batch whose pages pass a test
abbrev pub AreMarks : List Entry → (ℕ → Bool) → List Bool → Type 0
AreMarks batch test marks =
    (index : ℕ) (e : Entry) → index < length batch → slice_index_or marks index false ≡ test (slice_index_or batch index e).page.0
