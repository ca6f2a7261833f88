-- The plain array: what the disk would be with no dies. It is a list of pages, each a list of bytes.
use Rattle.std.specs.Prelude.{◌≡◌, ℕ, List, length, slice_set}
use Rattle.std.specs.List.{concat, AllByRecursion}

-- each page has so many bytes
abbrev pub HasPages : ℕ → List (List ℕ) → Type 0
HasPages page_bytes pages = AllByRecursion (λ page. length page ≡ page_bytes) pages

-- Replaces page p by x, and nothing else.
abbrev pub put : ℕ → List ℕ → List (List ℕ) → List (List ℕ)
put p x pages = slice_set pages p x

-- the bytes that clients see: the pages one after the other
abbrev pub export : List (List ℕ) → List ℕ
export pages = concat pages
