-- The pages of a range of bytes, and the bytes of a page that are in it.
use Rattle.std.specs.Prelude.{ℕ, ◌+◌, ◌-◌, ◌*◌, ◌/◌, ◌^◌, ◌≤◌, ◌==◌, ◌&&◌, Bool, nat_le, min, if◌then◌else◌, List}
use Rattle.fa_shared_steps.specs.declared.range.Range.{Range}
use Rattle.fa_types.specs.Store.{bytes_at}

-- A range of a store: a page has some bytes, and there are not too many.
pub record IsRange (r : Range) : Type 0 where
  pub some_bytes : 1 ≤ r.page_bytes
  pub small_pages : r.page_bytes ≤ 4096
  pub ordered : r.from ≤ r.to
  pub inside : r.to ≤ 2 ^ 32

-- the first page with a byte of the range
abbrev pub first_page : Range → ℕ
first_page r = r.from / r.page_bytes

-- the page behind the last one with a byte of the range
abbrev pub past_page : Range → ℕ
past_page r = if r.from == r.to then r.from / r.page_bytes else (r.to - 1) / r.page_bytes + 1

-- whether each byte of the page is in the range
abbrev pub covers : Range → ℕ → Bool
covers r page = nat_le r.from (page * r.page_bytes) && nat_le (page * r.page_bytes + r.page_bytes) r.to

-- where the range begins in the page, and how many of its bytes the page has
abbrev pub begins_at : Range → ℕ → ℕ
begins_at r page = r.from - page * r.page_bytes

abbrev pub ends_at : Range → ℕ → ℕ
ends_at r page = min r.page_bytes (r.to - page * r.page_bytes)

abbrev pub bytes_in : Range → ℕ → ℕ
bytes_in r page = ends_at r page - begins_at r page

-- of all bytes of the range those of the page
abbrev pub part_for : Range → ℕ → List ℕ → List ℕ
part_for r page bytes = bytes_at (page * r.page_bytes + begins_at r page - r.from) (bytes_in r page) bytes

-- of a page's bytes those of the range
abbrev pub part_of : Range → ℕ → List ℕ → List ℕ
part_of r page bytes = bytes_at (begins_at r page) (bytes_in r page) bytes
