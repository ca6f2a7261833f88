-- What a batch is made of: its entries, and the first of them for each page.
use Rattle.std.specs.Prelude.{◌≡◌, ℕ, zero, suc, ◌<◌, ◌≤◌, ◌==◌, if◌then◌else◌, Option, None, is_some}
use Rattle.std.specs.Prelude.{List, [], ◌∷◌, length, map, take, position, slice_range, slice_index_or}
use Rattle.std.specs.BTreeMap.{BTreeMap, get}
use Rattle.std.specs.Ordering.{nat_cmp}
use Rattle.fa_types.specs.declared.numbers.Die.{Die}
use Rattle.fa_batch.specs.declared.batch.HeldPage.{HeldPage}
use Rattle.fa_batch_terms.specs.Batch.{Entry}

-- the entries of these pages, of which the first one's holders begin at an index of the list of all holders
abbrev pub entries_from : ℕ → List HeldPage → List Die → List Entry
entries_from begin [] holders = []
entries_from begin (held ∷ rest) holders =
    record { page = held.page; holders = slice_range holders begin held.end } ∷ entries_from held.end rest holders

abbrev pub entries_of : List HeldPage → List Die → List Entry
entries_of held holders = entries_from 0 held holders

-- the index at which the holders of one of these pages begin
abbrev pub begin_from : ℕ → List HeldPage → ℕ → HeldPage → ℕ
begin_from begin held zero d = begin
begin_from begin held (suc i) d = (slice_index_or held i d).end

-- where the holders of these pages end: no end is below the one before it, and the last one is the number of all holders
abbrev pub AreEndsFrom : ℕ → List HeldPage → ℕ → Type 0
AreEndsFrom begin [] count = begin ≡ count
AreEndsFrom begin (held ∷ rest) count = (begin ≤ held.end) × AreEndsFrom held.end rest count

abbrev pub pages_of : List HeldPage → List ℕ
pages_of held = map (λ h. h.page.0) held

-- the index of the first entry of a page
abbrev pub entry_index : List Entry → ℕ → Option ℕ
entry_index batch page = position (λ e. e.page.0 == page) batch

-- the index at which a page is first named
abbrev pub index_among : List ℕ → ℕ → Option ℕ
index_among pages page = position (λ p. p == page) pages

-- each page is above those before it
abbrev pub AreRising : List ℕ → Type 0
AreRising pages = (i j : ℕ) → i < j → j < length pages → slice_index_or pages i 0 < slice_index_or pages j 0

-- a map gives the index at which a page is first named, and nothing for a page that is not named or is among the first `rising` ones
abbrev pub IsIndexOf : List ℕ → ℕ → BTreeMap ℕ ℕ → Type 0
IsIndexOf pages rising index =
    (page : ℕ) → get nat_cmp index page ≡ (if is_some (index_among (take rising pages) page) then None else index_among pages page)

-- The parts of a batch fit one another: where the holders end, how many of the first pages rise, and the index of the other pages.
pub record IsIndexed (held : List HeldPage) (holders : List Die) (rising : ℕ) (first : BTreeMap ℕ ℕ) : Type 0 where
  pub ends : AreEndsFrom 0 held (length holders)
  pub within : rising ≤ length held
  pub rise : AreRising (take rising (pages_of held))
  pub index : IsIndexOf (pages_of held) rising first
