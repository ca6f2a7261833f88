-- What a request makes while no lock is held.
use Rattle.std.specs.Prelude.{◌≡◌, ℕ, ◌+◌, ◌-◌, ◌*◌, ◌⊎◌, ◌∷◌, [], ◌++◌, ◌==◌, ◌&&◌, Bool, true, false, min, nat_le, nat_lt, if◌then◌else◌}
use Rattle.std.specs.Prelude.{List, length, map, replicate, Option, Some, None}
use Rattle.std.specs.List.{flat_map, list_all, range_with_len}
use Rattle.fa_shared_steps.specs.Stages.{stopped}
use Rattle.fa_shared_steps.specs.Ranges.{begins_at, bytes_in, part_for, part_of, past_page}
use Rattle.fa_shared_steps.specs.declared.range.Range.{Range}
use Rattle.fa_shared_steps.specs.declared.request.Fill.{Fill}
use Rattle.fa_shared_steps.specs.declared.request.Fill.TheVariants.{Bytes, Holes}
use Rattle.fa_shared_steps.specs.declared.request.Task.{Task}
use Rattle.fa_shared_steps.specs.declared.stage.PageClaim.{PageClaim}
use Rattle.fa_shared_steps.specs.declared.stage.Purpose.{Purpose}
use Rattle.fa_shared_steps.specs.declared.stage.Purpose.TheVariants.{Answer, Merge}
use Rattle.fa_shared_steps.specs.declared.stage.Stage.{Stage}
use Rattle.fa_shared_steps.specs.declared.stage.Stage.TheVariants.{Asking, Ended, Listing, Reserving, Releasing}
use Rattle.fa_shared_steps.specs.declared.stage.Wish.{Wish}
use Rattle.fa_shared_steps.specs.declared.stage.Wish.TheVariants.{Data, Fewer, Hole}
use Rattle.fa_types.specs.Store.{with_bytes}
use Rattle.fa_types.specs.declared.blocks.BlockFault.TheVariants.{Lost, NoMemory}
use Rattle.fa_types.specs.declared.numbers.Page.{Page}

-- What goes into a page: the request's bytes of it, or as many zeros.
abbrev pub content : Option Fill → Range → ℕ → List ℕ → List ℕ
content (Some Bytes) r page bytes = part_for r page bytes
content fill r page bytes = replicate (bytes_in r page) 0

-- Whether the request has bytes for all of its part of the page: of zeros it always has.
abbrev pub has_content : Option Fill → Range → ℕ → List ℕ → Bool
has_content (Some Bytes) r page bytes = nat_le (page * r.page_bytes + begins_at r page - r.from + bytes_in r page) (length bytes)
has_content fill r page bytes = true

-- whether the part of the page that is in the range lies in so many bytes
abbrev pub has_part : Range → ℕ → ℕ → Bool
has_part r page count = nat_le (begins_at r page + bytes_in r page) count

-- the page behind the last one of a batch that begins at this page
abbrev pub until : Range → ℕ → ℕ
until r page = min (past_page r) (page + 1024)

-- the pages from one to before another
abbrev pub pages_between : ℕ → ℕ → List Page
pages_between page past = map (λ (number : ℕ). let numbered : Page = record { 0 = number } in numbered) (range_with_len page (past - page))

abbrev pub Lists : Range → Purpose → Purpose → List Page → Type 0
Lists r (Merge held) purpose pages = (purpose ≡ Merge held) × (pages ≡ held.page ∷ [])
Lists r (Answer page) purpose pages = (purpose ≡ Answer (until r page)) × (pages ≡ pages_between page (until r page))

module _ {A : Type 0} where
  -- The pages of the next batch, or no memory for them.
  abbrev pub IsListed : Range → Purpose → Stage A → Type 0
  IsListed r purpose (Asking next pages) = Lists r purpose next pages
  IsListed r purpose next = next ≡ stopped purpose NoMemory

  -- a page that is written whole, as it is asked for or on fewer dies
  abbrev pub IsWish : Task → List ℕ → ℕ → Bool → Wish A → Type 0
  IsWish t bytes page fewer Hole = (t.fill ≡ Some Holes) × (fewer ≡ false)
  IsWish t bytes page fewer (Data payload) = (fewer ≡ false) × (payload ≡ content t.fill t.range page bytes)
  IsWish t bytes page fewer (Fewer payload) = (fewer ≡ true) × (payload ≡ content t.fill t.range page bytes)

  -- What a page that is written whole is to hold, or no memory for it, or no bytes.
  abbrev pub IsFilled : Task → List ℕ → PageClaim → Bool → Stage A → Type 0
  IsFilled t bytes held fewer (Reserving h wish) = (h ≡ held) × IsWish t bytes held.page.0 fewer wish
  IsFilled t bytes held fewer next = (next ≡ Releasing held (Some NoMemory))
      ⊎ ((has_content t.fill t.range held.page.0 bytes ≡ false) × (next ≡ Releasing held (Some Lost)))

  -- What a page that is written in part is to hold: the request's bytes over those that the page had.
  abbrev pub IsMerged : Task → List ℕ → PageClaim → List ℕ → Stage A → Type 0
  IsMerged t bytes held given (Reserving h (Data payload)) =
      (h ≡ held) × (payload ≡ with_bytes (begins_at t.range held.page.0) (content t.fill t.range held.page.0 bytes) given)
  IsMerged t bytes held given next = (next ≡ Releasing held (Some NoMemory))
      ⊎ (((has_content t.fill t.range held.page.0 bytes && has_part t.range held.page.0 (length given)) ≡ false)
      × (next ≡ Releasing held (Some Lost)))

  -- What a page is to hold behind a batch that gave this of it.
  abbrev pub SortsPage : Task → List ℕ → PageClaim → List (ℕ × List ℕ) → Stage A → Type 0
  SortsPage t bytes held [] next = next ≡ Releasing held (Some Lost)
  SortsPage t bytes held (e ∷ rest) next = IsMerged t bytes held e.1 next

  -- Behind a batch of a read: the next one, or the end, where the answer is whole.
  abbrev pub after_batch : Range → ℕ → List ℕ → Stage A
  after_batch r page answer =
      if nat_lt page (past_page r) then Listing (Answer page)
      else (if length answer == r.to - r.from then Ended None else Ended (Some Lost))

  -- The parts of the pages that a batch gave go behind the answer so far, or there is no memory for them, or a page has too few bytes.
  abbrev pub SortsAnswer : Range → ℕ → List (ℕ × List ℕ) → List ℕ → Stage A → List ℕ → Type 0
  SortsAnswer r page given before next after =
      ((after ≡ before ++ flat_map (λ e. part_of r e.0 e.1) given) × (next ≡ after_batch r page after))
      ⊎ ((next ≡ Ended (Some NoMemory))
      ⊎ ((list_all (λ e. has_part r e.0 (length e.1)) given ≡ false) × (next ≡ Ended (Some Lost))))
