-- What is always true of the batches: their numbers are below the next one's, each page of a batch has an entry and nothing else
-- has one, a batch names no page twice, each buffer is as long as a page, and each batch has room for its answers.
use Rattle.std.specs.Option.{option_map_or}
use Rattle.std.specs.Prelude.{◌≡◌, ℕ, ◌<◌, ◌≤◌, Bool, false, [], Option, None, Some, is_some, length, true, vec_capacity}
use Rattle.std.specs.Prelude.{◌++◌, ◌+◌, ◌∷◌}
use Rattle.fa_core_batches.specs.Counted.{is_open, one}
use Rattle.fa_core_batches.specs.Pages.{Lists, Pages, is_torn, list_at, numbers_of, page_at}
use Rattle.fa_core_batches.specs.declared.page.BatchList.{BatchList}
use Rattle.fa_core_batches.specs.declared.page.BatchPage.{BatchPage}
use Rattle.fa_core_batches.specs.declared.page.PageState.{PageState}
use Rattle.fa_machine.specs.Maps.{is_one_of}
use Rattle.fa_machine.specs.Step.{is_distinct}
use Rattle.fa_types.specs.declared.numbers.Page.{Page}

module _ {A : Type 0} where
  -- whether a page is one of a batch
  abbrev pub has_page : Lists A → ℕ → ℕ → Bool
  has_page lists batch page = option_map_or (λ list. is_one_of (numbers_of list) page) (list_at lists batch) false

  pub record IsList (list : BatchList A) : Type 0 where
    pub distinct : is_distinct (numbers_of list) ≡ true
    pub fits : length list.pages.items ≤ list.room
    pub wide : list.room ≤ vec_capacity list.pages
    pub room : list.room ≤ vec_capacity list.answers
    pub none : list.answers.items ≡ []

  -- a list and what it is with one page more, which stands so; no list is none still
  abbrev pub IsOneLonger : Page → PageState → Option (BatchList A) → Option (BatchList A) → Type 0
  IsOneLonger page state None new = new ≡ None
  IsOneLonger page state (Some old) new = (list : BatchList A) × (new ≡ Some list) × (list.pages.items ≡ old.pages.items ++ page ∷ [])
      × (vec_capacity list.pages ≡ vec_capacity old.pages) × (list.room ≡ old.room) × (list.answers ≡ old.answers)
      × (list.torn ≡ old.torn + one (is_torn state)) × (list.unanswered ≡ old.unanswered + one (is_open state))

  pub record IsWhole (page_bytes next : ℕ) (lists : Lists A) (pages : Pages A) : Type 0 where
    pub below : (batch : ℕ) → is_some (list_at lists batch) ≡ true → batch < next
    pub listed : (batch : ℕ) (list : BatchList A) → list_at lists batch ≡ Some list → IsList list
    pub agree : (batch page : ℕ) → is_some (page_at pages batch page) ≡ has_page lists batch page
    pub sized : (batch page : ℕ) (p : BatchPage A) → page_at pages batch page ≡ Some p → length p.buffer.items ≡ page_bytes
