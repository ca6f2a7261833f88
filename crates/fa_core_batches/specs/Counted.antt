-- How many pages of a batch stand in some way, which each list of a batch knows.
use Rattle.std.specs.Option.{option_map_or}
use Rattle.std.specs.Prelude.{◌≡◌, ℕ, ◌+◌, ◌-◌, ◌==◌, ◌≤◌, Bool, false, if◌then◌else◌, List, Option, Some, cond, count_by, not}
use Rattle.std.specs.Prelude.{option_map, vec_capacity}
use Rattle.fa_core_batches.specs.Pages.{Lists, Pages, is_answered, is_torn, list_at, numbers_of, page_at}
use Rattle.fa_core_batches.specs.declared.page.BatchList.{BatchList}
use Rattle.fa_core_batches.specs.declared.page.PageState.{PageState}

-- whether a page that stands so has no answer
abbrev pub is_open : PageState → Bool
is_open state = not (is_answered state)

-- whether there is a page, and it stands in some way
abbrev pub stands : (PageState → Bool) → Option PageState → Bool
stands test state = option_map_or test state false

-- how many of these pages stand in some way
abbrev pub count_in : (PageState → Bool) → (ℕ → Option PageState) → List ℕ → ℕ
count_in test state pages = count_by (λ page. stands test (state page)) pages

abbrev pub one : Bool → ℕ
one b = cond b 1 0

-- a count, once one of what is counted stands otherwise
abbrev pub moved : ℕ → Bool → Bool → ℕ
moved count was is = count - one was + one is

module _ {A : Type 0} where
  abbrev pub state_at : Pages A → ℕ → ℕ → Option PageState
  state_at pages batch page = option_map (λ p. p.state) (page_at pages batch page)

  pub record IsCounted (state : ℕ → Option PageState) (list : BatchList A) : Type 0 where
    pub torn : list.torn ≡ count_in is_torn state (numbers_of list)
    pub unanswered : list.unanswered ≡ count_in is_open state (numbers_of list)

  -- each list knows how many of its pages are torn, and how many have no answer
  abbrev pub AreCounted : Lists A → Pages A → Type 0
  AreCounted lists pages = (batch : ℕ) (list : BatchList A) → list_at lists batch ≡ Some list → IsCounted (state_at pages batch) list

  -- a list of which one page that stood so stands otherwise
  abbrev pub changed : Option PageState → PageState → BatchList A → BatchList A
  changed was is list = record {
    pages = list.pages;
    answers = list.answers;
    room = list.room;
    torn = moved list.torn (stands is_torn was) (is_torn is);
    unanswered = moved list.unanswered (stands is_open was) (is_open is);
  }

  -- the same of one batch's list alone
  abbrev pub changed_at : ℕ → Option PageState → PageState → ℕ → BatchList A → BatchList A
  changed_at k was is batch list = if batch == k then changed was is list else list

  -- neither of the list's counts falls below none or rises above all
  abbrev pub CanChange : Option PageState → PageState → BatchList A → Type 0
  CanChange was is list = (one (stands is_torn was) ≤ list.torn) × (one (stands is_open was) ≤ list.unanswered)
      × (moved list.torn (stands is_torn was) (is_torn is) ≤ vec_capacity list.pages)
      × (moved list.unanswered (stands is_open was) (is_open is) ≤ vec_capacity list.pages)

  -- a list whose pages were counted anew
  abbrev pub counted_anew : Pages A → ℕ → BatchList A → BatchList A
  counted_anew pages batch list = record {
    pages = list.pages;
    answers = list.answers;
    room = list.room;
    torn = count_in is_torn (state_at pages batch) (numbers_of list);
    unanswered = count_in is_open (state_at pages batch) (numbers_of list);
  }
