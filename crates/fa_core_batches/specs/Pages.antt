-- What the tables of batches and their pages stand for.
use Rattle.std.specs.FinMap.{FinMap, empty, from_entries, get}
use Rattle.std.specs.Map.{lookup}
use Rattle.std.specs.Ordering.{nat_cmp}
use Rattle.std.specs.Prelude.{ℕ, ◌-◌, ◌==◌, ◌&&◌, Bool, true, false, if◌then◌else◌, List, [], Option, Some, None, map, filter_map}
use Rattle.std.specs.Prelude.{option_map, option_and_then, length, unwrap_or}
use Rattle.std.specs.declared.vec.Vec.{Vec}
use Rattle.fa_core_batches.specs.declared.page.BatchList.{BatchList}
use Rattle.fa_core_batches.specs.declared.page.BatchPage.{BatchPage}
use Rattle.fa_core_batches.specs.declared.page.PageState.{PageState}
use Rattle.fa_core_batches.specs.declared.page.PageState.TheVariants.{Answered, Booked, InFlight, Torn}
use Rattle.fa_machine.specs.State.{OpenBatch}
use Rattle.fa_types.specs.declared.numbers.Page.{Page}

abbrev pub is_answered : PageState → Bool
is_answered Answered = true
is_answered state = false

abbrev pub is_torn : PageState → Bool
is_torn Torn = true
is_torn state = false

-- how a page stands once a die is out: a read that was booked or in flight there is lost
abbrev pub without_die : ℕ → PageState → PageState
without_die die (Booked d round) = if d.0 == die then Torn else Booked d round
without_die die (InFlight d) = if d.0 == die then Torn else InFlight d
without_die die state = state

abbrev pub answer_in : PageState → List ℕ → Option (List ℕ)
answer_in Answered bytes = Some bytes
answer_in state bytes = None

-- these pages' answers, as a finite map
abbrev pub answers_of : (ℕ → Option (List ℕ)) → List ℕ → FinMap nat_cmp (List ℕ)
answers_of answer pages = from_entries (filter_map (λ page. option_map (λ bytes. (page, bytes)) (answer page)) pages)

-- the open batch of this number, and an empty one where there is none
abbrev pub opened : FinMap nat_cmp OpenBatch → ℕ → OpenBatch
opened batches batch = unwrap_or (get batches batch) (record { pages = []; answers = empty })

abbrev pub Pages : Type 0 → Type 0
Pages A = List ((ℕ × ℕ) × BatchPage A)

abbrev pub Lists : Type 0 → Type 0
Lists A = List (ℕ × BatchList A)

module _ {A : Type 0} where
  -- what a table of pages has of a page of a batch
  abbrev pub page_at : Pages A → ℕ → ℕ → Option (BatchPage A)
  page_at entries batch page = lookup (λ place. batch == place.0 && page == place.1) entries

  abbrev pub answer_at : Pages A → ℕ → ℕ → Option (List ℕ)
  answer_at entries batch page = option_and_then (λ p. answer_in p.state p.buffer.items) (page_at entries batch page)

  abbrev pub numbers_of : BatchList A → List ℕ
  numbers_of list = map (λ (page : Page). page.0) list.pages.items

  abbrev pub batch_in : Pages A → ℕ → BatchList A → OpenBatch
  batch_in entries batch list = record {
    pages = numbers_of list;
    answers = answers_of (answer_at entries batch) (numbers_of list);
  }

  -- the answers of some pages, in their order
  abbrev pub answers_in : Pages A → ℕ → List ℕ → List (ℕ × List ℕ)
  answers_in entries batch pages = filter_map (λ page. option_map (λ bytes. (page, bytes)) (answer_at entries batch page)) pages

  -- a page that stands otherwise, one that was answered, and one as it stands once a die is out
  abbrev pub with_state : PageState → BatchPage A → BatchPage A
  with_state state page = record { state = state; buffer = page.buffer }

  abbrev pub with_answer : Vec ℕ A → BatchPage A → BatchPage A
  with_answer bytes page = record { state = Answered; buffer = bytes }

  abbrev pub with_die_out : ℕ → BatchPage A → BatchPage A
  with_die_out die page = record { state = without_die die page.state; buffer = page.buffer }

  -- what a table of lists has of a batch
  abbrev pub list_at : Lists A → ℕ → Option (BatchList A)
  list_at entries batch = lookup (λ number. batch == number) entries

  -- for how many more pages a list has room
  abbrev pub room_in : BatchList A → ℕ
  room_in list = list.room - length list.pages.items
