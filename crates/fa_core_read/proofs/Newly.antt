-- How the pages of a batch stand that was just opened.
use Rattle.fa_core_batches.specs.declared.page.PageState.{PageState}
use Rattle.fa_core_batches.specs.declared.page.PageState.TheVariants.{Answered, Booked, InFlight, Torn}
use Rattle.fa_machine.proofs.Lists.{among-filter, among-filter-intro, any_some}
use Rattle.fa_machine.specs.Among.{Among}
use Rattle.fa_machine.specs.Maps.{is_one_of}
use Rattle.fa_machine.specs.Reading.{has_data, to_read}
use Rattle.fa_machine.specs.State.{MapState}
use Rattle.fa_core_read_pages.specs.Left.{is_left, place_in, places_among}
use Rattle.fa_core_read.specs.Opened.{opened_state}
use Rattle.std.proofs.Common.{Bool, List, None, Option, Some, [], ap, eq-eqb, false, inl, inr, refl, sym, true, ℕ, ◌∙◌, ◌∷◌, ◌≡◌}
use Rattle.std.proofs.lemmas.Bool.{eqb-true, false≢true, or_cases}
use Rattle.std.specs.FinMap.{get}
use Rattle.std.specs.List.{cons_option}
use Rattle.std.specs.Option.{option_map_or}
use Rattle.std.specs.Prelude.{if◌then◌else◌, is_some, ◌==◌}

pub one_among : (pages : List ℕ) (page : ℕ) → is_one_of pages page ≡ true → Among page pages
one_among [] page is = absurd (false≢true is)
one_among (p ∷ pages) page is =
    elim (or_cases (p == page) (is_one_of pages page) is) [
      | inl here ↦ inl (eqb-true p page here)
      | inr others ↦ inr (one_among pages page others)
    ]

pub among_one : (pages : List ℕ) (page : ℕ) → Among page pages → is_one_of pages page ≡ true
among_one pages page among = any_some (λ x. x == page) pages page among (eq-eqb page page refl)

-- whether a page is one of the batch's, and whether it has bytes
abbrev stands : Bool → Bool → Option PageState
stands one bytes = if one then Some (if bytes then Torn else Answered) else None

abbrev is_placed : PageState → Bool
is_placed (Booked die round) = true
is_placed (InFlight die) = true
is_placed state = false

abbrev pub is_placed_in : Option PageState → Bool
is_placed_in state = option_map_or is_placed state false

no_place : (one bytes : Bool) (p : ℕ) → place_in p (stands one bytes) ≡ None
no_place true true p = refl
no_place true false p = refl
no_place false bytes p = refl

not_placed : (one bytes : Bool) → is_placed_in (stands one bytes) ≡ false
not_placed true true = refl
not_placed true false = refl
not_placed false bytes = refl

there : (one bytes : Bool) → one ≡ is_some (stands one bytes)
there true bytes = refl
there false bytes = refl

both : (one bytes : Bool) → is_left (stands one bytes) ≡ true → (one ≡ true) × (bytes ≡ true)
both true true is = (refl, refl)
both true false is = absurd (false≢true is)
both false bytes is = absurd (false≢true is)

module _ (m : MapState) (pages : List ℕ) (state : ℕ → Option PageState) (states : (p : ℕ) → state p ≡ opened_state m pages p) where
  pub none_placed : (ps : List ℕ) → places_among state ps ≡ []
  none_placed [] = refl
  none_placed (p ∷ ps) =
      let none : place_in p (state p) ≡ None = ap (place_in p) (states p) ∙ no_place (is_one_of pages p) (has_data (get m.versions p)) p in
      λ i. cons_option (none i) (none_placed ps i)

  -- no read of its pages is booked or in flight
  pub none_in_place : (p : ℕ) → is_placed_in (state p) ≡ false
  none_in_place p = ap is_placed_in (states p) ∙ not_placed (is_one_of pages p) (has_data (get m.versions p))

  pub all_there : (p : ℕ) → is_one_of pages p ≡ is_some (state p)
  all_there p = there (is_one_of pages p) (has_data (get m.versions p)) ∙ sym (ap is_some (states p))

  -- its pages that are left are those that have bytes on their dies
  pub left_read : (p : ℕ) → is_left (state p) ≡ true → Among p (to_read m pages)
  left_read p is =
      let parts = both (is_one_of pages p) (has_data (get m.versions p)) (sym (ap is_left (states p)) ∙ is) in
      among-filter-intro (λ p. has_data (get m.versions p)) p pages (one_among pages p parts.0) parts.1

  pub read_left : (p : ℕ) → Among p (to_read m pages) → is_left (state p) ≡ true
  read_left p among =
      let found = among-filter (λ p. has_data (get m.versions p)) p pages among in
      ap is_left (states p) ∙ (λ i. is_left (stands (among_one pages p found.0 i) (found.1 i)))
