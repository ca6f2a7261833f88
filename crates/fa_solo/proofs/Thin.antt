-- The thin page that is found is one of the array, and was written.
use Rattle.fa_machine.proofs.Lists.{found_passes}
use Rattle.fa_machine.specs.Copies.{holders, holds_last, holds_page, is_current}
use Rattle.fa_machine.specs.Looks.{next_thin}
use Rattle.fa_machine.specs.Maps.{below}
use Rattle.fa_machine.specs.Placement.{copies_asked, copy_place, is_thin}
use Rattle.fa_machine.specs.State.{Core, MapState, dies_of, is_live, slots_of, used_at}
use Rattle.fa_machine.specs.Step.{is_distinct, is_page}
use Rattle.fa_machine.specs.declared.places.Version.{Version}
use Rattle.fa_map_calls.proofs.Ranges.{find_below}
use Rattle.fa_types.specs.declared.numbers.Die.{Die}
use Rattle.fa_types.specs.declared.numbers.Page.{Page}
use Rattle.fa_types.specs.declared.numbers.Seq.{Seq}
use Rattle.std.proofs.Common.{Bool, List, Option, Some, [], ap, arith, cond, false, is_some, length, option_map, refl, subst, sym, true, ℕ}
use Rattle.std.proofs.Common.{◌∙◌, ◌≡◌, ◌∷◌, ◌<◌}
use Rattle.std.proofs.lemmas.Bool.{and_parts, false≢true, lt-ltb, ltb-true}
use Rattle.std.proofs.lemmas.Option.{none-some, option_and_then_some, some_pair_parts}
use Rattle.std.specs.FinMap.{get}
use Rattle.std.specs.Prelude.{None, filter, find, nat_le, nat_lt, ◌&&◌}
use Rattle.std.specs.List.{list_all}

same_page : (x page die : ℕ) (place : Option ℕ) → option_map {T = ℕ} {U = ℕ × ℕ} (λ d. (x, d)) place ≡ Some (page, die) → x ≡ page
same_page x page die (Some d) is = (some_pair_parts x page d die is).0
same_page x page die None is = absurd (none-some (page, die) is)

-- it is thin, and one of the array
record Found (copies : ℕ) (m : MapState) (page : ℕ) : Type 0 where
  pub thin : is_thin copies m page ≡ true
  pub low : page < m.geometry.pages

thin_found : (copies : ℕ) (m : MapState) (page die : ℕ) → next_thin copies m ≡ Some (page, die) → Found copies m page
thin_found copies m page die is =
    let may : ℕ → Bool = λ p. is_thin copies m p && is_some (copy_place copies m p) in
    option_and_then_some (λ (p : ℕ). option_map {T = ℕ} {U = ℕ × ℕ} (λ d. (p, d)) (copy_place copies m p)) (find may (below m.geometry.pages))
    (page, die) is
    (λ x found place.
    let same = same_page x page die (copy_place copies m x) place in record {
      thin = (and_parts (is_thin copies m page) (is_some (copy_place copies m page))
          (subst (λ (p : ℕ). may p ≡ true) same (found_passes may (below m.geometry.pages) x found).0)).0;
      low = let x_low = find_below may 0 m.geometry.pages x found in omega (arith, same, x_low);
    })

-- where none passes none is found
none_passes : {X : Type 0} (p : X → Bool) (xs : List X) → ((x : X) → p x ≡ false) → find p xs ≡ None
none_passes p [] each = refl
none_passes p (x ∷ xs) each = ap (λ b. cond b (Some x) (find p xs)) (each x) ∙ none_passes p xs each

none_stay : {X : Type 0} (p : X → Bool) (xs : List X) → ((x : X) → p x ≡ false) → filter p xs ≡ []
none_stay p [] each = refl
none_stay p (x ∷ xs) each = ap (λ b. cond b (x ∷ filter p xs) (filter p xs)) (each x) ∙ none_stay p xs each

never : (b : Bool) → (b && false) ≡ false
never true = refl
never false = refl

-- a page that was never written has no copy
unwritten : (m : MapState) (page : ℕ) → get m.versions page ≡ None → holders m page ≡ []
unwritten m page none =
    none_stay (holds_page m page) (dies_of m) (λ die.
    ap is_some (none_passes (is_current m page die) (slots_of m) (λ slot.
    ap (λ (v : Option Version). is_live m die && holds_last page v (used_at m die slot)) none ∙ never (is_live m die))))

thin_written : (copies : ℕ) (m : MapState) (page : ℕ) → is_thin copies m page ≡ true → get m.versions page ≡ None → ⊥
thin_written copies m page thin none =
    let some = ltb-true 0 (length (holders m page)) (and_parts (nat_lt 0 (length (holders m page)))
    (nat_lt (length (holders m page)) (copies_asked copies m)) thin).0 in
    let zero = ap length (unwritten m page none) in omega (arith, some, zero)

module _ (k core : Core) (found : Option (Page × Die)) (same : k ≡ core)
    (is : option_map {T = Page × Die} {U = ℕ × ℕ} (λ f. (f.0.0, f.1.0)) found ≡ next_thin k.copies k.page_map) where
  told : (page : Page) (die : Die) → found ≡ Some (page, die) → Found core.copies core.page_map page.0
  told page die it =
      thin_found core.copies core.page_map page.0 die.0
      (ap (λ (c : Core). next_thin c.copies c.page_map) (sym same) ∙ sym is
      ∙ ap (option_map {T = Page × Die} {U = ℕ × ℕ} (λ f. (f.0.0, f.1.0))) it)

  pub thin_told : (page : Page) (die : Die) → found ≡ Some (page, die) → is_thin core.copies core.page_map page.0 ≡ true
  thin_told page die it = (told page die it).thin

  pub page_told : (page : Page) (die : Die) → found ≡ Some (page, die) → is_page core page.0 ≡ true
  page_told page die it = lt-ltb page.0 core.page_map.geometry.pages (told page die it).low

  -- its number is known
  pub seq_told : (page : Page) (die : Die) → found ≡ Some (page, die) → (seq : Option Seq)
      → seq ≡ option_map (λ version. version.seq) (get core.page_map.versions page.0) → seq ≡ None → ⊥
  seq_told page die it seq of none = by (get core.page_map.versions page.0) refl (sym of ∙ none)
    where
      by : (v : Option Version) → get core.page_map.versions page.0 ≡ v → option_map (λ version. version.seq) v ≡ None → ⊥
      by None e gone = thin_written core.copies core.page_map page.0 (told page die it).thin e
      by (Some version) e gone = none-some version.seq (sym gone)

  pub none_found : found ≡ None → next_thin core.copies core.page_map ≡ None
  none_found none =
      ap (λ (c : Core). next_thin c.copies c.page_map) (sym same) ∙ sym is
      ∙ ap (option_map {T = Page × Die} {U = ℕ × ℕ} (λ f. (f.0.0, f.1.0))) none

-- one page of the array may be read
pub may_admit : (core : Core) (page : ℕ) → is_page core page ≡ true
    → (is_distinct (page ∷ []) && list_all (is_page core) (page ∷ []) && nat_le 1 1024) ≡ false → ⊥
may_admit core page is not = false≢true (sym not ∙ ap (λ b. b && true && true) is)
