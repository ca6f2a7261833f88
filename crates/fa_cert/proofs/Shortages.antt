-- A plan has no fewer rounds than a shortage leaves: its pages would need more places than there are.
use Rattle.std.proofs.Common.{◌≡◌, ℕ, zero, suc, ◌+◌, ◌-◌, ◌<◌, ◌≤◌, ◌⊎◌, inl, inr, Bool, true, false, not, cond, ◌&&◌, nat_eq, nat_lt, nat_le, List, [], ◌∷◌, length, IsTrue, refl, sym, ap, ◌∙◌, subst, arith, eq-eqb, eqb-true}
use Rattle.std.specs.List.{sum_by, count_by, list_any, AllByRecursion}
use Rattle.std.proofs.lemmas.Bool.{and_parts, and_from, or_cases, or_left, or_right, ne_eqb, cases_lt, cases_eq, lt-ltb, le-leb, ltb-true, leb-true, false_from_ne_true}
use Rattle.std.proofs.lemmas.List.Elements.{recursion_from_All}
use Rattle.std.proofs.lemmas.List.Sums.{sum_by-le-sum_by}
use Rattle.fa_types.specs.Open.{IsOpen, rounds_that, open_among}
use Rattle.fa_types.specs.declared.numbers.Page.{Page}
use Rattle.fa_batch_terms.specs.declared.place.Place.{Place}
use Rattle.fa_batch_terms.specs.Batch.{Entry, holds, times_named}
use Rattle.fa_batch_terms.specs.Plan.{IsPlan, AreApart, times_placed, pages_at, rounds_of}
use Rattle.fa_batch_terms.specs.Certificate.{IsShortage, AreTheHolders, holds_any, open_places, ShowsNoFewer}
use Rattle.fa_batch_terms.proofs.Counting.{count_by-cons, count_by-le-two, count_by-le-on, count_by-none, count_by-two-le, AllByRecursion-weaker, AllByRecursion-both, AllByRecursion-of, sum_by-add, count-from-any}

-- whether a place is at a die within so many rounds from a first one
abbrev is_within : ℕ → ℕ → ℕ → Place → Bool
is_within die first n x = nat_eq x.die.0 die && (nat_le first x.round.0 && nat_lt x.round.0 (first + n))

-- a place in a window is in its first round or in the rest
within_cases : (die first n : ℕ) (x : Place) → is_within die first (suc n) x ≡ true
    → ((nat_eq x.die.0 die && nat_eq x.round.0 first) ≡ true) ⊎ (is_within die (suc first) n x ≡ true)
within_cases die first n x h =
    let parts = and_parts (nat_eq x.die.0 die) (nat_le first x.round.0 && nat_lt x.round.0 (first + suc n)) h in
    let range = and_parts (nat_le first x.round.0) (nat_lt x.round.0 (first + suc n)) parts.1 in
    let low = leb-true first x.round.0 range.0 in
    let high = ltb-true x.round.0 (first + suc n) range.1 in
    elim (cases_eq x.round.0 first) [
      | inl e ↦ inl (and_from (nat_eq x.die.0 die) (nat_eq x.round.0 first) parts.0 (eq-eqb x.round.0 first e))
      | inr ne ↦ inr (and_from (nat_eq x.die.0 die) (nat_le (suc first) x.round.0 && nat_lt x.round.0 (suc first + n)) parts.0
          (and_from (nat_le (suc first) x.round.0) (nat_lt x.round.0 (suc first + n))
          (le-leb (suc first) x.round.0 (omega arith)) (lt-ltb x.round.0 (suc first + n) (omega arith))))
    ]

-- no place is within no rounds
within_none : (die first : ℕ) (x : Place) → is_within die first 0 x ≡ false
within_none die first x = false_from_ne_true (is_within die first 0 x) (λ h.
    let parts = and_parts (nat_eq x.die.0 die) (nat_le first x.round.0 && nat_lt x.round.0 (first + 0)) h in
    let range = and_parts (nat_le first x.round.0) (nat_lt x.round.0 (first + 0)) parts.1 in
    let low = leb-true first x.round.0 range.0 in
    let high = ltb-true x.round.0 (first + 0) range.1 in
    let no : ⊥ = omega arith in no)

module _ (current : ℕ) (closed : ℕ → ℕ → Bool) (places : List Place) (opens : AllByRecursion (λ x. IsOpen current closed x.die.0 x.round.0) places) (apart : AreApart places) where
  -- a round of a die has at most one page, and none where it is closed
  one_a_round : (die round : ℕ) → pages_at places die round ≤ cond (not (closed die round)) 1 0
  one_a_round die round =
      let at : (b : Bool) → closed die round ≡ b → pages_at places die round ≤ cond (not b) 1 0 =
      λ b. elim b as (λ v. closed die round ≡ v → pages_at places die round ≤ cond (not v) 1 0) [
        | false ↦ λ _. apart die round
        | true ↦ λ shut. (let none = count_by-none (λ x. nat_eq x.die.0 die && nat_eq x.round.0 round) places
            (AllByRecursion-weaker (λ x. IsOpen current closed x.die.0 x.round.0) (λ x. (nat_eq x.die.0 die && nat_eq x.round.0 round) ≡ false)
            (λ x o. false_from_ne_true (nat_eq x.die.0 die && nat_eq x.round.0 round) (λ h.
            let parts = and_parts (nat_eq x.die.0 die) (nat_eq x.round.0 round) h in
            let d = eqb-true x.die.0 die parts.0 in
            let r = eqb-true x.round.0 round parts.1 in
            let same : closed x.die.0 x.round.0 ≡ closed die round = ap (λ v. closed v x.round.0) d ∙ ap (λ v. closed die v) r in
            let o1 : closed x.die.0 x.round.0 ≡ false = o.1 in
            let no : ⊥ = cc in no)) places opens) in omega (arith, none))
      ] in
      at (closed die round) refl

  -- so a die has no more pages in some rounds than it has open ones
  die_has_few : (die n first : ℕ) → count_by (is_within die first n) places ≤ rounds_that (λ round. not (closed die round)) first n
  die_has_few die zero first =
      let none = count_by-none (is_within die first 0) places (AllByRecursion-weaker (λ x. IsOpen current closed x.die.0 x.round.0) (λ x. is_within die first 0 x ≡ false) (λ x _. within_none die first x) places opens) in
      omega (arith, none)
  die_has_few die (suc n) first =
      let split = count_by-le-two (is_within die first (suc n)) (λ x. nat_eq x.die.0 die && nat_eq x.round.0 first) (is_within die (suc first) n) places
      (AllByRecursion-weaker (λ x. IsOpen current closed x.die.0 x.round.0) _ (λ x _. within_cases die first n x) places opens) in
      let here = one_a_round die first in
      let rest = die_has_few die n (suc first) in
      omega (arith, split, here, rest)

-- the pages that pass a test, each read at one of some dies, are no more than are read at each of these
at_dies : (q : Place → Bool) (w : ℕ → Place → Bool) (dies : List ℕ) (places : List Place)
    → AllByRecursion (λ x. q x ≡ true → 1 ≤ count_by (λ d. w d x) dies) places
    → count_by q places ≤ sum_by (λ d. count_by (w d) places) dies
at_dies q w dies [] h = omega arith
at_dies q w dies (x ∷ places) h =
    let e = count_by-cons q x places in
    let rest = at_dies q w dies places h.1 in
    let parts = sum_by-add (λ d. cond (w d x) 1 0) (λ d. count_by (w d) places) dies in
    let le = sum_by-le-sum_by (λ d. cond (w d x) 1 0 + count_by (w d) places) (λ d. count_by (w d) (x ∷ places)) dies
    (λ d. let one = count_by-cons (w d) x places in omega (arith, one)) in
    let here : (b : Bool) → q x ≡ b → cond b 1 0 ≤ count_by (λ d. w d x) dies =
    λ b. elim b as (λ v. q x ≡ v → cond v 1 0 ≤ count_by (λ d. w d x) dies) [ true ↦ λ yes. h.0 yes | false ↦ λ _. omega arith ] in
    let first = here (q x) refl in
    omega (arith, e, rest, parts, le, first)

-- a page of the batch has a place
named_is_placed : (places : List Place) (batch : List Entry) (page : ℕ) → AllByRecursion (λ e. 1 ≤ times_placed places e.page.0) batch
    → 1 ≤ times_named batch page → 1 ≤ times_placed places page
named_is_placed places [] page each named = absurd (omega arith)
named_is_placed places (e ∷ batch) page each named =
    let split = count_by-cons (λ v. nat_eq v.page.0 page) e batch in
    elim (cases_eq e.page.0 page) [
      | inl same ↦ subst (λ n. 1 ≤ times_placed places n) same each.0
      | inr other ↦ named_is_placed places batch page each.1
          (let no = ne_eqb e.page.0 page other in
          let k : times_named (e ∷ batch) page ≡ 0 + times_named batch page = split ∙ ap (λ b. cond b 1 0 + times_named batch page) no in omega arith)
    ]

-- pages that are named once, and have places, are no more than the places of such pages
pages_have_places : (places : List Place) (pages : List Page) → ((page : ℕ) → count_by (λ p. nat_eq p.0 page) pages ≤ 1)
    → AllByRecursion (λ p. 1 ≤ times_placed places p.0) pages
    → length pages ≤ count_by (λ x. list_any (λ p. nat_eq p.0 x.page.0) pages) places
pages_have_places places [] once each = omega arith
pages_have_places places (p ∷ pages) once each =
    let rest = pages_have_places places pages (λ page. let split = count_by-cons (λ v. nat_eq v.0 page) p pages in let all = once page in omega (arith, split, all)) each.1 in
    let both = count_by-two-le (λ (x : Place). nat_eq x.page.0 p.0) (λ x. list_any (λ v. nat_eq v.0 x.page.0) pages) (λ x. list_any (λ v. nat_eq v.0 x.page.0) (p ∷ pages))
    (λ x e. or_left (nat_eq p.0 x.page.0) (list_any (λ v. nat_eq v.0 x.page.0) pages) (eq-eqb p.0 x.page.0 (sym (eqb-true x.page.0 p.0 e))))
    (λ x e. or_right (nat_eq p.0 x.page.0) (list_any (λ v. nat_eq v.0 x.page.0) pages) e)
    (λ x e f.
    let same = eq-eqb p.0 x.page.0 (sym (eqb-true x.page.0 p.0 e)) in
    let split = count_by-cons (λ v. nat_eq v.0 x.page.0) p pages in
    let one : count_by (λ v. nat_eq v.0 x.page.0) (p ∷ pages) ≡ 1 + count_by (λ v. nat_eq v.0 x.page.0) pages = split ∙ ap (λ b. cond b 1 0 + count_by (λ v. nat_eq v.0 x.page.0) pages) same in
    let more = count-from-any (λ v. nat_eq v.0 x.page.0) pages f in
    let all = once x.page.0 in
    let no : ⊥ = omega (arith, one, more, all) in no)
    places in
    let placed : 1 ≤ times_placed places p.0 = each.0 in
    omega (arith, rest, both, placed)

-- a die that holds one of the pages holds any of them
holds_one : (batch : List Entry) (page die : ℕ) → holds batch page die ≡ true → (pages : List Page) → list_any (λ p. nat_eq p.0 page) pages ≡ true → holds_any batch pages die ≡ true
holds_one batch page die held [] there = cc
holds_one batch page die held (p ∷ pages) there =
    elim (or_cases (nat_eq p.0 page) (list_any (λ v. nat_eq v.0 page) pages) there) [
      | inl e ↦ or_left (holds batch p.0 die) (holds_any batch pages die) (ap (λ n. holds batch n die) (eqb-true p.0 page e) ∙ held)
      | inr e ↦ or_right (holds batch p.0 die) (holds_any batch pages die) (holds_one batch page die held pages e)
    ]

-- each place of a plan lies in its rounds
lies_within : (current n : ℕ) (places : List Place) → rounds_of current places ≤ n → AllByRecursion (λ x. x.round.0 + 1 - current ≤ n) places
lies_within current n [] h = tt
lies_within current n (x ∷ places) h = (omega arith, lies_within current n places (omega arith))

-- a plan has more rounds than those for which there is a shortage
too_few : (batch : List Entry) (current : ℕ) (closed : ℕ → ℕ → Bool) (n : ℕ) (places : List Place) (pages : List Page)
    → IsShortage batch current closed n pages → IsPlan batch current closed places → rounds_of current places ≤ n → ⊥
too_few batch current closed n places pages shortage plan short =
    let dies : List ℕ = shortage.many.0 in
    let whose : AreTheHolders batch pages dies = shortage.many.1 in
    let opens = recursion_from_All (λ x. IsOpen current closed x.die.0 x.round.0) places plan.opens in
    let held = recursion_from_All (λ x. IsTrue (holds batch x.page.0 x.die.0)) places plan.held in
    let lies = lies_within current n places short in
    let placed = AllByRecursion-weaker (λ p. 1 ≤ times_named batch p.0) (λ p. 1 ≤ times_placed places p.0)
    (λ p named. named_is_placed places batch p.0 (recursion_from_All (λ e. 1 ≤ times_placed places e.page.0) batch plan.each) named)
    pages (recursion_from_All (λ p. 1 ≤ times_named batch p.0) pages shortage.named.known) in
    let all = pages_have_places places pages shortage.named.once placed in
    let at = at_dies (λ x. list_any (λ p. nat_eq p.0 x.page.0) pages) (λ d. is_within d current n) dies places
    (AllByRecursion-weaker
    (λ x. (IsOpen current closed x.die.0 x.round.0 × IsTrue (holds batch x.page.0 x.die.0)) × (x.round.0 + 1 - current ≤ n))
    (λ x. list_any (λ p. nat_eq p.0 x.page.0) pages ≡ true → 1 ≤ count_by (λ d. is_within d current n x) dies)
    (λ x facts there.
    let from : current ≤ x.round.0 = facts.0.0.0 in
    let upto : x.round.0 + 1 - current ≤ n = facts.1 in
    let any = holds_one batch x.page.0 x.die.0 facts.0.1 pages there in
    let one : count_by (λ d. nat_eq d x.die.0) dies ≡ 1 = whose x.die.0 ∙ ap (λ b. cond b 1 0) any in
    let window : (nat_le current x.round.0 && nat_lt x.round.0 (current + n)) ≡ true =
    and_from (nat_le current x.round.0) (nat_lt x.round.0 (current + n)) (le-leb current x.round.0 from) (lt-ltb x.round.0 (current + n) (omega arith)) in
    let le = count_by-le-on (λ d. nat_eq d x.die.0) (λ d. is_within d current n x) dies
    (AllByRecursion-of (λ d. nat_eq d x.die.0 ≡ true → is_within d current n x ≡ true)
    (λ d e. and_from (nat_eq x.die.0 d) (nat_le current x.round.0 && nat_lt x.round.0 (current + n)) (eq-eqb x.die.0 d (sym (eqb-true d x.die.0 e))) window) dies) in
    omega (arith, one, le))
    places
    (AllByRecursion-both (λ x. IsOpen current closed x.die.0 x.round.0 × IsTrue (holds batch x.page.0 x.die.0)) (λ x. x.round.0 + 1 - current ≤ n) places
    (AllByRecursion-both (λ x. IsOpen current closed x.die.0 x.round.0) (λ x. IsTrue (holds batch x.page.0 x.die.0)) places opens held) lies)) in
    let most = sum_by-le-sum_by (λ d. count_by (is_within d current n) places) (λ d. open_among current closed d n) dies
    (λ d. die_has_few current closed places opens plan.apart d n current) in
    let less : open_places current closed dies n < length pages = shortage.many.2 in
    omega (arith, all, at, most, less)

-- what shows that no plan has fewer rounds shows it
pub no_fewer : (batch : List Entry) (current : ℕ) (closed : ℕ → ℕ → Bool) (rounds : ℕ) (pages : List Page) → ShowsNoFewer batch current closed rounds pages
    → (places : List Place) → IsPlan batch current closed places → rounds ≤ rounds_of current places
no_fewer batch current closed zero pages shows places plan = omega arith
no_fewer batch current closed (suc n) pages shows places plan =
    elim (cases_lt n (rounds_of current places)) [
      | inl more ↦ omega arith
      | inr short ↦ absurd (too_few batch current closed n places pages shows plan short)
    ]
