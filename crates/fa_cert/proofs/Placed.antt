-- The places of a plan, gone through one after the other.
use Rattle.std.proofs.Common.{◌≡◌, ℕ, ◌+◌, ◌-◌, ◌<◌, ◌≤◌, inl, inr, Bool, true, false, cond, not, ◌&&◌, ◌||◌, IsTrue, ◌↔◌, Some, List, [], ◌∷◌, ◌++◌, length, take, set, get_or, nat_eq, ◌==◌, nat_cmp, max, refl, sym, ap, ◌∙◌, subst, arith, eq-eqb, eqb-true}
use Rattle.std.specs.List.{list_any, count_by, fold, All}
use Rattle.std.proofs.Common.{Ordering, Less, Equal, Greater}
use Rattle.std.specs.Ordering.{is_eq, ordering_then}
use Rattle.std.specs.BTreeMap.{is_at}
use Rattle.std.specs.BTreeSet.{BTreeSet, contains}
use Rattle.std.proofs.lemmas.Bool.{not-true, not-false, false_from_ne_true, cases_eq, cases_order, and_from, and_parts, ne_eqb, cond-true, cond-false}
use Rattle.std.proofs.lemmas.Bool.Decides.{nat_tests}
use Rattle.std.proofs.Math.Bool.{or-false, or-true}
use Rattle.std.proofs.lemmas.List.{take_more, get_or-take, get_or-set_same, get_or-set_other, length-take-le, get_or_default}
use Rattle.std.proofs.lemmas.List.Elements.{All-more, All-pop, All-weaker, recursion_from_All}
use Rattle.std.proofs.lemmas.List.Folds.{list_any_more}
use Rattle.fa_types.specs.declared.numbers.Page.{Page}
use Rattle.fa_batch_terms.specs.declared.place.Place.{Place}
use Rattle.fa_batch_terms.specs.Batch.{Entry, holds, times_named}
use Rattle.fa_batch_terms.specs.Certificate.{AreNamed}
use Rattle.fa_cert.specs.Marks.{AreMarks}
use Rattle.fa_batch_terms.specs.Plan.{ArePlaced, ArePlacedOnce, AreHeld, AreApart, rounds_of}
use Rattle.fa_batch_terms.proofs.Counting.{AllByRecursion-weaker, count_by-none, any-from-count, count-from-any, once-push, twice-push, once-whole}

cond-or : (b c : Bool) → cond b true c ≡ (c || b)
cond-or true true = refl
cond-or true false = refl
cond-or false true = refl
cond-or false false = refl

-- a key put into a set
met-more : (a b : Bool) (page key : ℕ) → b ≡ nat_eq key page → (cond (is_at (nat_cmp key) page) true a) ≡ (a || b)
met-more a b page key is =
    elim (cases_eq key page) [
      | inl same ↦
          (let at : is_at (nat_cmp key) page ≡ true = subst (λ n. is_at (nat_cmp key) n ≡ true) same (grind (arith, nat_tests)) in
          cond-true (is_at (nat_cmp key) page) true a at ∙ sym (ap (λ v. a || v) (is ∙ eq-eqb key page same) ∙ or-true a))
      | inr other ↦
          (let no : is_at (nat_cmp key) page ≡ false = grind (arith, nat_tests) in
          cond-false (is_at (nat_cmp key) page) true a no ∙ sym (ap (λ v. a || v) (is ∙ ne_eqb key page other) ∙ or-false a))
    ]

-- what stands for a place past the end
abbrev pub no_place : Place
no_place = record { page = record { 0 = 0 }; die = record { 0 = 0 }; round = record { 0 = 0 } }

-- the page of a place as its key
abbrev has_page : ℕ → Place → Bool
has_page page x = x.page.0 == page

-- The pages of the places so far, in a set, and whether each came once.
module _ (places : List Place) (i : ℕ) (d : Place) (below : i < length places) where
  pub pages_more : (set set' : BTreeSet ℕ) → ((page : ℕ) → contains nat_cmp set page ≡ list_any (λ x. x.page.0 == page) (take i places))
      → ((page : ℕ) → contains nat_cmp set' page ≡ cond (is_at (nat_cmp (get_or places i d).page.0) page) true (contains nat_cmp set page))
      → (page : ℕ) → contains nat_cmp set' page ≡ list_any (λ x. x.page.0 == page) (take (i + 1) places)
  pages_more set set' is put page =
      put page ∙ met-more (contains nat_cmp set page) (nat_eq (get_or places i d).page.0 page) page (get_or places i d).page.0 refl
      ∙ ap (λ b. b || nat_eq (get_or places i d).page.0 page) (is page) ∙ sym (list_any_more (λ (x : Place). x.page.0 == page) places i d below)

  next_is : take (i + 1) places ≡ take i places ++ get_or places i d ∷ []
  next_is = take_more places i d below

  -- a place whose page did not come before, and one whose page did
  pub page_once_more : list_any (has_page (get_or places i d).page.0) (take i places) ≡ false → ArePlacedOnce (take i places) → ArePlacedOnce (take (i + 1) places)
  page_once_more unmet so = subst ArePlacedOnce (sym next_is) (once-push has_page (λ x. x.page.0) (λ x. eq-eqb x.page.0 x.page.0 refl) (λ k x e. sym (eqb-true x.page.0 k e)) (take i places) (get_or places i d) unmet so)

  pub page_twice : list_any (has_page (get_or places i d).page.0) (take i places) ≡ true → ArePlacedOnce places → ⊥
  page_twice met all =
      twice-push has_page (λ x. x.page.0) (λ x. eq-eqb x.page.0 x.page.0 refl) (λ k x e. sym (eqb-true x.page.0 k e)) (take i places) (get_or places i d) met
      (subst ArePlacedOnce next_is (once-whole has_page (λ x. x.page.0) (λ x. eq-eqb x.page.0 x.page.0 refl) (λ k x e. sym (eqb-true x.page.0 k e)) places (i + 1) all))

  -- whether the dies so far hold their pages, with one more
  pub held_more : (batch : List Entry) (held here : Bool) → IsTrue held ↔ AreHeld batch (take i places) → here ≡ holds batch (get_or places i d).page.0 (get_or places i d).die.0
      → IsTrue (held && here) ↔ AreHeld batch (take (i + 1) places)
  held_more batch held here so is = (
    λ yes.
        let parts = and_parts held here yes in
        All-more (λ (x : Place). IsTrue (holds batch x.page.0 x.die.0)) places i d below (so.0 parts.0) (sym is ∙ parts.1),
    λ all.
        let parts = All-pop (λ (x : Place). IsTrue (holds batch x.page.0 x.die.0)) (take (i + 1) places) (take i places) (Some (get_or places i d)) next_is all in
        and_from held here (so.1 parts.0) (is ∙ parts.1),
  )

-- Pages that are named, one after the other.
abbrev is_page : ℕ → Page → Bool
is_page page p = p.0 == page

module _ (batch : List Entry) (pages : List Page) (i : ℕ) (d : Page) (below : i < length pages) where
  pub named_more : AreNamed batch (take i pages) → 1 ≤ times_named batch (get_or pages i d).0 → list_any (λ p. p.0 == (get_or pages i d).0) (take i pages) ≡ false → AreNamed batch (take (i + 1) pages)
  named_more so_far known fresh = record {
    known = λ k e under. All-more (λ (p : Page). 1 ≤ times_named batch p.0) pages i d below so_far.known known k e under;
    once = subst (λ ps. (page : ℕ) → count_by (λ (p : Page). p.0 == page) ps ≤ 1) (sym (take_more pages i d below))
        (once-push is_page (λ p. p.0) (λ p. eq-eqb p.0 p.0 refl) (λ k p e. sym (eqb-true p.0 k e)) (take i pages) (get_or pages i d) fresh so_far.once);
  }

  pub known_at : AreNamed batch pages → 1 ≤ times_named batch (get_or pages i d).0
  known_at all = all.known i d below

  pub not_twice : AreNamed batch pages → list_any (λ p. p.0 == (get_or pages i d).0) (take i pages) ≡ true → ⊥
  not_twice all met =
      twice-push is_page (λ p. p.0) (λ p. eq-eqb p.0 p.0 refl) (λ k p e. sym (eqb-true p.0 k e)) (take i pages) (get_or pages i d) met
      (subst (λ ps. (page : ℕ) → count_by (λ (p : Page). p.0 == page) ps ≤ 1) (take_more pages i d below)
      (once-whole is_page (λ p. p.0) (λ p. eq-eqb p.0 p.0 refl) (λ k p e. sym (eqb-true p.0 k e)) pages (i + 1) all.once))

-- The last round, and the number of rounds up to it.
last-from : (now a : ℕ) (places : List Place) → fold (λ last x. max last x.round.0) a places + 1 - now ≡ max (a + 1 - now) (rounds_of now places)
last-from now a [] = omega arith
last-from now a (x ∷ places) = let rest = last-from now (max a x.round.0) places in omega (arith, rest)

pub rounds_to_last : (now : ℕ) (x : Place) (places : List Place) → rounds_of now (x ∷ places) ≡ fold (λ last y. max last y.round.0) 0 (x ∷ places) + 1 - now
rounds_to_last now x places = let rest = last-from now (max 0 x.round.0) places in omega (arith, rest)

pub last_is_late : (now : ℕ) (places : List Place) → 0 < length places → All (λ x. now ≤ x.round.0) places
    → (now ≤ fold (λ last y. max last y.round.0) 0 places) × (rounds_of now places ≡ fold (λ last y. max last y.round.0) 0 places + 1 - now)
last_is_late now [] some late = absurd (omega arith)
last_is_late now (x ∷ places) some late =
    let is = rounds_to_last now x places in
    let first : now ≤ x.round.0 = late 0 x (omega arith) in
    (omega (arith, is, first), is)

-- the order of dies with rounds
abbrev pub place_cmp : ℕ × ℕ → ℕ × ℕ → Ordering
place_cmp x y = ordering_then (nat_cmp x.0 y.0) (nat_cmp x.1 y.1)

-- the die and the round of a place as its key
abbrev pub is_at_key : ℕ × ℕ → Place → Bool
is_at_key k x = x.die.0 == k.0 && x.round.0 == k.1

pub key_has : (x : Place) → is_at_key (x.die.0, x.round.0) x ≡ true
key_has x = and_from (nat_eq x.die.0 x.die.0) (nat_eq x.round.0 x.round.0) (eq-eqb x.die.0 x.die.0 refl) (eq-eqb x.round.0 x.round.0 refl)

pub key_only : (k : ℕ × ℕ) (x : Place) → is_at_key k x ≡ true → k ≡ (x.die.0, x.round.0)
key_only k x h =
    let parts = and_parts (nat_eq x.die.0 k.0) (nat_eq x.round.0 k.1) h in
    let d = sym (eqb-true x.die.0 k.0 parts.0) in
    let r = sym (eqb-true x.round.0 k.1 parts.1) in
    ap (λ v. (v, k.1)) d ∙ ap (λ v. (x.die.0, v)) r

same_key : (d r e q : ℕ) → is_at (place_cmp (d, r)) (e, q) ≡ (nat_eq d e && nat_eq r q)
same_key d r e q =
    elim (cases_eq d e) [
      | inl same ↦ (let yes = eq-eqb d e same in let c : nat_cmp d e ≡ Equal = grind (arith, nat_tests) in
          ap (λ o. is_eq (ordering_then o (nat_cmp r q))) c ∙ (let at : is_eq (nat_cmp r q) ≡ nat_eq r q = elim (cases_eq r q) [ inl s ↦ grind (arith, nat_tests) | inr n ↦ grind (arith, nat_tests) ] in at) ∙ ap (λ b. b && nat_eq r q) (sym yes))
      | inr other ↦ (let no = ne_eqb d e other in
          elim (cases_order d e) [
            | inl s ↦ absurd (other s)
            | inr lg ↦ elim lg [
              | inl less ↦ (let c : nat_cmp d e ≡ Less = grind (arith, nat_tests) in ap (λ o. is_eq (ordering_then o (nat_cmp r q))) c ∙ ap (λ b. b && nat_eq r q) (sym no))
              | inr more ↦ (let c : nat_cmp d e ≡ Greater = grind (arith, nat_tests) in ap (λ o. is_eq (ordering_then o (nat_cmp r q))) c ∙ ap (λ b. b && nat_eq r q) (sym no))
            ]
          ])
    ]

-- Places in a set so far, each once.
module _ (places : List Place) (i : ℕ) (d : Place) (below : i < length places) where
  pub taken_more : (set set' : BTreeSet (ℕ × ℕ)) → ((die round : ℕ) → contains place_cmp set (die, round) ≡ list_any (is_at_key (die, round)) (take i places))
      → ((k : ℕ × ℕ) → contains place_cmp set' k ≡ cond (is_at (place_cmp ((get_or places i d).die.0, (get_or places i d).round.0)) k) true (contains place_cmp set k))
      → (die round : ℕ) → contains place_cmp set' (die, round) ≡ list_any (is_at_key (die, round)) (take (i + 1) places)
  taken_more set set' is put die round =
      put (die, round) ∙ ap (λ b. cond b true (contains place_cmp set (die, round))) (same_key (get_or places i d).die.0 (get_or places i d).round.0 die round)
      ∙ cond-or (is_at_key (die, round) (get_or places i d)) (contains place_cmp set (die, round))
      ∙ ap (λ b. b || is_at_key (die, round) (get_or places i d)) (is die round) ∙ sym (list_any_more (is_at_key (die, round)) places i d below)

  pub apart_more : (set : BTreeSet (ℕ × ℕ)) (fresh : Bool) → ((die round : ℕ) → contains place_cmp set (die, round) ≡ list_any (is_at_key (die, round)) (take i places))
      → fresh ≡ not (contains place_cmp set ((get_or places i d).die.0, (get_or places i d).round.0)) → fresh ≡ true
      → AreApart (take i places) → AreApart (take (i + 1) places)
  apart_more set fresh is new free so =
      let x = get_or places i d in
      let unmet = sym (is x.die.0 x.round.0) ∙ not-true (contains place_cmp set (x.die.0, x.round.0)) (sym new ∙ free) in
      λ die round. subst AreApart (sym (take_more places i d below)) (λ e q. once-push is_at_key (λ x. (x.die.0, x.round.0)) key_has key_only (take i places) x unmet (λ k. so k.0 k.1) (e, q)) die round

  pub not_apart : (set : BTreeSet (ℕ × ℕ)) (fresh : Bool) → ((die round : ℕ) → contains place_cmp set (die, round) ≡ list_any (is_at_key (die, round)) (take i places))
      → fresh ≡ not (contains place_cmp set ((get_or places i d).die.0, (get_or places i d).round.0)) → fresh ≡ false
      → AreApart places → ⊥
  not_apart set fresh is new taken all =
      let x = get_or places i d in
      let met = sym (is x.die.0 x.round.0) ∙ not-false (contains place_cmp set (x.die.0, x.round.0)) (sym new ∙ taken) in
      twice-push is_at_key (λ x. (x.die.0, x.round.0)) key_has key_only (take i places) x met
      (subst (λ xs. (k : ℕ × ℕ) → count_by (is_at_key k) xs ≤ 1) (take_more places i d below)
      (once-whole is_at_key (λ x. (x.die.0, x.round.0)) key_has key_only places (i + 1) (λ k. all k.0 k.1)))

-- the entries of the batch are all marked exactly where each has a place
module _ (batch : List Entry) (places : List Place) (marks front : List Bool) (are : AreMarks batch (λ page. list_any (λ x. x.page.0 == page) places) marks)
    (long : length batch ≤ length marks) (front_is : front ≡ take (length batch) marks) where
  front_long : length front ≡ length batch
  front_long = ap (λ v. length v) front_is ∙ length-take-le (length batch) marks long

  front_at : (k : ℕ) → k < length batch → get_or front k false ≡ get_or marks k false
  front_at k below = ap (λ v. get_or v k false) front_is ∙ get_or-take (length batch) marks k false below

  pub placed_from : All (λ mark. IsTrue mark) front → ArePlaced batch places
  placed_from all k e below =
      count-from-any (λ (x : Place). x.page.0 == (get_or batch k e).page.0) places (sym (are k e below) ∙ sym (front_at k below) ∙ all k false (omega (arith, front_long, below)))

  pub placed_to : ArePlaced batch places → All (λ mark. IsTrue mark) front
  placed_to all k d below =
      let e : Entry = record { page = record { 0 = 0 }; holders = [] } in
      let under : k < length batch = omega (arith, front_long, below) in
      get_or_default front k d false below ∙ front_at k under ∙ are k e under
      ∙ any-from-count (λ (x : Place). x.page.0 == (get_or batch k e).page.0) places (all k e under)

-- The rounds of each die rise: each place so far is below the first round that is free at its die.
module _ (places : List Place) (i : ℕ) (d : Place) (below : i < length places) (free : List ℕ) (under : All (λ x. x.round.0 < get_or free x.die.0 0) (take i places)) where
  pub none_there : get_or free (get_or places i d).die.0 0 ≤ (get_or places i d).round.0
      → list_any (is_at_key ((get_or places i d).die.0, (get_or places i d).round.0)) (take i places) ≡ false
  none_there later =
      let y : Place = get_or places i d in
      let none = count_by-none (is_at_key (y.die.0, y.round.0)) (take i places)
      (AllByRecursion-weaker (λ (x : Place). x.round.0 < get_or free x.die.0 0) (λ x. is_at_key (y.die.0, y.round.0) x ≡ false)
      (λ x lower. false_from_ne_true (is_at_key (y.die.0, y.round.0) x) (λ at.
      let parts = and_parts (nat_eq x.die.0 y.die.0) (nat_eq x.round.0 y.round.0) at in
      let die = eqb-true x.die.0 y.die.0 parts.0 in
      let round = eqb-true x.round.0 y.round.0 parts.1 in
      let same = ap (λ n. get_or free n 0) die in
      let no : ⊥ = omega (arith, lower, round, same, later) in no))
      (take i places) (recursion_from_All (λ (x : Place). x.round.0 < get_or free x.die.0 0) (take i places) under)) in
      false_from_ne_true (list_any (is_at_key (y.die.0, y.round.0)) (take i places)) (λ any.
      let one = count-from-any (is_at_key (y.die.0, y.round.0)) (take i places) any in
      let no : ⊥ = omega (arith, none, one) in no)

  pub rise_more : (next : ℕ) → next ≡ (get_or places i d).round.0 + 1 → get_or free (get_or places i d).die.0 0 < next → (get_or places i d).die.0 < length free → AreApart (take i places)
      → All (λ x. x.round.0 < get_or (set free (get_or places i d).die.0 next) x.die.0 0) (take (i + 1) places) × AreApart (take (i + 1) places)
  rise_more next is higher inside so =
      let y : Place = get_or places i d in
      let free' : List ℕ = set free y.die.0 next in
      let P : Place → Type 0 = λ x. x.round.0 < get_or free' x.die.0 0 in
      let later : get_or free y.die.0 0 ≤ y.round.0 = omega (arith, is, higher) in
      let here : get_or free' y.die.0 0 ≡ next = get_or-set_same free y.die.0 next 0 inside in (
        All-more P places i d below
            (All-weaker (λ (x : Place). x.round.0 < get_or free x.die.0 0) P (λ x lower. elim (cases_eq x.die.0 y.die.0) [
              | inl same ↦ (let old = ap (λ n. get_or free n 0) same in let new = ap (λ n. get_or free' n 0) same in omega (arith, lower, old, new, here, later, is))
              | inr other ↦ (let new = get_or-set_other free y.die.0 x.die.0 next 0 other in omega (arith, lower, new))
            ]) (take i places) under)
            (omega (arith, here, is)),
        λ die round. subst AreApart (sym (take_more places i d below))
            (λ e q. once-push is_at_key (λ x. (x.die.0, x.round.0)) key_has key_only (take i places) y (none_there later) (λ k. so k.0 k.1) (e, q)) die round,
      )
