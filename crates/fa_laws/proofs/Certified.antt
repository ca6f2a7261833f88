-- A certificate that is worked out: tests that compute, and what follows where they pass.
use Rattle.fa_batch_terms.specs.Batch.{Entry, holds, is_among, times_named}
use Rattle.fa_batch_terms.specs.Certificate.{AreTheHolders, IsShortage, holds_any, open_places}
use Rattle.fa_batch_terms.specs.Plan.{AreFirstRounds, IsPlan, is_earlier_page, times_placed}
use Rattle.fa_batch_terms.specs.declared.place.Place.{Place}
use Rattle.fa_types.specs.Open.{IsOpen, open_among}
use Rattle.fa_types.specs.declared.numbers.Die.{Die}
use Rattle.fa_types.specs.declared.numbers.Page.{Page}
use Rattle.std.proofs.Common.{Bool, List, [], ap, arith, cond, eq-eqb, eqb-true, false, inl, inr, length, not, refl, subst, sym, true, ℕ, ◌-◌, ◌≤◌, ◌∙◌, ◌∷◌, ◌≡◌}
use Rattle.std.proofs.lemmas.Bool.{and_from, and_parts, and_right, cases_Bool, cases_eq, false≢true, leb-true, ltb-true, ne_eqb, not-true, or_from, or_parts}
use Rattle.std.proofs.lemmas.List.Elements.{All-from_recursion}
use Rattle.std.proofs.lemmas.List.Sums.{sum_by-cons}
use Rattle.std.specs.List.{AllByRecursion, list_all, list_any}
use Rattle.std.specs.Prelude.{All, IsTrue, count_by, if◌then◌else◌, nat_le, nat_lt, ◌&&◌, ◌==◌}

-- each passes a test from which something follows
pub all_pass : {X : Type 0} (test : X → Bool) (P : X → Type 0) → ((x : X) → test x ≡ true → P x) → (xs : List X) → list_all test xs ≡ true
    → AllByRecursion P xs
all_pass test P follows [] e = tt
all_pass test P follows (x ∷ xs) e =
    let parts = and_parts (test x) (list_all test xs) e in
    (follows x parts.0, all_pass test P follows xs parts.1)

pub all_of : {X : Type 0} (test : X → Bool) (P : X → Type 0) → ((x : X) → test x ≡ true → P x) → (xs : List X) → list_all test xs ≡ true → All P xs
all_of test P follows xs e = All-from_recursion P xs (all_pass test P follows xs e)

-- no two are the same
abbrev pub are_apart : {X : Type 0} → (X → X → Bool) → List X → Bool
are_apart same [] = true
are_apart same (x ∷ xs) = not (list_any (same x) xs) && are_apart same xs

none_more : {X : Type 0} (test : X → Bool) (same : X → X → Bool) → ((x y : X) → test x ≡ true → test y ≡ true → same x y ≡ true)
    → (x : X) → test x ≡ true → (xs : List X) → list_any (same x) xs ≡ false → count_by test xs ≡ 0
none_more test same alike x passes [] e = refl
none_more test same alike x passes (y ∷ ys) e =
    let parts = or_parts (same x y) (list_any (same x) ys) e in
    elim (cases_Bool (test y)) [
      | inl too ↦ absurd (false≢true (sym parts.0 ∙ alike x y passes too))
      | inr away ↦
          let rest = none_more test same alike x passes ys parts.1 in
          let front : ◌≡◌ {A = ℕ} (cond (test y) 1 0) 0 = ap {B = ℕ} (λ b. cond b 1 0) away in
          let sum = sum_by-cons {X = _} (λ z. cond (test z) 1 0) y ys in
          omega (arith, front, sum, rest)
    ]

pub one_at_most : {X : Type 0} (test : X → Bool) (same : X → X → Bool) → ((x y : X) → test x ≡ true → test y ≡ true → same x y ≡ true)
    → (xs : List X) → are_apart same xs ≡ true → count_by test xs ≤ 1
one_at_most test same alike [] e = omega arith
one_at_most test same alike (x ∷ xs) e =
    let parts = and_parts (not (list_any (same x) xs)) (are_apart same xs) e in
    let rest = one_at_most test same alike xs parts.1 in
    elim (cases_Bool (test x)) [
      | inl passes ↦
          let none = none_more test same alike x passes xs (not-true (list_any (same x) xs) parts.0) in
          let front : ◌≡◌ {A = ℕ} (cond (test x) 1 0) 1 = ap {B = ℕ} (λ b. cond b 1 0) passes in
          let sum = sum_by-cons {X = _} (λ z. cond (test z) 1 0) x xs in
          omega (arith, front, sum, none)
      | inr away ↦
          let front : ◌≡◌ {A = ℕ} (cond (test x) 1 0) 0 = ap {B = ℕ} (λ b. cond b 1 0) away in
          let sum = sum_by-cons {X = _} (λ z. cond (test z) 1 0) x xs in
          omega (arith, front, sum, rest)
    ]

same_number : (x y n : ℕ) → (x == n) ≡ true → (y == n) ≡ true → (x == y) ≡ true
same_number x y n a b = eq-eqb x y (eqb-true x n a ∙ sym (eqb-true y n b))

-- what holds of dies 0 to 2, and of each die from 3 on
for_three : (P : ℕ → Type 0) → P 0 → P 1 → P 2 → ((die : ℕ) → 3 ≤ die → P die) → (die : ℕ) → P die
for_three P zero one two other die =
    elim (cases_eq 0 die) [
      | inl is ↦ subst P is zero
      | inr not0 ↦ elim (cases_eq 1 die) [
        | inl is ↦ subst P is one
        | inr not1 ↦ elim (cases_eq 2 die) [
          | inl is ↦ subst P is two
          | inr not2 ↦ other die (omega (arith, not0, not1, not2))
        ]
      ]
    ]

is_other : (d die : ℕ) → nat_lt d 3 ≡ true → 3 ≤ die → (d == die) ≡ false
is_other d die low high = ne_eqb d die (λ e. let l = ltb-true d 3 low in absurd (omega (arith, e, l, high)))

none_among : (holders : List Die) (die : ℕ) → 3 ≤ die → list_all (λ d. nat_lt d.0 3) holders ≡ true → is_among holders die ≡ false
none_among [] die high e = refl
none_among (d ∷ ds) die high e =
    let parts = and_parts (nat_lt d.0 3) (list_all (λ d. nat_lt d.0 3) ds) e in
    or_from _ _ (is_other d.0 die parts.0 high) (none_among ds die high parts.1)

-- whether each holder of each page is a die below 3
abbrev pub are_three : List Entry → Bool
are_three batch = list_all (λ e. list_all (λ d. nat_lt d.0 3) e.holders) batch

none_holds : (batch : List Entry) (page die : ℕ) → 3 ≤ die → are_three batch ≡ true → holds batch page die ≡ false
none_holds [] page die high e = refl
none_holds (x ∷ xs) page die high e =
    let parts = and_parts (list_all (λ d. nat_lt d.0 3) x.holders) (are_three xs) e in
    or_from _ _ (and_right _ _ (none_among x.holders die high parts.0)) (none_holds xs page die high parts.1)

none_holds_any : (batch : List Entry) (pages : List Page) (die : ℕ) → 3 ≤ die → are_three batch ≡ true → holds_any batch pages die ≡ false
none_holds_any batch [] die high e = refl
none_holds_any batch (p ∷ ps) die high e = or_from _ _ (none_holds batch p.0 die high e) (none_holds_any batch ps die high e)

none_counted : (ds : List ℕ) (die : ℕ) → 3 ≤ die → list_all (λ d. nat_lt d 3) ds ≡ true → count_by (λ d. d == die) ds ≡ 0
none_counted [] die high e = refl
none_counted (d ∷ ds) die high e =
    let parts = and_parts (nat_lt d 3) (list_all (λ d. nat_lt d 3) ds) e in
    let rest = none_counted ds die high parts.1 in
    let front : ◌≡◌ {A = ℕ} (cond (d == die) 1 0) 0 = ap {B = ℕ} (λ b. cond b 1 0) (is_other d die parts.0 high) in
    let sum = sum_by-cons {X = _} (λ x. cond (x == die) 1 0) d ds in
    omega (arith, front, sum, rest)

-- on three dies it is enough to look at these
pub three_holders : (batch : List Entry) (pages : List Page) (ds : List ℕ) → are_three batch ≡ true → list_all (λ d. nat_lt d 3) ds ≡ true
    → count_by (λ d. d == 0) ds ≡ (if holds_any batch pages 0 then 1 else 0)
    → count_by (λ d. d == 1) ds ≡ (if holds_any batch pages 1 then 1 else 0)
    → count_by (λ d. d == 2) ds ≡ (if holds_any batch pages 2 then 1 else 0)
    → AreTheHolders batch pages ds
three_holders batch pages ds low few zero one two =
    for_three (λ die. count_by (λ d. d == die) ds ≡ (if holds_any batch pages die then 1 else 0)) zero one two
    (λ die high. none_counted ds die high few ∙ sym (ap {B = ℕ} (λ b. if b then 1 else 0) (none_holds_any batch pages die high low)))

module _ (batch : List Entry) (current : ℕ) (closed : ℕ → ℕ → Bool) (places : List Place) where
  abbrev is_open : Place → Bool
  is_open x = nat_le current x.round.0 && not (closed x.die.0 x.round.0)

  -- whether the places are a plan
  abbrev pub passes_as_plan : Bool
  passes_as_plan =
      list_all (λ e. nat_le 1 (times_placed places e.page.0)) batch
      && (are_apart (λ x y. x.page.0 == y.page.0) places
      && (list_all (λ x. holds batch x.page.0 x.die.0) places
      && (list_all is_open places
      && are_apart (λ x y. x.die.0 == y.die.0 && x.round.0 == y.round.0) places)))

  pub worked_plan : passes_as_plan ≡ true → IsPlan batch current closed places
  worked_plan e =
      let a = and_parts (list_all (λ e. nat_le 1 (times_placed places e.page.0)) batch) _ e in
      let b = and_parts (are_apart (λ x y. x.page.0 == y.page.0) places) _ a.1 in
      let c = and_parts (list_all (λ x. holds batch x.page.0 x.die.0) places) _ b.1 in
      let d = and_parts (list_all is_open places) _ c.1 in
      record {
        each = all_of (λ e. nat_le 1 (times_placed places e.page.0)) (λ e. 1 ≤ times_placed places e.page.0)
            (λ e h. leb-true 1 (times_placed places e.page.0) h) batch a.0;
        once = λ page. one_at_most (λ x. x.page.0 == page) (λ x y. x.page.0 == y.page.0) (λ x y h k. same_number x.page.0 y.page.0 page h k) places b.0;
        held = all_of (λ x. holds batch x.page.0 x.die.0) (λ x. IsTrue (holds batch x.page.0 x.die.0)) (λ x h. h) places c.0;
        opens = all_of is_open (λ x. IsOpen current closed x.die.0 x.round.0)
            (λ x h. let parts = and_parts (nat_le current x.round.0) _ h in
            (leb-true current x.round.0 parts.0, not-true (closed x.die.0 x.round.0) parts.1)) places d.0;
        apart = λ die round. one_at_most (λ x. x.die.0 == die && x.round.0 == round) (λ x y. x.die.0 == y.die.0 && x.round.0 == y.round.0)
            (λ x y h k. let p = and_parts (x.die.0 == die) (x.round.0 == round) h in let q = and_parts (y.die.0 == die) (y.round.0 == round) k in
            and_from _ _ (same_number x.die.0 y.die.0 die p.0 q.0) (same_number x.round.0 y.round.0 round p.1 q.1)) places d.1;
      }

  abbrev pub are_first : Bool
  are_first = list_all (λ x. open_among current closed x.die.0 (x.round.0 - current) == count_by (is_earlier_page x) places) places

  pub worked_first : are_first ≡ true → AreFirstRounds current closed places
  worked_first e = all_of _ _
      (λ x h. eqb-true (open_among current closed x.die.0 (x.round.0 - current)) (count_by (is_earlier_page x) places) h) places e

  -- whether there are more of these pages than open places of these dies
  abbrev pub are_many : ℕ → List Page → List ℕ → Bool
  are_many rounds pages dies =
      list_all (λ p. nat_le 1 (times_named batch p.0)) pages
      && (are_apart (λ p q. p.0 == q.0) pages
      && nat_lt (open_places current closed dies rounds) (length pages))

  pub worked_shortage : (rounds : ℕ) (pages : List Page) (dies : List ℕ) → AreTheHolders batch pages dies → are_many rounds pages dies ≡ true
      → IsShortage batch current closed rounds pages
  worked_shortage rounds pages dies holders e =
      let a = and_parts (list_all (λ p. nat_le 1 (times_named batch p.0)) pages) _ e in
      let b = and_parts (are_apart (λ p q. p.0 == q.0) pages) _ a.1 in
      record {
        named = record {
          known = all_of (λ p. nat_le 1 (times_named batch p.0)) (λ p. 1 ≤ times_named batch p.0) (λ p h. leb-true 1 (times_named batch p.0) h) pages a.0;
          once = λ page. one_at_most (λ p. p.0 == page) (λ p q. p.0 == q.0) (λ p q h k. same_number p.0 q.0 page h k) pages b.0;
        };
        many = (dies, holders, ltb-true (open_places current closed dies rounds) (length pages) b.1);
      }
