-- How many numbers of a list pass a test, as the test changes at one of them.
use Rattle.fa_core_batches.specs.Counted.{one}
use Rattle.fa_machine.specs.Maps.{is_one_of}
use Rattle.fa_machine.specs.Step.{is_distinct}
use Rattle.std.proofs.Common.{Bool, List, [], ap, arith, eq-eqb, false, inl, inr, refl, sym, true, ℕ, ◌++◌, ◌+◌, ◌∙◌, ◌∷◌, ◌≡◌, ◌≤◌}
use Rattle.std.proofs.lemmas.Bool.{and_parts, cases_eq, false≢true, ne_eqb, or_parts}
use Rattle.std.proofs.lemmas.List.Folds.{sum_by-zero}
use Rattle.std.proofs.lemmas.List.Sums.{sum_by-cons, sum_by_push}
use Rattle.std.specs.List.{list_all, list_any}
use Rattle.std.specs.Prelude.{count_by, not, ◌==◌, ◌&&◌, ◌||◌}

not_true : (b : Bool) → not b ≡ true → b ≡ false
not_true true e = absurd (false≢true e)
not_true false e = refl

or_true : (b : Bool) → (b || true) ≡ true
or_true true = refl
or_true false = refl

-- two tests that agree beside one number count as many where that number is not among them
pub count_others : (f g : ℕ → Bool) (n : ℕ) → ((q : ℕ) → (q ≡ n → ⊥) → g q ≡ f q) → (ns : List ℕ) → is_one_of ns n ≡ false
    → count_by g ns ≡ count_by f ns
count_others f g n same [] none = refl
count_others f g n same (x ∷ ns) none =
    let parts = or_parts (x == n) (is_one_of ns n) none in
    let new = sum_by-cons (λ q. one (g q)) x ns in
    let old = sum_by-cons (λ q. one (f q)) x ns in
    let rest : count_by g ns ≡ count_by f ns = count_others f g n same ns parts.1 in
    let head : one (g x) ≡ one (f x) = ap one (same x (λ e. false≢true (sym parts.0 ∙ eq-eqb x n e))) in
    omega (arith, new, old, rest, head)

-- and else as many, but for that number
pub count_at : (f g : ℕ → Bool) (n : ℕ) → ((q : ℕ) → (q ≡ n → ⊥) → g q ≡ f q) → (ns : List ℕ) → is_distinct ns ≡ true
    → is_one_of ns n ≡ true → count_by g ns + one (f n) ≡ count_by f ns + one (g n)
count_at f g n same [] distinct there = absurd (false≢true there)
count_at f g n same (x ∷ ns) distinct there =
    let parts = and_parts (not (is_one_of ns x)) (is_distinct ns) distinct in
    let all_new = sum_by-cons (λ q. one (g q)) x ns in
    let all_old = sum_by-cons (λ q. one (f q)) x ns in
    elim (cases_eq x n) [
      | inl at ↦
          let rest : count_by g ns ≡ count_by f ns
          = count_others f g n same ns (ap (is_one_of ns) (sym at) ∙ not_true (is_one_of ns x) parts.0) in
          let new : one (g x) ≡ one (g n) = ap (λ q. one (g q)) at in
          let old : one (f x) ≡ one (f n) = ap (λ q. one (f q)) at in
          omega (arith, all_new, all_old, rest, new, old)
      | inr apart ↦
          let rest : count_by g ns + one (f n) ≡ count_by f ns + one (g n)
          = count_at f g n same ns parts.1 (sym (ap (λ b. b || is_one_of ns n) (ne_eqb x n apart)) ∙ there) in
          let head : one (g x) ≡ one (f x) = ap one (same x apart) in
          omega (arith, all_new, all_old, rest, head)
    ]

-- what is among them is counted
pub counted_one : (f : ℕ → Bool) (n : ℕ) (ns : List ℕ) → is_one_of ns n ≡ true → one (f n) ≤ count_by f ns
counted_one f n [] there = absurd (false≢true there)
counted_one f n (x ∷ ns) there =
    let all = sum_by-cons (λ q. one (f q)) x ns in
    elim (cases_eq x n) [
      | inl at ↦ let same : one (f x) ≡ one (f n) = ap (λ q. one (f q)) at in omega (arith, all, same)
      | inr apart ↦
          let rest : one (f n) ≤ count_by f ns
          = counted_one f n ns (sym (ap (λ b. b || is_one_of ns n) (ne_eqb x n apart)) ∙ there) in
          omega (arith, all, rest)
    ]

pub count_end : (f : ℕ → Bool) (ns : List ℕ) (n : ℕ) → count_by f (ns ++ n ∷ []) ≡ count_by f ns + one (f n)
count_end f ns n = sum_by_push (λ q. one (f q)) ns n

-- some of them, or all, by their number
any_some : (f : ℕ → Bool) (ns : List ℕ) → list_any f ns ≡ not (list_all (λ x. one (f x) == 0) ns)
any_some f [] = refl
any_some f (x ∷ ns) = go (f x) (list_any f ns) (list_all (λ x. one (f x) == 0) ns) (any_some f ns)
  where
    go : (b r s : Bool) → r ≡ not s → (b || r) ≡ not ((one b == 0) && s)
    go true r s e = refl
    go false r s e = e

pub any_counted : (f : ℕ → Bool) (ns : List ℕ) → list_any f ns ≡ not (count_by f ns == 0)
any_counted f ns = any_some f ns ∙ ap not (sym (sum_by-zero (λ q. one (f q)) ns))

all_none : (f g : ℕ → Bool) (ns : List ℕ) → ((q : ℕ) → is_one_of ns q ≡ true → f q ≡ not (g q))
    → list_all f ns ≡ list_all (λ x. one (g x) == 0) ns
all_none f g [] each = refl
all_none f g (x ∷ ns) each =
    ap (λ b. b && list_all f ns) (each x (ap (λ b. b || is_one_of ns x) (eq-eqb x x refl)))
    ∙ go (g x) (list_all f ns) (list_all (λ x. one (g x) == 0) ns)
    (all_none f g ns (λ q among. each q (ap (λ b. (x == q) || b) among ∙ or_true (x == q))))
  where
    go : (b r s : Bool) → r ≡ s → (not b && r) ≡ ((one b == 0) && s)
    go true r s e = refl
    go false r s e = e

pub all_counted : (f g : ℕ → Bool) (ns : List ℕ) → ((q : ℕ) → is_one_of ns q ≡ true → f q ≡ not (g q))
    → list_all f ns ≡ (count_by g ns == 0)
all_counted f g ns each = all_none f g ns each ∙ sym (sum_by-zero (λ q. one (g q)) ns)
