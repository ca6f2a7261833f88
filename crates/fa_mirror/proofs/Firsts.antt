-- Firsts of ranges.
use Rattle.fa_mirror.specs.Firsts.{IsFirst, lower_of}
use Rattle.std.proofs.Common.{Bool, None, Option, Some, ap, arith, cond, false, inl, inr, refl, subst, suc, sym, true, zero, ℕ, ◌+◌, ◌-◌}
use Rattle.std.proofs.Common.{◌≤◌, ◌∙◌, ◌≡◌, ◌==◌}
use Rattle.std.proofs.lemmas.Bool.Decides.{nat_tests}
use Rattle.std.proofs.lemmas.Bool.{cases_lt, lt-ltb, le-ltb}
use Rattle.std.specs.List.{find, range_with_len}
use Rattle.std.specs.Prelude.{if◌then◌else◌, nat_lt, ◌&&◌, ◌||◌}

one_earlier : (test : ℕ → Bool) (a end : ℕ) (o : Option ℕ) → test a ≡ false → IsFirst test (a + 1) end o → IsFirst test a end o
one_earlier test a end None fails first =
    λ k low high. elim (cases_lt a k) [
      | inl above ↦ first k (omega (arith, above)) high
      | inr below ↦ let same : k ≡ a = omega (arith, low, below) in ap test same ∙ fails
    ]
one_earlier test a end (Some n) fails first = (
  let low = first.0 in omega (arith, low),
  first.1,
  first.2,
  λ k low high. elim (cases_lt a k) [
    | inl above ↦ first.3 k (omega (arith, above)) high
    | inr below ↦ let same : k ≡ a = omega (arith, low, below) in ap test same ∙ fails
  ],
)

-- what is found in a range is the first of it
pub first_found : (test : ℕ → Bool) (a n : ℕ) → IsFirst test a (a + n) (find test (range_with_len a n))
first_found test a zero = λ k low high. absurd (omega (arith, low, high))
first_found test a (suc n) =
    let end : a + 1 + n ≡ a + suc n = omega arith in
    go (test a) refl
    (subst (λ e. IsFirst test (a + 1) e (find test (range_with_len (a + 1) n))) end (first_found test (a + 1) n))
  where
    go : (b : Bool) → test a ≡ b → IsFirst test (a + 1) (a + suc n) (find test (range_with_len (a + 1) n))
        → IsFirst test a (a + suc n) (cond b (Some a) (find test (range_with_len (a + 1) n)))
    go true is rest = (omega arith, omega arith, is, λ k low high. absurd (omega (arith, low, high)))
    go false is rest = one_earlier test a (a + suc n) (find test (range_with_len (a + 1) n)) is rest

pub first_from : (test : ℕ → Bool) (from end : ℕ) → IsFirst test from end (find test (range_with_len from (end - from)))
first_from test from end =
    elim (cases_lt end from) [
      | inr low ↦
          let same : from + (end - from) ≡ end = omega (arith, low) in
          subst (λ e. IsFirst test from e (find test (range_with_len from (end - from)))) same (first_found test from (end - from))
      | inl past ↦
          let none : end - from ≡ 0 = omega (arith, past) in
          subst (λ n. IsFirst test from end (find test (range_with_len from n))) (sym none)
          (λ k low high. absurd (omega (arith, past, low, high)))
    ]

-- the first that passes one of two tests is the lower of the two firsts
module _ (r p q : ℕ → Bool) (either : (k : ℕ) → r k ≡ (p k || q k)) (from end : ℕ) where
  neither : (k : ℕ) → p k ≡ false → q k ≡ false → r k ≡ false
  neither k no_p no_q = either k ∙ (λ i. no_p i || no_q i)

  one : (k : ℕ) → p k ≡ true → r k ≡ true
  one k is = either k ∙ ap (λ b. b || q k) is

  other : (k : ℕ) → q k ≡ true → r k ≡ true
  other k is = either k ∙ ap (λ b. p k || b) is ∙ always (p k)
    where
      always : (b : Bool) → (b || true) ≡ true
      always true = refl
      always false = refl

  pub first_of_either : (a b : Option ℕ) → IsFirst p from end a → IsFirst q from end b → IsFirst r from end (lower_of a b)
  first_of_either None None fa fb = λ k low high. neither k (fa k low high) (fb k low high)
  first_of_either None (Some n) fa fb = (
    fb.0,
    fb.1,
    other n fb.2,
    λ k low high.
        neither k (fa k low (let top = fb.1 in omega (arith, high, top))) (fb.3 k low high),
  )
  first_of_either (Some n) None fa fb = (
    fa.0,
    fa.1,
    one n fa.2,
    λ k low high.
        neither k (fa.3 k low high) (fb k low (let top = fa.1 in omega (arith, high, top))),
  )
  first_of_either (Some n) (Some m) fa fb =
      elim (cases_lt m n) [
        | inl lower ↦
            subst (λ b. IsFirst r from end (if b then Some m else Some n)) (sym (lt-ltb m n lower))
            (fb.0, fb.1, other m fb.2, λ k low high. neither k (fa.3 k low (omega (arith, high, lower))) (fb.3 k low high))
        | inr above ↦
            subst (λ b. IsFirst r from end (if b then Some m else Some n)) (sym (le-ltb m n above))
            (fa.0, fa.1, one n fa.2, λ k low high. neither k (fa.3 k low high) (fb.3 k low (omega (arith, high, above))))
      ]

-- of at most three copies that are asked for, fewer than these are one or two
pub few_is : (n asked : ℕ) → asked ≤ 3 → (nat_lt 0 n && nat_lt n asked) ≡ ((nat_lt 1 asked && n == 1) || (nat_lt 2 asked && n == 2))
few_is n asked most = grind (arith, nat_tests)

-- the first of a test is that of one that says the same
pub first_same : (r p : ℕ → Bool) → ((k : ℕ) → r k ≡ p k) → (from end : ℕ) (o : Option ℕ) → IsFirst p from end o → IsFirst r from end o
first_same r p same from end None first = λ k low high. same k ∙ first k low high
first_same r p same from end (Some n) first = (first.0, first.1, same n ∙ first.2, λ k low high. same k ∙ first.3 k low high)
