-- What a function gives of numbers that follow each other.
use Rattle.std.proofs.Common.{◌≡◌, ℕ, ◌+◌, ◌-◌, ◌<◌, ◌≤◌, ◌⊎◌, inl, inr, Bool, cond, List, [], ◌∷◌, Option, Some, None, length, refl, ap, ◌∙◌, zero, suc, arith}
use Rattle.std.proofs.lemmas.Bool.{cases_eq}
use Rattle.std.proofs.lemmas.List.Elements.{Contains-get_or}
use Rattle.std.proofs.lemmas.List.Kept.{AllPairs-cons}
use Rattle.std.proofs.lemmas.List.Sums.{sum_by-cons}
use Rattle.std.specs.Prelude.{count_by, is_some}
use Rattle.std.specs.List.{AllPairs, Contains, cons_option, filter_map, range_with_len, slice_index_or}
use Rattle.fa_map_calls.proofs.Ranges.{count_le}
use Rattle.fa_mount_scan.specs.Pages.{given_from}

pub next_number : (first end : ℕ) → first < end → range_with_len first (end - first) ≡ first ∷ range_with_len (first + 1) (end - (first + 1))
next_number first end below = let one_less : end - first ≡ suc (end - (first + 1)) = omega arith in ap (range_with_len first) one_less

module _ {A : Type 0} (f : ℕ → Option A) where
  -- the number is looked up
  pub one_looked_up : (first end : ℕ) → first < end → given_from f first end ≡ cons_option (f first) (given_from f (first + 1) end)
  one_looked_up first end below = ap (filter_map f) (next_number first end below)

  pub one_given : (first end : ℕ) (x : A) → first < end → f first ≡ Some x → given_from f first end ≡ x ∷ given_from f (first + 1) end
  one_given first end x below is = one_looked_up first end below ∙ ap (λ o. cons_option o (given_from f (first + 1) end)) is

  pub none_given : (first end : ℕ) → first < end → f first ≡ None → given_from f first end ≡ given_from f (first + 1) end
  none_given first end below is = one_looked_up first end below ∙ ap (λ o. cons_option o (given_from f (first + 1) end)) is

  pub all_given : (first end : ℕ) → end ≤ first → given_from f first end ≡ []
  all_given first end past = let none : end - first ≡ 0 = omega arith in ap (λ n. filter_map f (range_with_len first n)) none

  pub given_at_all : (end : ℕ) → given_from f 0 end ≡ filter_map f (range_with_len 0 end)
  given_at_all end = let all : end - 0 ≡ end = omega arith in ap (λ n. filter_map f (range_with_len 0 n)) all

  -- ## Which there are

  one_of : (o : Option A) (xs : List A) (x : A) → Contains (cons_option o xs) x → (o ≡ Some x) ⊎ Contains xs x
  one_of None xs x has = inr has
  one_of (Some y) xs x (zero, low, is) = inl (ap Some is)
  one_of (Some y) xs x (suc k, low, is) = inr (k, omega (arith, low), is)

  first_one : (o : Option A) (xs : List A) (x : A) → o ≡ Some x → Contains (cons_option o xs) x
  first_one None xs x is = let no : None ≡ Some x = is in cc
  first_one (Some y) xs x is = (0, omega arith, (let same : Some y ≡ Some x = is in cc))

  later_one : (o : Option A) (xs : List A) (x : A) → Contains xs x → Contains (cons_option o xs) x
  later_one None xs x has = has
  later_one (Some y) xs x has = (suc has.0, (let low = has.1 in omega (arith, low)), has.2)

  -- what is given is what the function gives of one of the numbers
  pub given_by : (a n : ℕ) (x : A) → Contains (filter_map f (range_with_len a n)) x → (k : ℕ) × (a ≤ k) × (k < a + n) × (f k ≡ Some x)
  given_by a zero x has = absurd (let low = has.1 in omega (arith, low))
  given_by a (suc n) x has =
      elim (one_of (f a) (filter_map f (range_with_len (a + 1) n)) x has) [
        | inl is ↦ (a, omega arith, omega arith, is)
        | inr later ↦ let at = given_by (a + 1) n x later in let low = at.1 in let high = at.2 in (at.0, omega (arith, low), omega (arith, high), at.3)
      ]

  -- and what it gives of each is
  pub gives : (a n k : ℕ) (x : A) → a ≤ k → k < a + n → f k ≡ Some x → Contains (filter_map f (range_with_len a n)) x
  gives a zero k x low high is = absurd (omega arith)
  gives a (suc n) k x low high is =
      elim (cases_eq a k) [
        | inl same ↦ first_one (f a) (filter_map f (range_with_len (a + 1) n)) x (ap f same ∙ is)
        | inr apart ↦ later_one (f a) (filter_map f (range_with_len (a + 1) n)) x (gives (a + 1) n k x (omega arith) (omega arith) is)
      ]

  first_in_order : (R : A → A → Type 0) → ((k j : ℕ) (x y : A) → f k ≡ Some x → f j ≡ Some y → k < j → R x y)
      → (a : ℕ) (rest : List A) (o : Option A) → f a ≡ o → ((x : A) → Contains rest x → (k : ℕ) × (a < k) × (f k ≡ Some x))
      → AllPairs R rest → AllPairs R (cons_option o rest)
  first_in_order R rises a rest None is behind ordered = ordered
  first_in_order R rises a rest (Some x) is behind ordered =
      AllPairs-cons R x rest
      (λ k d below. let y = slice_index_or rest k d in let at = behind y (Contains-get_or rest k d below) in rises a at.0 x y is at.2 at.1)
      ordered

  -- in the order of the numbers
  pub given_in_order : (R : A → A → Type 0) → ((k j : ℕ) (x y : A) → f k ≡ Some x → f j ≡ Some y → k < j → R x y)
      → (a n : ℕ) → AllPairs R (filter_map f (range_with_len a n))
  given_in_order R rises a zero = λ i j d before below. absurd (omega (arith, below))
  given_in_order R rises a (suc n) = first_in_order R rises a (filter_map f (range_with_len (a + 1) n)) (f a) refl
      (λ x has. let at = given_by (a + 1) n x has in let low = at.1 in (at.0, omega (arith, low), at.3))
      (given_in_order R rises (a + 1) n)

  -- as many as there are numbers of which it gives something
  length_one_more : (o : Option A) (xs : List A) → length (cons_option o xs) ≡ cond (is_some o) 1 0 + length xs
  length_one_more None xs = omega arith
  length_one_more (Some x) xs = omega arith

  pub given_counted : (test : ℕ → Bool) → ((k : ℕ) → is_some (f k) ≡ test k) → (a n : ℕ)
      → length (filter_map f (range_with_len a n)) ≡ count_by test (range_with_len a n)
  given_counted test tells a zero = refl
  given_counted test tells a (suc n) =
      let rest = range_with_len (a + 1) n in
      let here = ap {B = ℕ} (λ b. cond b 1 0) (tells a) in
      omega (arith, length_one_more (f a) (filter_map f rest), sum_by-cons (λ k. cond (test k) 1 0) a rest, here, given_counted test tells (a + 1) n)

  pub given_few : (a n : ℕ) → length (filter_map f (range_with_len a n)) ≤ n
  given_few a n = omega (arith, given_counted (λ k. is_some (f k)) (λ k. refl) a n, count_le (λ k. is_some (f k)) a n)
