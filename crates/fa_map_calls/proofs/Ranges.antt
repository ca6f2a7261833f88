-- What is found and counted among numbers that follow each other.
use Rattle.std.proofs.Common.{◌≡◌, ℕ, ◌+◌, ◌<◌, ◌≤◌, Bool, true, false, Some, None, ap, cond, refl, sym, ◌∙◌, suc, zero, inl, inr}
use Rattle.std.proofs.Common.{arith}
use Rattle.std.proofs.lemmas.Bool.{cases_Bool, cases_eq, cases_lt, false≢true}
use Rattle.std.proofs.lemmas.Option.{none-some, same_Some}
use Rattle.std.proofs.lemmas.List.Sums.{sum_by-cons}
use Rattle.std.specs.List.{find, range_with_len, count_by}
use Rattle.std.specs.Prelude.{is_some}

first_is : (test : ℕ → Bool) (a i : ℕ) → a ≤ i → ((k : ℕ) → a ≤ k → k < i → test k ≡ false) → test a ≡ true → i ≡ a
first_is test a i low fails here =
    elim (cases_lt a i) [
      | inl past ↦ absurd (false≢true (sym (fails a (omega arith) past) ∙ here))
      | inr on ↦ omega arith
    ]

beyond : (test : ℕ → Bool) (a i : ℕ) → a ≤ i → test i ≡ true → test a ≡ false → a < i
beyond test a i low passes later =
    elim (cases_lt a i) [
      | inl past ↦ past
      | inr on ↦
          let is : i ≡ a = omega arith in
          absurd (false≢true (sym later ∙ ap test (sym is) ∙ passes))
    ]

pub find_none : (test : ℕ → Bool) (a n : ℕ) → ((k : ℕ) → a ≤ k → k < a + n → test k ≡ false) → find test (range_with_len a n) ≡ None
find_none test a zero fails = refl
find_none test a (suc n) fails =
    ap (λ (b : Bool). cond b (Some a) (find test (range_with_len (a + 1) n))) (fails a (omega arith) (omega arith))
    ∙ find_none test (a + 1) n (λ k low high. fails k (omega arith) (omega arith))

-- what passes is found, or something before it
pub found_some : (test : ℕ → Bool) (a n i : ℕ) → a ≤ i → i < a + n → test i ≡ true → is_some (find test (range_with_len a n)) ≡ true
found_some test a zero i low high passes = absurd (omega arith)
found_some test a (suc n) i low high passes =
    elim (cases_Bool (test a)) [
      | inl here ↦ ap (λ (b : Bool). is_some (cond b (Some a) (find test (range_with_len (a + 1) n)))) here
      | inr later ↦
          let past : a < i = beyond test a i low passes later in
          ap (λ (b : Bool). is_some (cond b (Some a) (find test (range_with_len (a + 1) n)))) later
          ∙ found_some test (a + 1) n i (omega arith) (omega arith) passes
    ]

pub find_some : (test : ℕ → Bool) (a n i : ℕ) → a ≤ i → i < a + n → test i ≡ true → ((k : ℕ) → a ≤ k → k < i → test k ≡ false)
    → find test (range_with_len a n) ≡ Some i
find_some test a zero i low high passes fails = absurd (omega arith)
find_some test a (suc n) i low high passes fails =
    elim (cases_Bool (test a)) [
      | inl here ↦ ap (λ (b : Bool). cond b (Some a) (find test (range_with_len (a + 1) n))) here ∙ ap Some (sym (first_is test a i low fails here))
      | inr later ↦
          let past : a < i = beyond test a i low passes later in
          ap (λ (b : Bool). cond b (Some a) (find test (range_with_len (a + 1) n))) later
          ∙ find_some test (a + 1) n i (omega arith) (omega arith) passes (λ k from below. fails k (omega arith) below)
    ]

pub find_agree : (f g : ℕ → Bool) (a n : ℕ) → ((k : ℕ) → a ≤ k → k < a + n → f k ≡ g k) → find f (range_with_len a n) ≡ find g (range_with_len a n)
find_agree f g a zero agree = refl
find_agree f g a (suc n) agree =
    let here : f a ≡ g a = agree a (omega arith) (omega arith) in
    let rest = find_agree f g (a + 1) n (λ k low high. agree k (omega arith) (omega arith)) in
    (λ i. cond (here i) (Some a) (rest i))

pub count_cons : (f : ℕ → Bool) (a n : ℕ) → count_by f (range_with_len a (suc n)) ≡ cond (f a) 1 0 + count_by f (range_with_len (a + 1) n)
count_cons f a n = sum_by-cons (λ x. cond (f x) 1 0) a (range_with_len (a + 1) n)

pub count_agree : (f g : ℕ → Bool) (a n : ℕ) → ((k : ℕ) → a ≤ k → k < a + n → f k ≡ g k) → count_by f (range_with_len a n) ≡ count_by g (range_with_len a n)
count_agree f g a zero agree = refl
count_agree f g a (suc n) agree =
    let here : f a ≡ g a = agree a (omega arith) (omega arith) in
    let rest = count_agree f g (a + 1) n (λ k low high. agree k (omega arith) (omega arith)) in
    count_cons f a n ∙ (λ i. cond (here i) 1 0 + rest i) ∙ sym (count_cons g a n)

abbrev pub bit : Bool → ℕ
bit b = cond b 1 0

-- numbers of which none counts are passed over
pub count_past : (f : ℕ → Bool) (a n m : ℕ) → ((k : ℕ) → a ≤ k → k < a + n → f k ≡ false)
    → count_by f (range_with_len a (n + m)) ≡ count_by f (range_with_len (a + n) m)
count_past f a zero m fails =
    let same : a ≡ a + 0 = omega arith in
    let as_many : zero + m ≡ m = omega arith in
    (λ i. count_by f (range_with_len (same i) (as_many i)))
count_past f a (suc n) m fails =
    let longer : suc n + m ≡ suc (n + m) = omega arith in
    let same : a + 1 + n ≡ a + suc n = omega arith in
    let none = ap bit (fails a (omega arith) (omega arith)) in
    let rest = count_past f (a + 1) n m (λ k low high. fails k (omega arith) (omega arith)) in
    let from = ap (λ (k : ℕ). count_by f (range_with_len k m)) same in
    ap (λ (k : ℕ). count_by f (range_with_len a k)) longer ∙ omega (arith, count_cons f a (n + m), none, rest, from)

-- the same numbers, counted from elsewhere
pub count_shift : (f g : ℕ → Bool) (a b n : ℕ) → ((k : ℕ) → k < n → f (a + k) ≡ g (b + k)) → count_by f (range_with_len a n) ≡ count_by g (range_with_len b n)
count_shift f g a b zero agree = refl
count_shift f g a b (suc n) agree =
    let here : f a ≡ g b = ap f (omega arith) ∙ agree 0 (omega arith) ∙ ap g (omega arith) in
    let rest = count_shift f g (a + 1) (b + 1) n (λ k below. ap f (omega arith) ∙ agree (k + 1) (omega arith) ∙ ap g (omega arith)) in
    count_cons f a n ∙ (λ i. cond (here i) 1 0 + rest i) ∙ sym (count_cons g b n)

pub count_more : (f : ℕ → Bool) (a n : ℕ) → count_by f (range_with_len a (n + 1)) ≡ count_by f (range_with_len a n) + cond (f (a + n)) 1 0
count_more f a zero = let same : a ≡ a + 0 = omega arith in ap (λ (k : ℕ). 0 + bit (f k)) same
count_more f a (suc n) =
    let same : a + 1 + n ≡ a + suc n = omega arith in
    let e = ap (λ (k : ℕ). bit (f k)) same in
    let rest = count_more f (a + 1) n in
    let longer : suc n + 1 ≡ suc (n + 1) = omega arith in
    ap (λ (k : ℕ). count_by f (range_with_len a k)) longer ∙ count_cons f a (n + 1) ∙ omega (arith, count_cons f a n, e, rest)

pub count_le : (f : ℕ → Bool) (a n : ℕ) → count_by f (range_with_len a n) ≤ n
count_le f a zero = omega arith
count_le f a (suc n) = omega (arith, count_cons f a n, at_most (f a), count_le f (a + 1) n)
  where
    at_most : (b : Bool) → cond b 1 0 ≤ 1
    at_most true = omega arith
    at_most false = omega arith

-- what is found is one of the numbers
pub find_below : (test : ℕ → Bool) (a n i : ℕ) → find test (range_with_len a n) ≡ Some i → i < a + n
find_below test a zero i e = absurd (none-some i e)
find_below test a (suc n) i e =
    elim (cases_Bool (test a)) [
      | inl here ↦
          let is : a ≡ i = same_Some a i (sym (ap (λ (b : Bool). cond b (Some a) (find test (range_with_len (a + 1) n))) here) ∙ e) in
          omega arith
      | inr later ↦
          let rest = find_below test (a + 1) n i (sym (ap (λ (b : Bool). cond b (Some a) (find test (range_with_len (a + 1) n))) later) ∙ e) in
          omega (arith, rest)
    ]

-- tests that differ at one number alone
pub count_changed : (f g : ℕ → Bool) (a n i : ℕ) → a ≤ i → i < a + n → ((k : ℕ) → a ≤ k → k < a + n → (k ≡ i → ⊥) → f k ≡ g k)
    → count_by f (range_with_len a n) + bit (g i) ≡ count_by g (range_with_len a n) + bit (f i)
count_changed f g a zero i low high agree = absurd (omega arith)
count_changed f g a (suc n) i low high agree =
    elim (cases_eq a i) [
      | inl here ↦
          let rest = count_agree f g (a + 1) n (λ k from to. agree k (omega arith) (omega arith) (λ is. omega arith)) in
          let mine = ap (λ (k : ℕ). bit (f k)) here in
          let yours = ap (λ (k : ℕ). bit (g k)) here in
          omega (arith, count_cons f a n, count_cons g a n, rest, mine, yours)
      | inr apart ↦
          let same = ap bit (agree a (omega arith) (omega arith) apart) in
          let rest = count_changed f g (a + 1) n i (omega arith) (omega arith) (λ k from to off. agree k (omega arith) (omega arith) off) in
          omega (arith, count_cons f a n, count_cons g a n, rest, same)
    ]

-- one that passes counts
pub count_some : (f : ℕ → Bool) (a n i : ℕ) → a ≤ i → i < a + n → f i ≡ true → 0 < count_by f (range_with_len a n)
count_some f a zero i low high passes = absurd (omega arith)
count_some f a (suc n) i low high passes =
    elim (cases_eq a i) [
      | inl here ↦ let one = ap bit (ap f here ∙ passes) in omega (arith, count_cons f a n, one)
      | inr apart ↦ let rest = count_some f (a + 1) n i (omega arith) (omega arith) passes in omega (arith, count_cons f a n, rest)
    ]

-- where some count, one is found
pub find_counted : (f : ℕ → Bool) (a n : ℕ) → find f (range_with_len a n) ≡ None → count_by f (range_with_len a n) ≡ 0
find_counted f a zero e = refl
find_counted f a (suc n) e =
    elim (cases_Bool (f a)) [
      | inl here ↦ absurd (none-some a (sym e ∙ ap (λ (b : Bool). cond b (Some a) (find f (range_with_len (a + 1) n))) here))
      | inr later ↦
          let rest = find_counted f (a + 1) n (sym (ap (λ (b : Bool). cond b (Some a) (find f (range_with_len (a + 1) n))) later) ∙ e) in
          let none = ap bit later in
          omega (arith, count_cons f a n, rest, none)
    ]

-- a test that answers the same throughout
pub count_same : (f : ℕ → Bool) (b : Bool) (a n : ℕ) → ((k : ℕ) → f k ≡ b) → count_by f (range_with_len a n) ≡ cond b n 0
count_same f b a n all = count_agree f (λ _. b) a n (λ k low high. all k) ∙ even b a n
  where
    even : (b : Bool) (a n : ℕ) → count_by (λ _. b) (range_with_len a n) ≡ cond b n 0
    even true a zero = refl
    even true a (suc n) = let rest = even true (a + 1) n in omega (arith, count_cons (λ _. true) a n, rest)
    even false a zero = refl
    even false a (suc n) = let rest = even false (a + 1) n in omega (arith, count_cons (λ _. false) a n, rest)

-- where none count, each fails
pub count_none : (f : ℕ → Bool) (a n i : ℕ) → a ≤ i → i < a + n → count_by f (range_with_len a n) ≡ 0 → f i ≡ false
count_none f a n i low high none =
    elim (cases_Bool (f i)) [
      | inr fails ↦ fails
      | inl passes ↦ let some = count_some f a n i low high passes in absurd (omega (arith, some, none))
    ]

-- what is found is the first of the numbers that passes
pub find_is : (test : ℕ → Bool) (a n i : ℕ) → find test (range_with_len a n) ≡ Some i
    → (a ≤ i) × (i < a + n) × (test i ≡ true) × ((k : ℕ) → a ≤ k → k < i → test k ≡ false)
find_is test a zero i e = absurd (none-some i e)
find_is test a (suc n) i e =
    elim (cases_Bool (test a)) [
      | inl here ↦
          let is : a ≡ i = same_Some a i (sym (ap (λ (b : Bool). cond b (Some a) (find test (range_with_len (a + 1) n))) here) ∙ e) in
          (omega arith, omega arith, ap test (sym is) ∙ here, λ k low high. absurd (omega (arith, low, high, is)))
      | inr later ↦
          let rest = find_is test (a + 1) n i (sym (ap (λ (b : Bool). cond b (Some a) (find test (range_with_len (a + 1) n))) later) ∙ e) in (
            omega (arith, rest.0),
            omega (arith, rest.1),
            rest.2,
            λ k low high. elim (cases_eq k a) [
              | inl same ↦ ap test same ∙ later
              | inr apart ↦ rest.3 k (omega (arith, low, apart)) high
            ],
          )
    ]

-- where none is found, each fails
pub none_is : (test : ℕ → Bool) (a n i : ℕ) → find test (range_with_len a n) ≡ None → a ≤ i → i < a + n → test i ≡ false
none_is test a n i e low high =
    elim (cases_Bool (test i)) [
      | inr fails ↦ fails
      | inl passes ↦ absurd (false≢true (ap is_some (sym e) ∙ found_some test a n i low high passes))
    ]
