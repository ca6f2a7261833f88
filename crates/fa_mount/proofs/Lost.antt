-- Whether one of the numbers that follow each other passes.
use Rattle.std.proofs.Common.{ℕ, zero, suc, ◌+◌, ◌<◌, ◌≤◌, ◌≡◌, Bool, true, false, ap, refl, sym, ◌∙◌, arith, inl, inr}
use Rattle.std.proofs.Common.{Option, Some, None, is_some, option_map}
use Rattle.std.proofs.lemmas.Bool.{cases_eq, or_from, or_left, or_right}
use Rattle.std.specs.List.{list_any, range_with_len}

none_from : (test : ℕ → Bool) (a n : ℕ) → ((k : ℕ) → a ≤ k → k < a + n → test k ≡ false) → list_any test (range_with_len a n) ≡ false
none_from test a zero fails = refl
none_from test a (suc n) fails =
    or_from (test a) (list_any test (range_with_len (a + 1) n)) (fails a (omega arith) (omega arith))
    (none_from test (a + 1) n (λ k low high. fails k (omega (arith, low)) (omega (arith, high))))

some_from : (test : ℕ → Bool) (a n i : ℕ) → a ≤ i → i < a + n → test i ≡ true → list_any test (range_with_len a n) ≡ true
some_from test a zero i low high passes = absurd (omega (arith, low, high))
some_from test a (suc n) i low high passes =
    elim (cases_eq i a) [
      | inl same ↦ or_left (test a) (list_any test (range_with_len (a + 1) n)) (ap test (sym same) ∙ passes)
      | inr apart ↦
          or_right (test a) (list_any test (range_with_len (a + 1) n))
          (some_from test (a + 1) n i (omega (arith, low, apart)) (omega (arith, high)) passes)
    ]

pub none_below : (test : ℕ → Bool) (n : ℕ) → ((k : ℕ) → k < n → test k ≡ false) → list_any test (range_with_len 0 n) ≡ false
none_below test n fails = none_from test 0 n (λ k low high. fails k (omega (arith, high)))

pub some_below : (test : ℕ → Bool) (n i : ℕ) → i < n → test i ≡ true → list_any test (range_with_len 0 n) ≡ true
some_below test n i below passes = some_from test 0 n i (omega arith) (omega (arith, below)) passes

pub some_mapped : {A B : Type 0} (f : A → B) (o : Option A) → is_some (option_map f o) ≡ is_some o
some_mapped f None = refl
some_mapped f (Some x) = refl
