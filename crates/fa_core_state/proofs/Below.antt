-- Tests of the first numbers, one after the other.
use Rattle.fa_machine.proofs.Lists.{among-range, any_some}
use Rattle.fa_machine.specs.Maps.{below}
use Rattle.std.proofs.Common.{◌≡◌, ℕ, ◌+◌, ◌<◌, ◌≤◌, zero, suc, Bool, true, false, ap, arith, get_or, refl, ◌∙◌}
use Rattle.std.proofs.lemmas.List.Folds.{list_all_at}
use Rattle.std.proofs.lemmas.List.FromFn.{get_or-range_with_len, length-range_with_len}
use Rattle.std.specs.List.{list_all, list_any, range_with_len}
use Rattle.std.specs.Prelude.{◌&&◌, ◌||◌}

-- numbers that follow each other
fails_in : (test : ℕ → Bool) (a n : ℕ) → ((k : ℕ) → a ≤ k → k < a + n → test k ≡ false) → list_any test (range_with_len a n) ≡ false
fails_in test a zero fails = refl
fails_in test a (suc n) fails =
    ap (λ b. b || list_any test (range_with_len (a + 1) n)) (fails a (omega arith) (omega arith))
    ∙ fails_in test (a + 1) n (λ k low high. fails k (omega arith) (omega arith))

passes_in : (test : ℕ → Bool) (a n : ℕ) → ((k : ℕ) → a ≤ k → k < a + n → test k ≡ true) → list_all test (range_with_len a n) ≡ true
passes_in test a zero passes = refl
passes_in test a (suc n) passes =
    ap (λ b. b && list_all test (range_with_len (a + 1) n)) (passes a (omega arith) (omega arith))
    ∙ passes_in test (a + 1) n (λ k low high. passes k (omega arith) (omega arith))

module _ (test : ℕ → Bool) (n : ℕ) where
  pub any_fails : ((k : ℕ) → k < n → test k ≡ false) → list_any test (below n) ≡ false
  any_fails fails = fails_in test 0 n (λ k low high. fails k (omega arith))

  pub any_passes : (k : ℕ) → k < n → test k ≡ true → list_any test (below n) ≡ true
  any_passes k low passes = any_some test (below n) k (among-range 0 n k (omega arith) (omega arith)) passes

  pub all_pass : ((k : ℕ) → k < n → test k ≡ true) → list_all test (below n) ≡ true
  all_pass passes = passes_in test 0 n (λ k low high. passes k (omega arith))

  pub one_fails : (k : ℕ) → k < n → test k ≡ false → list_all test (below n) ≡ false
  one_fails k low fails =
      let long = length-range_with_len 0 n in
      let here : get_or (below n) k 0 ≡ k = get_or-range_with_len 0 n k 0 low ∙ omega arith in
      list_all_at test (below n) k 0 (omega (arith, long, low)) (ap test here ∙ fails)
