-- Numbers in a row, and what a function gives of them.
use Rattle.std.proofs.Common.{◌≡◌, ℕ, zero, suc, ◌+◌, ◌<◌, ◌≤◌, Bool, true, false, ◌||◌, ◌∷◌, map, cond, refl, ap, sym, ◌∙◌, arith}
use Rattle.std.proofs.Math.Bool.{or-true}
use Rattle.std.specs.Prelude.{Some, None, find}
use Rattle.std.specs.List.{list_any, position_from, range_with_len}

module _ {X : Type 0} (f : ℕ → X) where
  -- two functions that agree on the numbers
  pub mapped_alike : (g : ℕ → X) (a n : ℕ) → ((k : ℕ) → a ≤ k → k < a + n → f k ≡ g k) → map f (range_with_len a n) ≡ map g (range_with_len a n)
  mapped_alike g a zero alike = refl
  mapped_alike g a (suc n) alike =
      ap (λ x. x ∷ map f (range_with_len (a + 1) n)) (alike a (omega arith) (omega arith))
      ∙ ap (λ l. g a ∷ l) (mapped_alike g (a + 1) n (λ k from below. alike k (omega (arith, from)) (omega (arith, below))))

module _ {X : Type 0} (f : ℕ → X) (p : X → Bool) where
  pub none_found : (a n : ℕ) → ((k : ℕ) → a ≤ k → k < a + n → p (f k) ≡ false) → find p (map f (range_with_len a n)) ≡ None
  none_found a zero fails = refl
  none_found a (suc n) fails =
      ap (λ (b : Bool). cond b (Some (f a)) (find p (map f (range_with_len (a + 1) n)))) (fails a (omega arith) (omega arith))
      ∙ none_found (a + 1) n (λ k from below. fails k (omega (arith, from)) (omega (arith, below)))

  pub one_found : (a n i : ℕ) → i < n → ((j : ℕ) → j < i → p (f (a + j)) ≡ false) → p (f (a + i)) ≡ true
      → find p (map f (range_with_len a n)) ≡ Some (f (a + i))
  one_found a zero i below fails passes = absurd (omega (arith, below))
  one_found a (suc n) zero below fails passes =
      let same : a ≡ a + 0 = omega arith in
      ap (λ (b : Bool). cond b (Some (f a)) (find p (map f (range_with_len (a + 1) n)))) (ap (λ (k : ℕ). p (f k)) same ∙ passes)
      ∙ ap (λ (k : ℕ). Some (f k)) same
  one_found a (suc n) (suc i) below fails passes =
      let start : a ≡ a + 0 = omega arith in
      let next : a + suc i ≡ a + 1 + i = omega arith in
      ap (λ (b : Bool). cond b (Some (f a)) (find p (map f (range_with_len (a + 1) n)))) (ap (λ (k : ℕ). p (f k)) start ∙ fails 0 (omega arith))
      ∙ one_found (a + 1) n i (omega (arith, below))
      (λ j less. let same : a + 1 + j ≡ a + suc j = omega arith in ap (λ (k : ℕ). p (f k)) same ∙ fails (suc j) (omega (arith, less)))
      (ap (λ (k : ℕ). p (f k)) (sym next) ∙ passes)
      ∙ ap (λ (k : ℕ). Some (f k)) (sym next)

  pub none_passes : (a n : ℕ) → ((k : ℕ) → a ≤ k → k < a + n → p (f k) ≡ false) → list_any p (map f (range_with_len a n)) ≡ false
  none_passes a zero fails = refl
  none_passes a (suc n) fails =
      ap (λ (b : Bool). b || list_any p (map f (range_with_len (a + 1) n))) (fails a (omega arith) (omega arith))
      ∙ none_passes (a + 1) n (λ k from below. fails k (omega (arith, from)) (omega (arith, below)))

  pub one_passes : (a n i : ℕ) → i < n → p (f (a + i)) ≡ true → list_any p (map f (range_with_len a n)) ≡ true
  one_passes a zero i below passes = absurd (omega (arith, below))
  one_passes a (suc n) zero below passes =
      let same : a ≡ a + 0 = omega arith in
      ap (λ (b : Bool). b || list_any p (map f (range_with_len (a + 1) n))) (ap (λ (k : ℕ). p (f k)) same ∙ passes)
  one_passes a (suc n) (suc i) below passes =
      let next : a + suc i ≡ a + 1 + i = omega arith in
      ap (λ (b : Bool). p (f a) || b) (one_passes (a + 1) n i (omega (arith, below)) (ap (λ (k : ℕ). p (f k)) (sym next) ∙ passes))
      ∙ or-true (p (f a))

  pub none_placed : (a n i : ℕ) → ((k : ℕ) → p (f k) ≡ false) → position_from p i (map f (range_with_len a n)) ≡ None
  none_placed a zero i fails = refl
  none_placed a (suc n) i fails =
      ap (λ (b : Bool). cond b (Some i) (position_from p (i + 1) (map f (range_with_len (a + 1) n)))) (fails a) ∙ none_placed (a + 1) n (i + 1) fails
