-- The least member of a set from a number on.
use Rattle.std.proofs.Common.{◌≡◌, ℕ, ◌+◌, ◌<◌, ◌≤◌, Bool, false, Some, None, cond, suc, zero, inl, inr, ap, sym, ◌∙◌, arith}
use Rattle.std.proofs.lemmas.Bool.{cases_Bool, cases_eq}
use Rattle.std.proofs.lemmas.Option.{none-some, same_Some}
use Rattle.std.specs.List.{find, range_with_len}

module _ (test : ℕ → Bool) where
  -- what is found is one of the numbers, and none before it passes
  pub found_least : (a n i : ℕ) → find test (range_with_len a n) ≡ Some i
      → (a ≤ i) × (i < a + n) × ((k : ℕ) → a ≤ k → k < i → test k ≡ false)
  found_least a zero i is = absurd (none-some i is)
  found_least a (suc n) i is =
      elim (cases_Bool (test a)) [
        | inl here ↦
            let same = same_Some a i (sym (ap (λ (b : Bool). cond b (Some a) (find test (range_with_len (a + 1) n))) here) ∙ is) in
            (omega (arith, same), omega (arith, same), λ k low high. absurd (omega (arith, same, low, high)))
        | inr later ↦
            let rest = found_least (a + 1) n i
            (sym (ap (λ (b : Bool). cond b (Some a) (find test (range_with_len (a + 1) n))) later) ∙ is) in (
              omega (arith, rest.0),
              omega (arith, rest.1),
              λ k low high. elim (cases_eq k a) [
                | inl same ↦ ap test same ∙ later
                | inr apart ↦ rest.2 k (omega (arith, low, apart)) high
              ],
            )
      ]

  -- where nothing is found none of the numbers passes
  pub found_none : (a n : ℕ) → find test (range_with_len a n) ≡ None → (k : ℕ) → a ≤ k → k < a + n → test k ≡ false
  found_none a zero is k low high = absurd (omega (arith, low, high))
  found_none a (suc n) is k low high =
      elim (cases_Bool (test a)) [
        | inl here ↦
            absurd (none-some a (sym is ∙ ap (λ (b : Bool). cond b (Some a) (find test (range_with_len (a + 1) n))) here))
        | inr later ↦ elim (cases_eq k a) [
          | inl same ↦ ap test same ∙ later
          | inr apart ↦ found_none (a + 1) n
              (sym (ap (λ (b : Bool). cond b (Some a) (find test (range_with_len (a + 1) n))) later) ∙ is) k
              (omega (arith, low, apart)) (omega (arith, high))
        ]
      ]
