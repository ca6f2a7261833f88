-- The mask of the live dies names exactly these.
use Rattle.fa_crash.specs.Headers.{names}
use Rattle.fa_machine.specs.Maps.{below}
use Rattle.fa_machine.specs.State.{MapState, is_live}
use Rattle.fa_machine.specs.Taking.{mask_of}
use Rattle.std.proofs.Common.{Bool, ap, arith, cond, false, inl, inr, refl, subst, suc, sym, true, zero, ℕ, ◌*◌, ◌+◌, ◌-◌, ◌<◌, ◌∙◌, ◌∷◌, ◌≡◌, ◌^◌}
use Rattle.std.proofs.lemmas.Bool.{cases_Bool, cases_eq, cases_lt, true≢false}
use Rattle.std.proofs.lemmas.Nat.{pow_pos}
use Rattle.std.proofs.lemmas.Nat.Bits.{bit_at-pow_same, bit_at_above, bit_at_cat_high, bit_at_cat_low}
use Rattle.std.proofs.Math.Nat.{two-pow-succ}
use Rattle.std.specs.Int.{bit_at}
use Rattle.std.specs.List.{fold, range_with_len}
use Rattle.std.specs.Prelude.{filter, if◌then◌else◌, ◌==◌}

-- the bit of a die
abbrev bit : (ℕ → Bool) → ℕ → ℕ
bit live die = if live die then 2 ^ die else 0

-- the mask of the dies below one
abbrev mask_below : (ℕ → Bool) → ℕ → ℕ
mask_below live dies = fold (λ mask die. mask + 2 ^ die) 0 (filter live (below dies))

module _ (live : ℕ → Bool) where
  abbrev summed : ℕ → ℕ → ℕ → ℕ
  summed mask a n = fold (λ mask die. mask + 2 ^ die) mask (filter live (range_with_len a n))

  first : (mask a n : ℕ) → summed mask a (suc n) ≡ summed (mask + bit live a) (a + 1) n
  first mask a n = go (live a)
    where
      go : (b : Bool) → fold (λ mask die. mask + 2 ^ die) mask
          (cond b (a ∷ filter live (range_with_len (a + 1) n)) (filter live (range_with_len (a + 1) n)))
          ≡ summed (mask + (if b then 2 ^ a else 0)) (a + 1) n
      go true = refl
      go false = let same : mask ≡ mask + 0 = omega arith in ap (λ m. summed m (a + 1) n) same

  more : (mask a n : ℕ) → summed mask a (suc n) ≡ summed mask a n + bit live (a + n)
  more mask a zero = let same : a ≡ a + 0 = omega arith in first mask a 0 ∙ ap (λ k. mask + bit live k) same
  more mask a (suc n) =
      let same : a + 1 + n ≡ a + suc n = omega arith in
      first mask a (suc n) ∙ more (mask + bit live a) (a + 1) n
      ∙ (λ i. sym (first mask a n) i + bit live (same i))

  -- one die more
  mask_more : (dies : ℕ) → mask_below live (suc dies) ≡ mask_below live dies + bit live dies
  mask_more dies = let same : 0 + dies ≡ dies = omega arith in more 0 0 dies ∙ ap (λ k. mask_below live dies + bit live k) same

  mask_low : (dies : ℕ) → mask_below live dies < 2 ^ dies
  mask_low zero = omega arith
  mask_low (suc dies) = subst (λ n. n < 2 ^ suc dies) (sym (mask_more dies)) (go (live dies) (mask_low dies))
    where
      go : (b : Bool) → mask_below live dies < 2 ^ dies → mask_below live dies + (if b then 2 ^ dies else 0) < 2 ^ suc dies
      go true low = let twice = two-pow-succ dies in omega (arith, twice, low)
      go false low = let twice = two-pow-succ dies in let some = pow_pos dies in omega (arith, twice, low, some)

  -- a lower bit is not changed by one die more
  bit_kept : (b : Bool) (mask dies die : ℕ) → die < dies → bit_at (mask + (if b then 2 ^ dies else 0)) die ≡ bit_at mask die
  bit_kept true mask dies die low =
      ap (λ n. bit_at n die) (let same : mask + 2 ^ dies ≡ 1 * 2 ^ dies + mask = omega arith in same) ∙ bit_at_cat_low 1 dies mask die low
  bit_kept false mask dies die low = ap (λ n. bit_at n die) (let same : mask + 0 ≡ mask = omega arith in same)

  bit_added : (b : Bool) (mask dies : ℕ) → b ≡ true → mask < 2 ^ dies → bit_at (mask + (if b then 2 ^ dies else 0)) dies ≡ 1
  bit_added true mask dies is low =
      ap (λ n. bit_at n dies) (let same : mask + 2 ^ dies ≡ 1 * 2 ^ dies + mask = omega arith in same)
      ∙ bit_at_cat_high 1 dies mask dies low (omega arith) ∙ ap (bit_at 1) (let none : dies - dies ≡ 0 = omega arith in none)
      ∙ bit_at-pow_same 0
  bit_added false mask dies is low = absurd (true≢false (sym is))

  mask_bit : (dies die : ℕ) → die < dies → live die ≡ true → bit_at (mask_below live dies) die ≡ 1
  mask_bit zero die inside is = absurd (omega arith)
  mask_bit (suc dies) die inside is =
      ap (λ n. bit_at n die) (mask_more dies)
      ∙ elim (cases_eq die dies) [
        | inl same ↦ subst (λ d. bit_at (mask_below live dies + bit live dies) d ≡ 1) (sym same)
            (bit_added (live dies) (mask_below live dies) dies (ap live (sym same) ∙ is) (mask_low dies))
        | inr apart ↦ bit_kept (live dies) (mask_below live dies) dies die (omega (arith, apart, inside))
            ∙ mask_bit dies die (omega (arith, apart, inside)) is
      ]

  mask_clear : (dies die : ℕ) → live die ≡ false → bit_at (mask_below live dies) die ≡ 0
  mask_clear zero die out = bit_at_above (mask_below live 0) 0 die (mask_low 0) (omega arith)
  mask_clear (suc dies) die out =
      elim (cases_lt die (suc dies)) [
        | inr past ↦ bit_at_above (mask_below live (suc dies)) (suc dies) die (mask_low (suc dies)) past
        | inl low ↦ ap (λ n. bit_at n die) (mask_more dies)
            ∙ elim (cases_eq die dies) [
              | inl same ↦
                  let none : bit live dies ≡ 0 = ap {B = ℕ} (λ b. if b then 2 ^ dies else 0) (ap live (sym same) ∙ out) in
                  let all : mask_below live dies + bit live dies ≡ mask_below live dies = omega (arith, none) in
                  ap (λ n. bit_at n die) all ∙ bit_at_above (mask_below live dies) dies die (mask_low dies) (omega (arith, same))
              | inr apart ↦ bit_kept (live dies) (mask_below live dies) dies die (omega (arith, apart, low)) ∙ mask_clear dies die out
            ]
      ]

-- of the array's dies
pub mask_names : (m : MapState) → ((die : ℕ) → is_live m die ≡ true → die < m.geometry.dies) → (die : ℕ)
    → names (mask_of m) die ≡ is_live m die
mask_names m inside die =
    elim (cases_Bool (is_live m die)) [
      | inl alive ↦ ap (λ b. b == 1) (mask_bit (is_live m) m.geometry.dies die (inside die alive) alive) ∙ sym alive
      | inr out ↦ ap (λ b. b == 1) (mask_clear (is_live m) m.geometry.dies die out) ∙ sym out
    ]
