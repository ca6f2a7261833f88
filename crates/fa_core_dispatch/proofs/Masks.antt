-- The mask of live dies, as they are looked at one after the other.
use Rattle.fa_machine.specs.Maps.{below}
use Rattle.std.proofs.Common.{Bool, add-one, ap, arith, cond, false, refl, suc, sym, true, zero, ℕ, ◌+◌, ◌<◌, ◌≤◌, ◌∙◌, ◌∷◌, ◌≡◌, ◌^◌}
use Rattle.std.proofs.lemmas.Nat.{pow_pos}
use Rattle.std.proofs.Math.Nat.{pow-le-pow_right, two-pow-succ}
use Rattle.std.specs.List.{fold, range_with_len}
use Rattle.std.specs.Prelude.{filter, if◌then◌else◌}

-- the bit of a die
abbrev pub bit : (ℕ → Bool) → ℕ → ℕ
bit live die = if live die then 2 ^ die else 0

-- the mask of the dies below one
abbrev pub mask_below : (ℕ → Bool) → ℕ → ℕ
mask_below live dies = fold (λ mask die. mask + 2 ^ die) 0 (filter live (below dies))

module _ (live : ℕ → Bool) where
  abbrev summed : ℕ → ℕ → ℕ → ℕ
  summed mask a n = fold (λ mask die. mask + 2 ^ die) mask (filter live (range_with_len a n))

  first : (mask a n : ℕ) → summed mask a (suc n) ≡ summed (mask + bit live a) (a + 1) n
  first mask a n = go (live a)
    where
      rest : ℕ → ℕ
      rest m = summed m (a + 1) n

      go : (b : Bool) → fold (λ mask die. mask + 2 ^ die) mask
          (cond b (a ∷ filter live (range_with_len (a + 1) n)) (filter live (range_with_len (a + 1) n)))
          ≡ summed (mask + (if b then 2 ^ a else 0)) (a + 1) n
      go true = refl
      go false = let same : mask ≡ mask + 0 = omega arith in ap (λ m. summed m (a + 1) n) same

  more : (mask a n : ℕ) → summed mask a (suc n) ≡ summed mask a n + bit live (a + n)
  more mask a zero = let same : a ≡ a + 0 = omega arith in first mask a 0 ∙ ap (λ k. mask + bit live k) same
  more mask a (suc n) =
      let same : a + 1 + n ≡ a + suc n = omega arith in
      first mask a (suc n) ∙ more (mask + bit live a) (a + 1) n
      ∙ (λ i. sym (first mask a n) i + bit live (same i))

  -- one die more
  pub mask_more : (die : ℕ) → mask_below live (die + 1) ≡ mask_below live die + bit live die
  mask_more die =
      let same : 0 + die ≡ die = omega arith in
      ap (mask_below live) (add-one die) ∙ more 0 0 die ∙ ap (λ k. mask_below live die + bit live k) same

-- it stays below the bit of the next die
pub still_below : (live : ℕ → Bool) (mask die : ℕ) → mask < 2 ^ die → mask + bit live die < 2 ^ (die + 1)
still_below live mask die low = go (live die)
  where
    go : (b : Bool) → mask + (if b then 2 ^ die else 0) < 2 ^ (die + 1)
    go true = let twice = ap (λ n. 2 ^ n) (add-one die) ∙ two-pow-succ die in omega (arith, twice, low)
    go false =
        let twice = ap (λ n. 2 ^ n) (add-one die) ∙ two-pow-succ die in let some = pow_pos die in omega (arith, twice, low, some)

pub fits_word : (live : ℕ → Bool) (mask die dies : ℕ) → mask < 2 ^ die → die < dies → dies ≤ 64 → mask + bit live die < 2 ^ 64
fits_word live mask die dies low inside few =
    let next = still_below live mask die low in
    let whole : 2 ^ (die + 1) ≤ 2 ^ 64 = pow-le-pow_right {n = 2} (omega arith) {i = die + 1} {j = 64} (omega (arith, inside, few)) in
    omega (arith, next, whole)
