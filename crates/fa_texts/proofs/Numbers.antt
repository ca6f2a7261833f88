-- Rising numbers, and the words that write them.
use Rattle.std.proofs.Common.{◌≡◌, ℕ, ◌+◌, ◌-◌, ◌<◌, ◌≤◌, ◌^◌, inl, inr, List, [], ◌∷◌, ◌++◌, length, map, get_or, All, refl, sym, ap, ◌∙◌, arith, length-append}
use Rattle.std.specs.Fmt.{decimal}
use Rattle.std.specs.List.Sorted.{IsStrictlyIncreasing}
use Rattle.std.proofs.lemmas.Bool.{cases_lt}
use Rattle.std.proofs.lemmas.Fmt.{decimal_injective}
use Rattle.std.proofs.lemmas.List.Elements.{All-head, All-tail}
use Rattle.std.proofs.Math.ListN.{get_or-append}
use Rattle.std.proofs.Math.Seq.{get_or-append_seam}

-- one number more at the end, above the last
pub rises_more : (xs : List ℕ) (x : ℕ) → IsStrictlyIncreasing xs → (0 < length xs → get_or xs (length xs - 1) 0 < x) → IsStrictlyIncreasing (xs ++ x ∷ [])
rises_more xs x rise last = λ k below.
    let size = length-append xs (x ∷ []) in
    elim (cases_lt (k + 1) (length xs)) [
      | inl more ↦ (let low = get_or-append xs (x ∷ []) 0 k (omega (arith, more)) in
          let high = get_or-append xs (x ∷ []) 0 (k + 1) more in
          let up = rise k more in
          omega (arith, low, high, up))
      | inr end ↦ (let at : k + 1 ≡ length xs = omega (arith, end, below, size) in
          let low = get_or-append xs (x ∷ []) 0 k (omega (arith, at)) in
          let high = ap (λ n. get_or (xs ++ x ∷ []) n 0) at ∙ get_or-append_seam xs x [] 0 in
          let here : k ≡ length xs - 1 = omega (arith, at) in
          let same = ap (λ n. get_or xs n 0) here in
          let up = last (omega (arith, at)) in
          omega (arith, low, high, up, same))
    ]

-- the last of these numbers is below the next of more that rise
pub rises_past : (xs : List ℕ) (z : ℕ) (zs : List ℕ) → IsStrictlyIncreasing (xs ++ z ∷ zs) → 0 < length xs → get_or xs (length xs - 1) 0 < z
rises_past xs z zs rise some =
    let size = length-append xs (z ∷ zs) in
    let at : length xs - 1 + 1 ≡ length xs = omega (arith, some) in
    let up = rise (length xs - 1) (omega (arith, some, size)) in
    let low = get_or-append xs (z ∷ zs) 0 (length xs - 1) (omega (arith, some)) in
    let high = ap (λ n. get_or (xs ++ z ∷ zs) n 0) at ∙ get_or-append_seam xs z zs 0 in
    omega (arith, up, low, high)

-- What stands behind the words of these numbers, where all are the words of some numbers.
pub numbers_behind : (max : ℕ) (xs ys : List ℕ) (rest : List (List ℕ)) → max < 2 ^ 32 → All (λ n. n ≤ max) xs → All (λ n. n ≤ max) ys
    → map decimal xs ++ rest ≡ map decimal ys → (zs : List ℕ) × (ys ≡ xs ++ zs) × (rest ≡ map decimal zs) × All (λ n. n ≤ max) zs
numbers_behind max [] ys rest small few few' is = (ys, refl, is, few')
numbers_behind max (x ∷ xs) [] rest small few few' is = absurd (let no = ap (λ l. length l) is in omega (arith, no))
numbers_behind max (x ∷ xs) (y ∷ ys) rest small few few' is =
    let head : decimal x ≡ decimal y = cc in
    let tail : map decimal xs ++ rest ≡ map decimal ys = cc in
    let low = All-head (λ n. n ≤ max) x xs few in
    let low' = All-head (λ n. n ≤ max) y ys few' in
    let same = decimal_injective x y (omega (arith, low, small)) (omega (arith, low', small)) head in
    let more = numbers_behind max xs ys rest small (All-tail (λ n. n ≤ max) x xs few) (All-tail (λ n. n ≤ max) y ys few') tail in
    (more.0, ap (λ v. v ∷ ys) (sym same) ∙ ap (λ v. x ∷ v) more.1, more.2, more.3)

-- The number that the next word writes.
pub number_next : (max : ℕ) (xs ys : List ℕ) (word : List ℕ) (rest : List (List ℕ)) → max < 2 ^ 32 → All (λ n. n ≤ max) xs → All (λ n. n ≤ max) ys
    → map decimal xs ++ word ∷ rest ≡ map decimal ys → (z : ℕ) × (zs : List ℕ) × (ys ≡ xs ++ z ∷ zs) × (word ≡ decimal z) × (z ≤ max)
number_next max xs ys word rest small few few' is = by (numbers_behind max xs ys (word ∷ rest) small few few' is)
  where
    by : (zs : List ℕ) × (ys ≡ xs ++ zs) × (word ∷ rest ≡ map decimal zs) × All (λ n. n ≤ max) zs → (z : ℕ) × (zs : List ℕ) × (ys ≡ xs ++ z ∷ zs) × (word ≡ decimal z) × (z ≤ max)
    by ([], front, back, low) = absurd (let no = ap (λ l. length l) back in omega (arith, no))
    by (z ∷ zs, front, back, low) = (z, zs, front, cc, All-head (λ n. n ≤ max) z zs low)
