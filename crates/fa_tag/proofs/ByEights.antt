-- Lists that grow by eight.
use Rattle.std.proofs.Common.{◌≡◌, ℕ, ◌+◌, ◌-◌, ◌*◌, ◌≤◌, List, ◌++◌, take, drop, length, ap, arith, ◌∙◌}
use Rattle.std.proofs.Math.Seq.{take-add}
use Rattle.std.proofs.lemmas.Slice.{take-put_mid}
use borrow.Rule.Slice.PartMut.{put_mid}

-- the first eights, with one more
pub eight_more : {X : Type 0} (xs : List X) (i : ℕ)
    → take (8 * (i + 1)) xs ≡ take (8 * i) xs ++ take (8 * i + 8 - 8 * i) (drop (8 * i) xs)
eight_more {X = X} xs i =
    let next : 8 * (i + 1) ≡ 8 * i + 8 = omega arith in
    let eight : 8 ≡ 8 * i + 8 - 8 * i = omega arith in
    ap (λ (n : ℕ). take n xs) next ∙ take-add (8 * i) 8 xs ∙ ap (λ (n : ℕ). take (8 * i) xs ++ take n (drop (8 * i) xs)) eight

-- the same where the eight were written
pub eight_put : {X : Type 0} (xs ys : List X) (i k : ℕ) → length ys ≡ 8 → 8 * i ≤ length xs
    → take (8 * (i + 1)) (put_mid (8 * i) k xs ys) ≡ take (8 * i) xs ++ ys
eight_put xs ys i k size within = take-put_mid (8 * i) k xs ys (8 * (i + 1)) (omega arith) within
