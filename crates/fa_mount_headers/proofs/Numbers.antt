-- Numbers in a row.
use Rattle.std.proofs.Common.{◌≡◌, ℕ, suc, ◌+◌, ◌-◌, ◌<◌, List, [], ◌∷◌, ◌++◌, map, ap, sym, ◌∙◌, arith, append_assoc}
use Rattle.std.specs.List.{range_with_len}

-- the numbers from one on begin with it
pub range_more : (d n : ℕ) → d < n → range_with_len d (n - d) ≡ d ∷ range_with_len (d + 1) (n - (d + 1))
range_more d n below = let more : n - d ≡ suc (n - (d + 1)) = omega (arith, below) in ap (λ (k : ℕ). range_with_len d k) more

-- a list that has what f gives of the numbers before d, and then of d
pub mapped_more : {X : Type 0} (f : ℕ → X) (items more whole : List X) (x : X) (d n : ℕ) → d < n → more ≡ items ++ x ∷ [] → x ≡ f d
    → items ++ map f (range_with_len d (n - d)) ≡ whole → more ++ map f (range_with_len (d + 1) (n - (d + 1))) ≡ whole
mapped_more f items more whole x d n below pushed is has =
    let rest = map f (range_with_len (d + 1) (n - (d + 1))) in
    ap (λ l. l ++ rest) pushed
    ∙ append_assoc items (x ∷ []) rest
    ∙ ap (λ v. items ++ v ∷ rest) is
    ∙ ap (λ l. items ++ map f l) (sym (range_more d n below))
    ∙ has
