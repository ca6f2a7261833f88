-- Two lists one behind the other, cut again where the second begins.
use Rattle.std.proofs.Common.{◌≡◌, ℕ, ◌-◌, List, ◌++◌, length, take, drop, ap, sym, ◌∙◌, arith, length-append}
use Rattle.std.proofs.lemmas.List.{take_at, drop_at}

-- the front, where the back has n elements
pub front_of : (front back : List ℕ) (n : ℕ) → length back ≡ n → take (length (front ++ back) - n) (front ++ back) ≡ front
front_of front back n is = take_at front back (length (front ++ back) - n) (omega (arith, length-append front back))

-- the back, where it has n elements
pub back_of : (front back : List ℕ) (n : ℕ) → length back ≡ n → drop (length (front ++ back) - n) (front ++ back) ≡ back
back_of front back n is = drop_at front back (length (front ++ back) - n) (omega (arith, length-append front back))

-- two such pairs that give one list are equal
pub one_cut : (a b x y : List ℕ) (n : ℕ) → length x ≡ n → length y ≡ n → a ++ x ≡ b ++ y → (a ≡ b) × (x ≡ y)
one_cut a b x y n x_is y_is same = (
  sym (front_of a x n x_is) ∙ ap (λ (l : List ℕ). take (length l - n) l) same ∙ front_of b y n y_is,
  sym (back_of a x n x_is) ∙ ap (λ (l : List ℕ). drop (length l - n) l) same ∙ back_of b y n y_is,
)
