-- The first of a list that passes a test, as a loop over the list finds it.
use Rattle.std.proofs.Common.{Bool, List, None, Option, Some, [], ap, arith, cond, false, refl, suc, sym, true, zero, ℕ, ◌<◌, ◌∷◌}
use Rattle.std.proofs.Common.{◌≡◌}
use Rattle.std.proofs.lemmas.Bool.{ne_eqb}
use Rattle.std.proofs.lemmas.Option.{none-some}
use Rattle.std.specs.Prelude.{filter, find, is_none, length, map, option_map, slice_index_or, take, ◌&&◌, ◌==◌}

module _ {X : Type 0} (p : X → Bool) where
  behind : (x : X) (xs ys : List X) → cond (p x) (Some x) (find p xs) ≡ None → (find p xs ≡ None → find p ys ≡ None)
      → cond (p x) (Some x) (find p ys) ≡ None
  behind x xs ys = go (p x)
    where
      go : (b : Bool) → cond b (Some x) (find p xs) ≡ None → (find p xs ≡ None → find p ys ≡ None) → cond b (Some x) (find p ys) ≡ None
      go true none later = absurd (none-some x (sym none))
      go false none later = later none

  pub next_fails : (xs : List X) (i : ℕ) (d : X) → i < length xs → find p (take i xs) ≡ None → p (slice_index_or xs i d) ≡ false
      → find p (take (suc i) xs) ≡ None
  next_fails [] i d low none fails = absurd (omega (arith, low))
  next_fails (x ∷ xs) zero d low none fails = ap (λ b. cond b (Some x) None) fails
  next_fails (x ∷ xs) (suc i) d low none fails =
      behind x (take i xs) (take (suc i) xs) none (λ rest. next_fails xs i d (omega (arith, low)) rest fails)

  passed : (x : X) (xs ys : List X) (r : Option X) → cond (p x) (Some x) (find p xs) ≡ None → (find p xs ≡ None → find p ys ≡ r)
      → cond (p x) (Some x) (find p ys) ≡ r
  passed x xs ys r = go (p x)
    where
      go : (b : Bool) → cond b (Some x) (find p xs) ≡ None → (find p xs ≡ None → find p ys ≡ r) → cond b (Some x) (find p ys) ≡ r
      go true none later = absurd (none-some x (sym none))
      go false none later = later none

  pub next_passes : (xs : List X) (i : ℕ) (d : X) → i < length xs → find p (take i xs) ≡ None → p (slice_index_or xs i d) ≡ true
      → find p xs ≡ Some (slice_index_or xs i d)
  next_passes [] i d low none is = absurd (omega (arith, low))
  next_passes (x ∷ xs) zero d low none is = ap (λ b. cond b (Some x) (find p xs)) is
  next_passes (x ∷ xs) (suc i) d low none is =
      passed x (take i xs) xs (Some (slice_index_or xs i d)) none (λ rest. next_passes xs i d (omega (arith, low)) rest is)

  pub none_at_end : (xs : List X) (i : ℕ) → i ≡ length xs → find p (take i xs) ≡ None → find p xs ≡ None
  none_at_end [] i end none = refl
  none_at_end (x ∷ xs) zero end none = absurd (omega (arith, end))
  none_at_end (x ∷ xs) (suc i) end none = passed x (take i xs) xs None none (λ rest. none_at_end xs i (omega (arith, end)) rest)

pub find_mapped : {X Y : Type 0} (f : X → Y) (p : Y → Bool) (xs : List X) → option_map f (find (λ x. p (f x)) xs) ≡ find p (map f xs)
find_mapped f p [] = refl
find_mapped f p (x ∷ xs) = go (p (f x)) (find_mapped f p xs)
  where
    go : (b : Bool) → option_map f (find (λ x. p (f x)) xs) ≡ find p (map f xs)
        → option_map f (cond b (Some x) (find (λ x. p (f x)) xs)) ≡ cond b (Some (f x)) (find p (map f xs))
    go true rest = refl
    go false rest = rest

-- none passes just where none is found
pub none_filtered : {X : Type 0} (p : X → Bool) (xs : List X) → (length (filter p xs) == 0) ≡ is_none (find p xs)
none_filtered p [] = refl
none_filtered p (x ∷ xs) = go (p x) (none_filtered p xs)
  where
    go : (b : Bool) → (length (filter p xs) == 0) ≡ is_none (find p xs)
        → (length (cond b (x ∷ filter p xs) (filter p xs)) == 0) ≡ is_none (cond b (Some x) (find p xs))
    go true rest = ne_eqb (suc (length (filter p xs))) 0 (λ e. omega (arith, e))
    go false rest = rest

-- the first of those that pass one test that passes another is the first that passes both
pub find_filtered : {X : Type 0} (p q : X → Bool) (xs : List X) → find q (filter p xs) ≡ find (λ x. p x && q x) xs
find_filtered p q [] = refl
find_filtered p q (x ∷ xs) = go (p x) (find_filtered p q xs)
  where
    go : (b : Bool) → find q (filter p xs) ≡ find (λ x. p x && q x) xs
        → find q (cond b (x ∷ filter p xs) (filter p xs)) ≡ cond (b && q x) (Some x) (find (λ x. p x && q x) xs)
    go true rest = ap (cond (q x) (Some x)) rest
    go false rest = rest
