-- Counts and sums over lists.
use Rattle.std.proofs.Common.{◌≡◌, ℕ, zero, suc, ◌+◌, ◌≤◌, ◌⊎◌, inl, inr, Bool, true, false, cond, ◌||◌, List, [], ◌∷◌, ◌++◌, take, replicate, get_or, refl, ap, ◌∙◌, arith}
use Rattle.std.specs.List.{sum_by, count_by, list_any, position_or_len, AllByRecursion}
use Rattle.std.proofs.lemmas.Bool.{cases_lt}
use Rattle.std.proofs.lemmas.List.{length-take, get_or-take}
use Rattle.std.proofs.lemmas.List.Elements.{recursion_from_All}
use Rattle.std.proofs.lemmas.List.Sums.{sum_by-cons, sum_by_push, sum_by-take-le, sum_by-le-sum_by, fails_before_first}

-- a test that passes only where one of two others does counts no more than both
bit-le-two : (r p q : Bool) → (r ≡ true → (p ≡ true) ⊎ (q ≡ true)) → cond r 1 0 ≤ cond p 1 0 + cond q 1 0
bit-le-two false p q h = omega arith
bit-le-two true true q h = omega arith
bit-le-two true false true h = omega arith
bit-le-two true false false h = elim (h refl) [ inl e ↦ cc | inr e ↦ cc ]

-- two tests that pass only where a third does, and never both, count no more than it
bit-two-le : (p q r : Bool) → (p ≡ true → r ≡ true) → (q ≡ true → r ≡ true) → (p ≡ true → q ≡ true → ⊥) → cond p 1 0 + cond q 1 0 ≤ cond r 1 0
bit-two-le false false r a b n = omega arith
bit-two-le true true r a b n = absurd (n refl refl)
bit-two-le true false true a b n = omega arith
bit-two-le true false false a b n = let no = a refl in cc
bit-two-le false true true a b n = omega arith
bit-two-le false true false a b n = let no = b refl in cc

module _ {X : Type 0} where
  -- one element more at the front
  pub count_by-cons : (p : X → Bool) (x : X) (xs : List X) → count_by p (x ∷ xs) ≡ cond (p x) 1 0 + count_by p xs
  count_by-cons p x xs = sum_by-cons (λ y. cond (p y) 1 0) x xs

  -- the sum of two functions
  pub sum_by-add : (f g : X → ℕ) (xs : List X) → sum_by (λ x. f x + g x) xs ≡ sum_by f xs + sum_by g xs
  sum_by-add f g [] = refl
  sum_by-add f g (x ∷ xs) =
      let a = sum_by-cons (λ y. f y + g y) x xs in
      let b = sum_by-cons f x xs in
      let c = sum_by-cons g x xs in
      let rest = sum_by-add f g xs in
      omega (arith, a, b, c, rest)

  -- terms that are larger at each element make a larger sum
  pub sum_by-le-on : (f g : X → ℕ) (xs : List X) → AllByRecursion (λ x. f x ≤ g x) xs → sum_by f xs ≤ sum_by g xs
  sum_by-le-on f g [] h = omega arith
  sum_by-le-on f g (x ∷ xs) h =
      let b = sum_by-cons f x xs in
      let c = sum_by-cons g x xs in
      let here : f x ≤ g x = h.0 in
      let rest = sum_by-le-on f g xs h.1 in
      omega (arith, b, c, here, rest)

  -- what holds of each element, made weaker
  pub AllByRecursion-weaker : (P Q : X → Type 0) → ((x : X) → P x → Q x) → (xs : List X) → AllByRecursion P xs → AllByRecursion Q xs
  AllByRecursion-weaker P Q w [] h = h
  AllByRecursion-weaker P Q w (x ∷ xs) h = (w x h.0, AllByRecursion-weaker P Q w xs h.1)

  -- elements that pass one test pass one of two others
  pub count_by-le-two : (r p q : X → Bool) (xs : List X) → AllByRecursion (λ x. r x ≡ true → (p x ≡ true) ⊎ (q x ≡ true)) xs → count_by r xs ≤ count_by p xs + count_by q xs
  count_by-le-two r p q xs h =
      let both = sum_by-add (λ x. cond (p x) 1 0) (λ x. cond (q x) 1 0) xs in
      let le = sum_by-le-on (λ x. cond (r x) 1 0) (λ x. cond (p x) 1 0 + cond (q x) 1 0) xs
      (AllByRecursion-weaker (λ x. r x ≡ true → (p x ≡ true) ⊎ (q x ≡ true)) (λ x. cond (r x) 1 0 ≤ cond (p x) 1 0 + cond (q x) 1 0)
      (λ x w. bit-le-two (r x) (p x) (q x) w) xs h) in
      omega (arith, both, le)

  -- elements that pass one test pass another
  pub count_by-le-on : (r p : X → Bool) (xs : List X) → AllByRecursion (λ x. r x ≡ true → p x ≡ true) xs → count_by r xs ≤ count_by p xs
  count_by-le-on r p xs h =
      sum_by-le-on (λ x. cond (r x) 1 0) (λ x. cond (p x) 1 0) xs
      (AllByRecursion-weaker (λ x. r x ≡ true → p x ≡ true) (λ x. cond (r x) 1 0 ≤ cond (p x) 1 0)
      (λ x w. omega (arith, bit-le-two (r x) (p x) false (λ e. inl (w e)))) xs h)

  -- two tests that never pass together, and only where a third does
  pub count_by-two-le : (p q r : X → Bool) → ((x : X) → p x ≡ true → r x ≡ true) → ((x : X) → q x ≡ true → r x ≡ true) → ((x : X) → p x ≡ true → q x ≡ true → ⊥) → (xs : List X) → count_by p xs + count_by q xs ≤ count_by r xs
  count_by-two-le p q r a b n xs =
      let both = sum_by-add (λ x. cond (p x) 1 0) (λ x. cond (q x) 1 0) xs in
      let le = sum_by-le-sum_by (λ x. cond (p x) 1 0 + cond (q x) 1 0) (λ x. cond (r x) 1 0) xs (λ x. bit-two-le (p x) (q x) (r x) (a x) (b x) (n x)) in
      omega (arith, both, le)

  -- what holds of everything
  pub AllByRecursion-of : (P : X → Type 0) → ((x : X) → P x) → (xs : List X) → AllByRecursion P xs
  AllByRecursion-of P w [] = tt
  AllByRecursion-of P w (x ∷ xs) = (w x, AllByRecursion-of P w xs)

  -- what two facts say of each element
  pub AllByRecursion-both : (P Q : X → Type 0) → (xs : List X) → AllByRecursion P xs → AllByRecursion Q xs → AllByRecursion (λ x. P x × Q x) xs
  AllByRecursion-both P Q [] h k = h
  AllByRecursion-both P Q (x ∷ xs) h k = ((h.0, k.0), AllByRecursion-both P Q xs h.1 k.1)

  -- a test that no element passes counts nothing
  pub count_by-none : (p : X → Bool) (xs : List X) → AllByRecursion (λ x. p x ≡ false) xs → count_by p xs ≡ 0
  count_by-none p [] h = refl
  count_by-none p (x ∷ xs) h =
      count_by-cons p x xs ∙ ap (λ b. cond b 1 0 + count_by p xs) h.0 ∙ (let rest = count_by-none p xs h.1 in omega (arith, rest))

  -- some element passes exactly where one is counted
  pub any-from-count : (p : X → Bool) (xs : List X) → 1 ≤ count_by p xs → list_any p xs ≡ true
  any-from-count p [] h = absurd (omega arith)
  any-from-count p (x ∷ xs) h =
      let e = count_by-cons p x xs in
      let at : (b : Bool) → p x ≡ b → (b || list_any p xs) ≡ true =
      λ b. elim b as (λ v. p x ≡ v → (v || list_any p xs) ≡ true) [
        | true ↦ λ _. refl
        | false ↦ λ no. any-from-count p xs (let k : count_by p (x ∷ xs) ≡ 0 + count_by p xs = e ∙ ap (λ v. cond v 1 0 + count_by p xs) no in omega arith)
      ] in
      at (p x) refl

  pub count-from-any : (p : X → Bool) (xs : List X) → list_any p xs ≡ true → 1 ≤ count_by p xs
  count-from-any p [] h = cc
  count-from-any p (x ∷ xs) h =
      let e = count_by-cons p x xs in
      let at : (b : Bool) → p x ≡ b → (b || list_any p xs) ≡ true → 1 ≤ count_by p (x ∷ xs) =
      λ b. elim b as (λ v. p x ≡ v → (v || list_any p xs) ≡ true → 1 ≤ count_by p (x ∷ xs)) [
        | true ↦ λ yes _. (let k : count_by p (x ∷ xs) ≡ 1 + count_by p xs = e ∙ ap (λ v. cond v 1 0 + count_by p xs) yes in omega arith)
        | false ↦ λ no rest. (let r = count-from-any p xs rest in omega (arith, e, r))
      ] in
      at (p x) refl h

  -- none passes, so none is counted
  pub count-from-none : (p : X → Bool) (xs : List X) → list_any p xs ≡ false → count_by p xs ≡ 0
  count-from-none p xs h =
      elim (cases_lt 0 (count_by p xs)) [
        | inl some ↦ (let any = any-from-count p xs some in let no : ⊥ = cc in absurd no)
        | inr none ↦ omega arith
      ]

  -- the first place that passes has none before it
  pub count-before : (p : X → Bool) (xs : List X) (i : ℕ) → i ≤ position_or_len p xs → count_by p (take i xs) ≡ 0
  count-before p xs i h =
      let bound = length-take i xs in
      count_by-none p (take i xs) (recursion_from_All (λ x. p x ≡ false) (take i xs)
      (λ k d below. ap p (get_or-take i xs k d (omega (arith, bound))) ∙ fails_before_first p xs k d (omega (arith, bound))))

-- Keys of elements, each with a test of the elements that have it: no key is met twice.
module _ {X K : Type 0} (at : K → X → Bool) (key : X → K) (has : (x : X) → at (key x) x ≡ true) (only : (k : K) (x : X) → at k x ≡ true → k ≡ key x) where
  -- an element whose key was not met yet
  pub once-push : (xs : List X) (y : X) → list_any (at (key y)) xs ≡ false → ((k : K) → count_by (at k) xs ≤ 1) → (k : K) → count_by (at k) (xs ++ y ∷ []) ≤ 1
  once-push xs y fresh once k =
      let pushed = sum_by_push (λ x. cond (at k x) 1 0) xs y in
      let here : (b : Bool) → at k y ≡ b → count_by (at k) xs + cond b 1 0 ≤ 1 =
      λ b. elim b as (λ v. at k y ≡ v → count_by (at k) xs + cond v 1 0 ≤ 1) [
        | true ↦ λ yes. (let same = only k y yes in
            let none : count_by (at k) xs ≡ 0 = ap (λ q. count_by (at q) xs) same ∙ count-from-none (at (key y)) xs fresh in omega (arith, none))
        | false ↦ λ _. (let o = once k in omega (arith, o))
      ] in
      let all = here (at k y) refl in
      omega (arith, pushed, all)

  -- an element whose key was met
  pub twice-push : (xs : List X) (y : X) → list_any (at (key y)) xs ≡ true → ((k : K) → count_by (at k) (xs ++ y ∷ []) ≤ 1) → ⊥
  twice-push xs y met once =
      let pushed = sum_by_push (λ x. cond (at (key y) x) 1 0) xs y in
      let one = ap (λ b. cond {A = ℕ} b 1 0) (has y) in
      let more = count-from-any (at (key y)) xs met in
      let most = once (key y) in
      omega (arith, pushed, one, more, most)

  -- what was met twice stays so
  pub once-front : (xs : List X) (y : X) → ((k : K) → count_by (at k) (xs ++ y ∷ []) ≤ 1) → (k : K) → count_by (at k) xs ≤ 1
  once-front xs y once k =
      let pushed = sum_by_push (λ x. cond (at k x) 1 0) xs y in
      let most = once k in
      omega (arith, pushed, most)

  -- from the first elements to all
  pub once-whole : (xs : List X) (i : ℕ) → ((k : K) → count_by (at k) xs ≤ 1) → (k : K) → count_by (at k) (take i xs) ≤ 1
  once-whole xs i once k =
      let part = sum_by-take-le (λ x. cond (at k x) 1 0) xs i in
      let most = once k in
      omega (arith, part, most)

-- a table of one answer gives it everywhere
pub get_or-replicate_default : {X : Type 0} (n i : ℕ) (x : X) → get_or (replicate n x) i x ≡ x
get_or-replicate_default zero i x = refl
get_or-replicate_default (suc n) zero x = refl
get_or-replicate_default (suc n) (suc i) x = get_or-replicate_default n i x
