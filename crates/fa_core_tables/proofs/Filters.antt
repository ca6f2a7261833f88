-- Lists that are filtered twice, and the first element that passes a test.
use Rattle.std.proofs.Common.{◌≡◌, ℕ, ◌<◌, zero, suc, Bool, true, false, List, [], ◌∷◌, ◌++◌, Option, Some, None, ap, cond, inl}
use Rattle.std.proofs.Common.{inr, length, map, refl, sym, ◌∙◌, arith}
use Rattle.std.proofs.lemmas.Bool.{cases_Bool, false≢true, ne_eqb}
use Rattle.std.specs.Prelude.{◌==◌, IsSome, filter, find, if◌then◌else◌, is_some, not, option_map, option_to_list}
use Rattle.fa_machine.proofs.Lists.{without_first}

abbrev pub head_of : {X : Type 0} → List X → Option X
head_of [] = None
head_of (x ∷ xs) = Some x

abbrev pub tail_of : {X : Type 0} → List X → List X
tail_of [] = []
tail_of (x ∷ xs) = xs

pub none_long : {X : Type 0} (xs : List X) → length xs ≡ 0 → xs ≡ []
none_long [] e = refl
none_long (x ∷ xs) e = absurd (omega (arith, e))

pub filter_nothing : {X : Type 0} (xs : List X) → filter (λ x. false) xs ≡ []
filter_nothing [] = refl
filter_nothing (x ∷ xs) = filter_nothing xs

pub filter_all : {X : Type 0} (xs : List X) → filter (λ x. true) xs ≡ xs
filter_all [] = refl
filter_all (x ∷ xs) = ap (λ ys. x ∷ ys) (filter_all xs)

filter_out : {X : Type 0} (p : X → Bool) (x : X) (ys : List X) (b : Bool) → p x ≡ false → filter p (cond b (x ∷ ys) ys) ≡ filter p ys
filter_out p x ys true e = ap (λ b. cond b (x ∷ filter p ys) (filter p ys)) e
filter_out p x ys false e = refl

filter_in : {X : Type 0} (p : X → Bool) (x : X) (ys : List X) (b : Bool) → p x ≡ true
    → filter p (cond b (x ∷ ys) ys) ≡ cond b (x ∷ filter p ys) (filter p ys)
filter_in p x ys true e = ap (λ b. cond b (x ∷ filter p ys) (filter p ys)) e
filter_in p x ys false e = refl

-- two tests of which the second says the same as a third where the first passes
pub filter_agree : {X : Type 0} (p q r : X → Bool) → ((x : X) → p x ≡ true → q x ≡ r x) → (xs : List X)
    → filter p (filter q xs) ≡ filter r (filter p xs)
filter_agree p q r same [] = refl
filter_agree p q r same (x ∷ xs) =
    elim (cases_Bool (p x)) [
      | inr fails ↦
          filter_out p x (filter q xs) (q x) fails
          ∙ filter_agree p q r same xs
          ∙ sym (ap (λ b. filter r (cond b (x ∷ filter p xs) (filter p xs))) fails)
      | inl passes ↦
          filter_in p x (filter q xs) (q x) passes
          ∙ ap (λ b. cond b (x ∷ filter p (filter q xs)) (filter p (filter q xs))) (same x passes)
          ∙ ap (λ ys. cond (r x) (x ∷ ys) ys) (filter_agree p q r same xs)
          ∙ sym (ap (λ b. filter r (cond b (x ∷ filter p xs) (filter p xs))) passes)
    ]

-- a test of what is made of each element
pub filter_mapped : {X Y : Type 0} (f : X → Y) (test : X → Bool) (p : Y → Bool) → ((x : X) → test x ≡ p (f x)) → (xs : List X)
    → map f (filter test xs) ≡ filter p (map f xs)
filter_mapped f test p same [] = refl
filter_mapped f test p same (x ∷ xs) =
    mapped (test x) ∙ ap (λ b. cond b (f x ∷ map f (filter test xs)) (map f (filter test xs))) (same x)
    ∙ ap (λ ys. cond (p (f x)) (f x ∷ ys) ys) (filter_mapped f test p same xs)
  where
    mapped : (b : Bool) → map f (cond b (x ∷ filter test xs) (filter test xs))
        ≡ cond b (f x ∷ map f (filter test xs)) (map f (filter test xs))
    mapped true = refl
    mapped false = refl

-- ## The first that passes

pub find_head : {X : Type 0} (p : X → Bool) (xs : List X) → find p xs ≡ head_of (filter p xs)
find_head p [] = refl
find_head p (x ∷ xs) = found (p x) (find_head p xs)
  where
    found : (b : Bool) → find p xs ≡ head_of (filter p xs) → cond b (Some x) (find p xs) ≡ head_of (cond b (x ∷ filter p xs) (filter p xs))
    found true later = refl
    found false later = later

-- a list that is not empty has a first
pub is_there : {X Y : Type 0} (f : X → Y) (xs : List X) (empty : Bool) → empty ≡ (length xs == 0) → not empty ≡ is_some (head_of (map f xs))
is_there f [] empty e = ap not e
is_there f (x ∷ xs) empty e = ap not (e ∙ ne_eqb (length (x ∷ xs)) 0 (λ none. omega (arith, none)))

pub filter_rest : {X : Type 0} (p : X → Bool) (xs : List X) → filter p (without_first p xs) ≡ tail_of (filter p xs)
filter_rest p [] = refl
filter_rest p (x ∷ xs) = rest (p x) refl (filter_rest p xs)
  where
    rest : (b : Bool) → p x ≡ b → filter p (without_first p xs) ≡ tail_of (filter p xs)
        → filter p (if b then xs else x ∷ without_first p xs) ≡ tail_of (cond b (x ∷ filter p xs) (filter p xs))
    rest true e later = refl
    rest false e later = ap (λ b. cond b (x ∷ filter p (without_first p xs)) (filter p (without_first p xs))) e ∙ later

pub filter_others : {X : Type 0} (p q : X → Bool) → ((x : X) → p x ≡ true → q x ≡ false) → (xs : List X)
    → filter q (without_first p xs) ≡ filter q xs
filter_others p q apart [] = refl
filter_others p q apart (x ∷ xs) = others (p x) refl (filter_others p q apart xs)
  where
    others : (b : Bool) → p x ≡ b → filter q (without_first p xs) ≡ filter q xs
        → filter q (if b then xs else x ∷ without_first p xs) ≡ filter q (x ∷ xs)
    others true e later = sym (ap (λ b. cond b (x ∷ filter q xs) (filter q xs)) (apart x e))
    others false e later = ap (λ ys. cond (q x) (x ∷ ys) ys) later

-- what is popped is the first, and the rest is left
none_empty : (X : Type 0) (n : ℕ) → (0 < n → IsSome {T = X} None) → n ≡ 0
none_empty X zero some = refl
none_empty X (suc n) some = absurd (false≢true (some (omega arith)))

pub popped : {X Y : Type 0} (f : X → Y) (first : Option X) (old new : List X) (n : ℕ) → old ≡ option_to_list first ++ new → n ≡ length old
    → (0 < n → IsSome first) → (option_map f first ≡ head_of (map f old)) × (map f new ≡ tail_of (map f old))
popped {X} f None old new n e long some =
    let none = none_long old (sym long ∙ none_empty X n some) in
    (sym (ap (λ xs. head_of (map f xs)) none), ap (map f) (sym e ∙ none) ∙ sym (ap (λ xs. tail_of (map f xs)) none))
popped f (Some x) old new n e long some = (sym (ap (λ xs. head_of (map f xs)) e), sym (ap (λ xs. tail_of (map f xs)) e))
