-- Counts and finds in lists.
use Rattle.fa_machine.specs.Among.{Among, tally}
use Rattle.std.proofs.Common.{Bool, List, None, Option, Some, [], add-one, ap, arith, cond, drop, eqb-true, false, inl, inr, length}
use Rattle.std.proofs.Common.{map, not, refl, subst, suc, sym, take, true, zero, ℕ, ◌*◌, ◌++◌, ◌+◌, ◌/◌, ◌<◌, ◌∙◌, ◌∷◌, ◌≡◌, ◌≤◌, ◌⊎◌}
use Rattle.std.proofs.lemmas.Bool.{cases_Bool, cases_eq, false≢true, or_left, or_parts, or_right}
use Rattle.std.proofs.lemmas.List.Sums.{sum_by-cons}
use Rattle.std.proofs.lemmas.Option.{none-some, same_Some}
use Rattle.std.specs.List.{AllByRecursion, after_first, before_first, cons_option, list_any, position_or_len, range_with_len}
use Rattle.std.specs.Prelude.{count_by, filter, filter_map, find, if◌then◌else◌, slice_index_or, ◌==◌}

pub among-map-intro : {X Y : Type 0} (f : X → Y) (x : X) (xs : List X) → Among x xs → Among (f x) (map f xs)
among-map-intro f x [] i = i
among-map-intro f x (y ∷ ys) (inl same) = inl (ap f same)
among-map-intro f x (y ∷ ys) (inr rest) = inr (among-map-intro f x ys rest)

cond_among : {X : Type 0} (b : Bool) (x y : X) (ys : List X) → Among x (cond b (y ∷ ys) ys) → ((b ≡ true) × (y ≡ x)) ⊎ Among x ys
cond_among true x y ys (inl same) = inl (refl, same)
cond_among true x y ys (inr rest) = inr rest
cond_among false x y ys i = inr i

pub among-filter : {X : Type 0} (p : X → Bool) (x : X) (xs : List X) → Among x (filter p xs) → Among x xs × (p x ≡ true)
among-filter p x [] i = absurd i
among-filter p x (y ∷ ys) i =
    elim (cond_among (p y) x y (filter p ys) i) [
      | inl here ↦ (inl here.1, sym (ap p here.1) ∙ here.0)
      | inr rest ↦ let found = among-filter p x ys rest in (inr found.0, found.1)
    ]

pub among-filter-intro : {X : Type 0} (p : X → Bool) (x : X) (xs : List X) → Among x xs → p x ≡ true → Among x (filter p xs)
among-filter-intro p x [] i t = absurd i
among-filter-intro p x (y ∷ ys) (inl same) t = front (p y) (ap p same ∙ t)
  where
    front : (b : Bool) → b ≡ true → Among x (cond b (y ∷ filter p ys) (filter p ys))
    front true e = inl same
    front false e = absurd (false≢true e)
among-filter-intro p x (y ∷ ys) (inr rest) t = behind (p y) (among-filter-intro p x ys rest t)
  where
    behind : (b : Bool) → Among x (filter p ys) → Among x (cond b (y ∷ filter p ys) (filter p ys))
    behind true i = inr i
    behind false i = i

pub among-take : {X : Type 0} (n : ℕ) (x : X) (xs : List X) → Among x (take n xs) → Among x xs
among-take n x [] i = elim (among_none n x i) [ ]
  where
    among_none : {X : Type 0} (n : ℕ) (x : X) → Among x (take n []) → ⊥
    among_none zero x i = i
    among_none (suc n) x i = i
among-take zero x (y ∷ ys) i = absurd i
among-take (suc n) x (y ∷ ys) (inl same) = inl same
among-take (suc n) x (y ∷ ys) (inr rest) = inr (among-take n x ys rest)

tally_more : (a b : Bool) (m n : ℕ) → (a ≡ true → b ≡ true) → m ≤ n → (if a then 1 else 0) + m ≤ (if b then 1 else 0) + n
tally_more true true m n f h = omega arith
tally_more true false m n f h = absurd (false≢true (f refl))
tally_more false true m n f h = omega arith
tally_more false false m n f h = omega arith

pub tally-map-le : {X Y : Type 0} (p : Y → Bool) (q : X → Bool) (f : X → Y) → ((x : X) → p (f x) ≡ true → q x ≡ true) → (xs : List X)
    → tally p (map f xs) ≤ tally q xs
tally-map-le p q f says [] = omega arith
tally-map-le p q f says (x ∷ xs) = tally_more (p (f x)) (q x) (tally p (map f xs)) (tally q xs) (says x) (tally-map-le p q f says xs)

pub tally-filter-le : {X : Type 0} (p q : X → Bool) (xs : List X) → tally p (filter q xs) ≤ tally p xs
tally-filter-le p q [] = omega arith
tally-filter-le p q (x ∷ xs) = kept (q x) (tally-filter-le p q xs)
  where
    kept : (b : Bool) → tally p (filter q xs) ≤ tally p xs → tally p (cond b (x ∷ filter q xs) (filter q xs)) ≤ (if p x then 1 else 0) + tally p xs
    kept true h = omega arith
    kept false h = omega arith

pub tally-take-le : {X : Type 0} (p : X → Bool) (n : ℕ) (xs : List X) → tally p (take n xs) ≤ tally p xs
tally-take-le p zero [] = omega arith
tally-take-le p (suc n) [] = omega arith
tally-take-le p zero (x ∷ xs) = omega arith
tally-take-le p (suc n) (x ∷ xs) = let h = tally-take-le p n xs in omega (arith, h)

-- what is found passes, and where nothing is found nothing is counted
pub found_passes : {X : Type 0} (p : X → Bool) (xs : List X) (x : X) → find p xs ≡ Some x → (p x ≡ true) × Among x xs
found_passes p [] x e = absurd (none-some x e)
found_passes p (y ∷ ys) x e =
    elim (cases_Bool (p y)) [
      | inl here ↦
          let same = same_Some y x (sym (ap (λ b. cond b (Some y) (find p ys)) here) ∙ e) in
          (ap p (sym same) ∙ here, inl same)
      | inr away ↦
          let rest = found_passes p ys x (sym (ap (λ b. cond b (Some y) (find p ys)) away) ∙ e) in
          (rest.0, inr rest.1)
    ]

none_counted : {X : Type 0} (p : X → Bool) (x : X) (xs : List X) (b : Bool) → p x ≡ b → cond b (Some x) (find p xs) ≡ None → count_by p xs ≡ 0
    → count_by p (x ∷ xs) ≡ 0
none_counted p x xs true is e h = absurd (none-some x (sym e))
none_counted p x xs false is e h =
    let front : ◌≡◌ {A = ℕ} (cond (p x) 1 0) 0 = ap {B = ℕ} (λ b. cond b 1 0) is in
    let sum = sum_by-cons {X = _} (λ y. cond (p y) 1 0) x xs in omega (arith, front, sum, h)

pub none_found : {X : Type 0} (p : X → Bool) (xs : List X) → find p xs ≡ None → count_by p xs ≡ 0
none_found p [] e = refl
none_found p (x ∷ xs) e =
    elim (cases_Bool (p x)) [
      | inl here ↦ absurd (none-some x (sym (sym (ap (λ b. cond b (Some x) (find p xs)) here) ∙ e)))
      | inr away ↦ none_counted p x xs (p x) refl e (none_found p xs (sym (ap (λ b. cond b (Some x) (find p xs)) away) ∙ e))
    ]

pub any_none : {X : Type 0} (p : X → Bool) (xs : List X) → list_any p xs ≡ false → (x : X) → Among x xs → p x ≡ false
any_none p [] e x i = absurd i
any_none p (y ∷ ys) e x (inl same) = ap p (sym same) ∙ (or_parts (p y) (list_any p ys) e).0
any_none p (y ∷ ys) e x (inr rest) = any_none p ys (or_parts (p y) (list_any p ys) e).1 x rest

pub any_some : {X : Type 0} (p : X → Bool) (xs : List X) (x : X) → Among x xs → p x ≡ true → list_any p xs ≡ true
any_some p [] x i t = absurd i
any_some p (y ∷ ys) x (inl same) t = or_left (p y) (list_any p ys) (ap p same ∙ t)
any_some p (y ∷ ys) x (inr rest) t = or_right (p y) (list_any p ys) (any_some p ys x rest t)

-- the first of two refusals, and that none applies
pub no_refusal : {R : Type 0} (a b : Bool) (r s : R) → cond a (Some r) (cond b (Some s) None) ≡ None → (a ≡ false) × (b ≡ false)
no_refusal true b r s e = absurd (none-some r (sym e))
no_refusal false true r s e = absurd (none-some s (sym e))
no_refusal false false r s e = (refl, refl)

-- what holds of each that is among them
pub all_from_among : {X : Type 0} (P : X → Type 0) (xs : List X) → ((x : X) → Among x xs → P x) → AllByRecursion P xs
all_from_among P [] each = tt
all_from_among P (x ∷ xs) each = (each x (inl refl), all_from_among P xs (λ y among. each y (inr among)))

pub among-contains : {X : Type 0} (x : X) (xs : List X) (k : ℕ) → k < length xs → slice_index_or xs k x ≡ x → Among x xs
among-contains x [] k h e = absurd (omega arith)
among-contains x (y ∷ ys) zero h e = inl e
among-contains x (y ∷ ys) (suc k) h e = inr (among-contains x ys k (omega arith) e)

cons_cases : {Y : Type 0} (o : Option Y) (y : Y) (ys : List Y) → Among y (cons_option o ys) → (o ≡ Some y) ⊎ Among y ys
cons_cases None y ys i = inr i
cons_cases (Some z) y ys (inl same) = inl (ap Some same)
cons_cases (Some z) y ys (inr rest) = inr rest

pub among-filter_map : {X Y : Type 0} (f : X → Option Y) (y : Y) (xs : List X) → Among y (filter_map f xs) → (x : X) × Among x xs × (f x ≡ Some y)
among-filter_map f y [] i = absurd i
among-filter_map f y (x ∷ xs) i =
    elim (cons_cases (f x) y (filter_map f xs) i) [
      | inl here ↦ (x, inl refl, here)
      | inr rest ↦ let found = among-filter_map f y xs rest in (found.0, inr found.1, found.2)
    ]

-- a list without the first element that passes
abbrev pub without_first : {X : Type 0} → (X → Bool) → List X → List X
without_first p [] = []
without_first p (x ∷ xs) = if p x then xs else x ∷ without_first p xs

cut_if : {X : Type 0} (p : X → Bool) (x : X) (xs : List X) (b : Bool) (n m : ℕ) → (b ≡ true → n ≡ 0) → (b ≡ false → n ≡ suc m)
    → take m xs ++ drop (suc m) xs ≡ without_first p xs
    → take n (x ∷ xs) ++ drop (suc n) (x ∷ xs) ≡ (if b then xs else x ∷ without_first p xs)
cut_if p x xs true n m yes_then no_then rest = ap (λ k. take k (x ∷ xs) ++ drop (suc k) (x ∷ xs)) (yes_then refl)
cut_if p x xs false n m yes_then no_then rest =
    ap (λ k. take k (x ∷ xs) ++ drop (suc k) (x ∷ xs)) (no_then refl) ∙ ap (λ ys. x ∷ ys) rest

cut_rest : {X : Type 0} (p : X → Bool) (xs : List X) → take (position_or_len p xs) xs ++ drop (suc (position_or_len p xs)) xs ≡ without_first p xs
cut_rest p [] = refl
cut_rest p (x ∷ xs) = cut_if p x xs (p x) (position_or_len p (x ∷ xs)) (position_or_len p xs) (λ e. first_place e) (λ e. next_place e) (cut_rest p xs)
  where
    first_place : p x ≡ true → position_or_len p (x ∷ xs) ≡ 0
    first_place e = ap (λ b. cond (not b) (1 + position_or_len p xs) 0) e

    next_place : p x ≡ false → position_or_len p (x ∷ xs) ≡ suc (position_or_len p xs)
    next_place e = ap (λ b. cond (not b) (1 + position_or_len p xs) 0) e ∙ omega arith

pub cut_first : {X : Type 0} (p : X → Bool) (xs : List X) → before_first p xs ++ after_first p xs ≡ without_first p xs
cut_first p xs = ap (λ k. take (position_or_len p xs) xs ++ drop k xs) (add-one (position_or_len p xs)) ∙ cut_rest p xs

without_among_if : {X : Type 0} (b : Bool) (x y : X) (xs ys : List X) → Among y (if b then xs else x ∷ ys) → (Among y ys → Among y xs) → Among y (x ∷ xs)
without_among_if true x y xs ys i rest = inr i
without_among_if false x y xs ys (inl same) rest = inl same
without_among_if false x y xs ys (inr more) rest = inr (rest more)

pub among-without : {X : Type 0} (p : X → Bool) (y : X) (xs : List X) → Among y (without_first p xs) → Among y xs
among-without p y [] i = i
among-without p y (x ∷ xs) i = without_among_if (p x) x y xs (without_first p xs) i (among-without p y xs)

without_count_if : {X : Type 0} (p q : X → Bool) (x y : X) (xs : List X) (b : Bool) → cond b (Some x) (find p xs) ≡ Some y
    → (find p xs ≡ Some y → tally q (without_first p xs) + (if q y then 1 else 0) ≡ tally q xs)
    → tally q (if b then xs else x ∷ without_first p xs) + (if q y then 1 else 0) ≡ (if q x then 1 else 0) + tally q xs
without_count_if p q x y xs true e rest =
    let same : ◌≡◌ {A = ℕ} (if q x then 1 else 0) (if q y then 1 else 0) = ap {B = ℕ} (λ z. if q z then 1 else 0) (same_Some x y e) in
    omega (arith, same)
without_count_if p q x y xs false e rest = let h = rest e in omega (arith, h)

pub tally-without : {X : Type 0} (p q : X → Bool) (xs : List X) (y : X) → find p xs ≡ Some y
    → tally q (without_first p xs) + (if q y then 1 else 0) ≡ tally q xs
tally-without p q [] y e = absurd (none-some y e)
tally-without p q (x ∷ xs) y e = without_count_if p q x y xs (p x) e (tally-without p q xs y)

-- what a find and a count that come to nothing say of each element
pub none_passes : {X : Type 0} (p : X → Bool) (xs : List X) → find p xs ≡ None → (x : X) → Among x xs → p x ≡ false
none_passes p [] e x i = absurd i
none_passes p (y ∷ ys) e x i =
    elim (cases_Bool (p y)) [
      | inl here ↦ absurd (none-some y (sym e ∙ ap (λ b. cond b (Some y) (find p ys)) here))
      | inr away ↦ elim i [
        | inl same ↦ ap p (sym same) ∙ away
        | inr rest ↦ none_passes p ys (sym (ap (λ b. cond b (Some y) (find p ys)) away) ∙ e) x rest
      ]
    ]

pub counted_none : {X : Type 0} (p : X → Bool) (xs : List X) → count_by p xs ≡ 0 → (x : X) → Among x xs → p x ≡ false
counted_none p [] e x i = absurd i
counted_none p (y ∷ ys) e x i =
    let sum = sum_by-cons (λ z. cond (p z) 1 0) y ys in
    elim (cases_Bool (p y)) [
      | inl here ↦ let one : ◌≡◌ {A = ℕ} (cond (p y) 1 0) 1 = ap {B = ℕ} (λ b. cond b 1 0) here in absurd (omega (arith, one, sum, e))
      | inr away ↦ elim i [
        | inl same ↦ ap p (sym same) ∙ away
        | inr rest ↦ counted_none p ys (omega (arith, sum, e)) x rest
      ]
    ]

pub among-range : (first n x : ℕ) → first ≤ x → x < first + n → Among x (range_with_len first n)
among-range first zero x low high = absurd (omega arith)
among-range first (suc n) x low high =
    elim (cases_eq first x) [
      | inl same ↦ inl same
      | inr apart ↦ inr (among-range (first + 1) n x (omega arith) (omega arith))
    ]

pub in_the_block : (slots block slot : ℕ) → 0 < slots → (slot / slots == block) ≡ true → Among slot (range_with_len (block * slots) slots)
in_the_block slots block slot some e =
    let is = eqb-true (slot / slots) block e in
    let low : block * slots ≤ slot = subst (λ b. b * slots ≤ slot) is (omega arith) in
    let high : slot < block * slots + slots = subst (λ b. slot < b * slots + slots) is (omega arith) in
    among-range (block * slots) slots slot low high

pub among-map : {X Y : Type 0} (f : X → Y) (y : Y) (xs : List X) → Among y (map f xs) → (x : X) × Among x xs × (f x ≡ y)
among-map f y [] i = absurd i
among-map f y (x ∷ xs) (inl same) = (x, inl refl, same)
among-map f y (x ∷ xs) (inr rest) = let found = among-map f y xs rest in (found.0, inr found.1, found.2)

pub tally-append : {X : Type 0} (passes : X → Bool) (xs ys : List X) → tally passes (xs ++ ys) ≡ tally passes xs + tally passes ys
tally-append passes [] ys = omega arith
tally-append passes (x ∷ xs) ys = let e = tally-append passes xs ys in omega (arith, e)

pub among_low : (first n x : ℕ) → Among x (range_with_len first n) → x < first + n
among_low first zero x i = absurd i
among_low first (suc n) x (inl same) = omega (arith, same)
among_low first (suc n) x (inr rest) = let h = among_low (first + 1) n x rest in omega (arith, h)
