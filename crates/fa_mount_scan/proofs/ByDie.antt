-- Lists that are walked die by die: each die has a place in a list, that of its image, or none.
use Rattle.std.proofs.Common.{◌≡◌, ℕ, ◌+◌, ◌<◌, ◌≢◌, ◌⊎◌, inl, inr, List, [], ◌∷◌, ◌++◌, Option, Some, length, refl, sym, ap, subst, ◌∙◌, arith}
use Rattle.std.proofs.Common.{slice_get, set}
use Rattle.std.proofs.lemmas.Bool.{cases_lt}
use Rattle.std.proofs.lemmas.List.{get_or-set_same, get_or-set_other, get_or_append_left, get_or_push, length-set, length_push}
use Rattle.std.proofs.lemmas.Option.{same_Some, slice_get_within, slice_get-get_or, slice_get_cases, get_or_from_slice_get}
use Rattle.fa_mount_scan.specs.ContentReading.{AreApart, image_read}
use Rattle.fa_mount_headers.specs.declared.judging.Standing.{Standing}

-- a list with one element more
pub slice_get_push : {X : Type 0} (xs : List X) (x y : X) (i : ℕ) → slice_get (xs ++ x ∷ []) i ≡ Some y
    → ((i < length xs) × (slice_get xs i ≡ Some y)) ⊎ ((i ≡ length xs) × (x ≡ y))
slice_get_push xs x y i at =
    let within = slice_get_within (xs ++ x ∷ []) i y at in
    let is = get_or_from_slice_get (xs ++ x ∷ []) i y x at in
    let long = length_push xs x in
    elim (cases_lt i (length xs)) [
      | inl below ↦ inl (below, slice_get-get_or xs i x below ∙ ap Some (sym (get_or_append_left xs (x ∷ []) x i below) ∙ is))
      | inr on ↦ let last : length xs ≡ i = omega (arith, within, long, on) in inr (sym last, sym (get_or_push xs x x i last) ∙ is)
    ]

-- the element at an index is another, and no other changed
pub put_at : {X : Type 0} (xs : List X) (index : ℕ) (new : X) → index < length xs → slice_get (set xs index new) index ≡ Some new
put_at xs index new within =
    slice_get-get_or (set xs index new) index new (let long = length-set xs index new in omega (arith, long, within))
    ∙ ap Some (get_or-set_same xs index new new within)

pub put_other : {X : Type 0} (xs : List X) (index : ℕ) (new : X) (i : ℕ) → i ≢ index → slice_get (set xs index new) i ≡ slice_get xs i
put_other xs index new i apart =
    elim (slice_get_cases xs i).1 [
      | inl found ↦
          slice_get-get_or (set xs index new) i found.0 (let long = length-set xs index new in let below = found.1 in omega (arith, long, below))
          ∙ ap Some (get_or-set_other xs index i new found.0 apart ∙ found.3) ∙ sym found.2
      | inr past ↦ elim (slice_get_cases (set xs index new) i).1 [
        | inl found ↦ absurd (let long = length-set xs index new in let below = found.1 in let over = past.0 in omega (arith, long, below, over))
        | inr none ↦ none.1 ∙ sym past.1
      ]
    ]

module _ {X : Type 0} (standings : List Standing) where
  -- nothing has changed but at the places of the dies below one
  pub record AreUntouched (old now : List X) (die : ℕ) : Type 0 where
    pub each : (index : ℕ) → ((d : ℕ) (standing : Standing) → d < die → slice_get standings d ≡ Some standing → ¬ (image_read standing ≡ Some index))
        → slice_get now index ≡ slice_get old index

  pub all_untouched : (old : List X) → AreUntouched old old 0
  all_untouched old = record { each = λ index none. refl }

  module _ (old now after : List X) (die : ℕ) (standing : Standing) (at : slice_get standings die ≡ Some standing)
      (untouched : AreUntouched old now die) where
    pub next_untouched : ((index : ℕ) → ¬ (image_read standing ≡ Some index) → slice_get after index ≡ slice_get now index)
        → AreUntouched old after (die + 1)
    next_untouched others = record {
      each = λ index none.
          others index (none die standing (omega arith) at) ∙ untouched.each index (λ d x below. none d x (omega (arith, below)));
    }

    -- the place of this die is that of no die before
    pub still_there : AreApart standings → (index : ℕ) → image_read standing ≡ Some index → slice_get now index ≡ slice_get old index
    still_there apart index which = untouched.each index (λ d x below is same. let one = apart d die x standing index is at same which in omega (arith, below, one))

-- what holds of each die before one and of that one, with the place of each and what came of it
pub next_each : {Y : Type 0} (Holds : ℕ → Option ℕ → Y → Type 0) (standings : List Standing) (die : ℕ) (standing : Standing)
    → slice_get standings die ≡ Some standing → (outcomes : List Y) (outcome : Y) → length outcomes ≡ die
    → ((d : ℕ) (x : Standing) (o : Y) → d < die → slice_get standings d ≡ Some x → slice_get outcomes d ≡ Some o → Holds d (image_read x) o)
    → Holds die (image_read standing) outcome
    → (d : ℕ) (x : Standing) (o : Y) → slice_get standings d ≡ Some x → slice_get (outcomes ++ outcome ∷ []) d ≡ Some o
    → Holds d (image_read x) o
next_each {Y} Holds standings die standing at outcomes outcome long before this d x o is found =
    elim (slice_get_push outcomes outcome o d found) [
      | inl old ↦ let below = old.0 in before d x o (omega (arith, below, long)) is old.1
      | inr new ↦
          let same : d ≡ die = new.0 ∙ long in
          let one : standing ≡ x = same_Some standing x (sym at ∙ ap (slice_get standings) (sym same) ∙ is) in
          subst (λ (y : Standing). Holds d (image_read y) o) one
          (subst (λ n. Holds n (image_read standing) o) (sym same) (subst (Holds die (image_read standing)) new.1 this))
    ]
