-- One call of each of some dies, the dies rising, whatever its answer is.
use Rattle.std.proofs.Common.{ℕ, ◌+◌, ◌<◌, ◌≡◌, ◌∙◌, ◌&&◌, Bool, true, false, nat_lt, List, refl, ap, sym, subst, arith, inl, inr}
use Rattle.std.specs.Bool.{MatchBool}
use Rattle.std.proofs.lemmas.Bool.{and_from, and_left, and_right, cases_Bool, cases_eq, le-ltb, lt-ltb}
use Rattle.fa_mount_headers.specs.declared.judging.Standing.{Standing}
use Rattle.fa_image.specs.Image.{ImageCall, ImageAnswer}
use Rattle.fa_mount.proofs.Bits.{lt_next}
use Rattle.fa_mount.proofs.Images.{one_more, unchanged, weaker}
use Rattle.fa_mount.specs.Phases.{ByDie, CallsDie}
use Rattle.fa_mount.specs.Standings.{AreApart}

module _ {I : Type 0} (made : I → ImageCall → ImageAnswer → I → Type 0) (call : ℕ → ImageCall) where
  -- the call was made where it was to be
  abbrev pub Tried : (ℕ → Bool) → ℕ → I → I → Type 0
  Tried these die x y = MatchBool (these die) ((answer : ImageAnswer) × made x (call die) answer y) (y ≡ x)

  -- the dies below one
  abbrev pub tried_below : (ℕ → Bool) → ℕ → ℕ → Bool
  tried_below these end die = these die && nat_lt die end

  tried_as : (these those : ℕ → Bool) (die : ℕ) (x y : I) → these die ≡ those die → Tried these die x y → Tried those die x y
  tried_as these those die x y same so =
      subst (λ b. MatchBool b ((answer : ImageAnswer) × made x (call die) answer y) (y ≡ x)) same so

  not_tried : (these : ℕ → Bool) (die : ℕ) (x y : I) → these die ≡ false → y ≡ x → Tried these die x y
  not_tried these die x y left_out same =
      subst (λ b. MatchBool b ((answer : ImageAnswer) × made x (call die) answer y) (y ≡ x)) (sym left_out) same

  left_alone : (these : ℕ → Bool) (die : ℕ) (x y : I) → these die ≡ false → Tried these die x y → y ≡ x
  left_alone these die x y left_out so = subst (λ b. MatchBool b ((answer : ImageAnswer) × made x (call die) answer y) (y ≡ x)) left_out so

  was_tried : (these : ℕ → Bool) (die : ℕ) (x y : I) → these die ≡ true → (answer : ImageAnswer) → made x (call die) answer y → Tried these die x y
  was_tried these die x y chosen answer link =
      subst (λ b. MatchBool b ((answer : ImageAnswer) × made x (call die) answer y) (y ≡ x)) (sym chosen) (answer, link)

  module _ (dies : List Standing) (these : ℕ → Bool) (xs : List I) where
    pub tried_none : ByDie dies (Tried (tried_below these 0)) xs xs
    tried_none =
        unchanged dies (Tried (tried_below these 0)) xs
        (λ die x. not_tried (tried_below these 0) die x x (and_right (these die) (nat_lt die 0) (le-ltb die 0 (omega arith))) refl)

    module _ (ys : List I) (die : ℕ) (before : ByDie dies (Tried (tried_below these die)) xs ys) where
      other_same : (d : ℕ) → (d ≡ die → ⊥) → tried_below these die d ≡ tried_below these (die + 1) d
      other_same d ne = ap (λ b. these d && b) (sym (lt_next d die ne))

      past_same : these die ≡ false → (d : ℕ) → tried_below these die d ≡ tried_below these (die + 1) d
      past_same left_out d =
          elim (cases_eq d die) [
            | inl same ↦
                let none = ap these same ∙ left_out in
                and_left (these d) (nat_lt d die) none ∙ sym (and_left (these d) (nat_lt d (die + 1)) none)
            | inr ne ↦ other_same d ne
          ]

      pub tried_past : these die ≡ false → ByDie dies (Tried (tried_below these (die + 1))) xs ys
      tried_past left_out =
          weaker dies (Tried (tried_below these die)) (Tried (tried_below these (die + 1))) xs ys before
          (λ d x y. tried_as (tried_below these die) (tried_below these (die + 1)) d x y (past_same left_out d))

      all_same : ((d : ℕ) → these d ≡ true → d < die) → (d : ℕ) → tried_below these die d ≡ these d
      all_same inside d =
          elim (cases_Bool (these d)) [
            | inl chosen ↦ and_from (these d) (nat_lt d die) chosen (lt-ltb d die (inside d chosen)) ∙ sym chosen
            | inr left_out ↦ and_left (these d) (nat_lt d die) left_out ∙ sym left_out
          ]

      pub tried_all : ((d : ℕ) → these d ≡ true → d < die) → ByDie dies (Tried these) xs ys
      tried_all inside =
          weaker dies (Tried (tried_below these die)) (Tried these) xs ys before
          (λ d x y. tried_as (tried_below these die) these d x y (all_same inside d))

      pub tried_more : (zs : List I) (answer : ImageAnswer) → AreApart dies → these die ≡ true → CallsDie made dies die (call die) answer ys zs
          → ByDie dies (Tried (tried_below these (die + 1))) xs zs
      tried_more zs answer apart chosen calls =
          one_more dies made (Tried (tried_below these die)) (Tried (tried_below these (die + 1))) die (call die) answer xs ys zs apart calls
          before
          (λ x y z was link.
          let same = left_alone (tried_below these die) die x y (and_right (these die) (nat_lt die die) (le-ltb die die (omega arith))) was in
          was_tried (tried_below these (die + 1)) die x z
          (and_from (these die) (nat_lt die (die + 1)) chosen (lt-ltb die (die + 1) (omega arith))) answer
          (subst (λ w. made w (call die) answer z) same link))
          (λ d x y ne. tried_as (tried_below these die) (tried_below these (die + 1)) d x y (other_same d ne))
