-- Lists of images that change die by die.
use Rattle.std.proofs.Common.{ℕ, ◌≡◌, ◌∙◌, List, Some, length, get_or, refl, ap, sym, subst, inl, inr, slice_get, slice_set, length-set}
use Rattle.std.proofs.lemmas.Bool.{cases_eq}
use Rattle.std.proofs.lemmas.Option.{same_Some}
use Rattle.fa_mount_headers.specs.declared.judging.Standing.{Standing}
use Rattle.fa_image.specs.Image.{ImageCall, ImageAnswer}
use Rattle.fa_mount.proofs.Lists.{got_between, got_other, got_same}
use Rattle.fa_mount.specs.Phases.{ByDie, CallsDie}
use Rattle.fa_mount.specs.Standings.{AreApart, place_on}

module _ {I : Type 0} (dies : List Standing) where
  pub unchanged : (R : ℕ → I → I → Type 0) (xs : List I) → ((die : ℕ) (x : I) → R die x x) → ByDie dies R xs xs
  unchanged R xs keeps = record {
    as_many = refl;
    each = λ die index x y place at at_then. subst (λ z. R die x z) (same_Some x y (sym at ∙ at_then)) (keeps die x);
    others = λ index none. refl;
  }

  pub weaker : (R S : ℕ → I → I → Type 0) (xs ys : List I) → ByDie dies R xs ys → ((die : ℕ) (x y : I) → R die x y → S die x y)
      → ByDie dies S xs ys
  weaker R S xs ys by less = record {
    as_many = by.as_many;
    each = λ die index x y place at at_then. less die x y (by.each die index x y place at at_then);
    others = by.others;
  }

  pub after_that : (R S T : ℕ → I → I → Type 0) (xs ys zs : List I) → ByDie dies R xs ys → ByDie dies S ys zs
      → ((die : ℕ) (x y z : I) → R die x y → S die y z → T die x z) → ByDie dies T xs zs
  after_that R S T xs ys zs first second both = record {
    as_many = second.as_many ∙ first.as_many;
    each = λ die index x z place at at_then.
        let y = get_or ys index x in
        let between = got_between xs ys index x first.as_many at in
        both die x y z (first.each die index x y place at between) (second.each die index y z place between at_then);
    others = λ index none. second.others index none ∙ first.others index none;
  }

  pub one_more : (made : I → ImageCall → ImageAnswer → I → Type 0) (R S : ℕ → I → I → Type 0) (die : ℕ) (call : ImageCall)
      (answer : ImageAnswer) (xs ys zs : List I) → AreApart dies → CallsDie made dies die call answer ys zs → ByDie dies R xs ys
      → ((x y z : I) → R die x y → made y call answer z → S die x z)
      → ((other : ℕ) (x y : I) → (other ≡ die → ⊥) → R other x y → S other x y) → ByDie dies S xs zs
  one_more made R S die call answer xs ys zs apart calls by here there =
      let new : (index : ℕ) → slice_get zs index ≡ slice_get (slice_set ys calls.index calls.result) index =
      λ index. ap (λ l. slice_get l index) calls.rest in
      let other = λ (index : ℕ) (ne : index ≡ calls.index → ⊥). new index ∙ got_other ys calls.index index calls.image calls.result ne in
      record {
        as_many = ap length calls.rest ∙ length-set ys calls.index calls.result ∙ by.as_many;
        each = λ d index x z place at at_then. elim (cases_eq d die) [
          | inl same ↦
              let place_here = ap (place_on dies) (sym same) ∙ place in
              let is : index ≡ calls.index = same_Some index calls.index (sym place_here ∙ calls.place) in
              let result : calls.result ≡ z =
              same_Some calls.result z
              (sym (got_same ys calls.index calls.image calls.result calls.at) ∙ sym (new calls.index) ∙ ap (slice_get zs) (sym is) ∙ at_then) in
              let was = by.each die index x calls.image place_here at (ap (slice_get ys) is ∙ calls.at) in
              let done = here x calls.image z was (subst (λ r. made calls.image call answer r) result calls.link) in
              subst (λ k. S k x z) (sym same) done
          | inr ne ↦
              let far : index ≡ calls.index → ⊥ = λ is. ne (apart d die index place (calls.place ∙ ap Some (sym is))) in
              there d x z ne (by.each d index x z place at (sym (other index far) ∙ at_then))
        ];
        others = λ index none.
            let far : index ≡ calls.index → ⊥ = λ is. none die (calls.place ∙ ap Some (sym is)) in
            other index far ∙ by.others index none;
      }
