-- One call of each die of a mask, the dies rising.
use Rattle.std.proofs.Common.{ℕ, ◌+◌, ◌<◌, ◌≡◌, ◌∙◌, ◌==◌, ◌&&◌, ◌||◌, Bool, true, false, nat_lt, cond, List, refl, ap, sym, subst, arith, inl, inr, eq-eqb}
use Rattle.std.proofs.lemmas.Bool.{and_from, and_left, and_right, cases_Bool, cases_eq, le-ltb, lt-ltb, ne_eqb}
use Rattle.fa_mount_headers.specs.Rules.{is_in}
use Rattle.fa_mount_headers.specs.declared.judging.Standing.{Standing}
use Rattle.fa_image.specs.Image.{ImageCall, ImageAnswer, Done, Refused}
use Rattle.fa_image.specs.declared.fault.ImageFault.{ImageFault}
use Rattle.fa_mount.proofs.Bits.{lt_next}
use Rattle.fa_mount.proofs.Images.{one_more, unchanged, weaker}
use Rattle.fa_mount.specs.Phases.{AreMade, CallsDie, Makes, Went, NotMade, WasAccepted, WasRefused, called_below, called_to, each_called, is_accepted}
use Rattle.fa_mount.specs.Standings.{AreApart}

abbrev pick : Bool → Went
pick b = cond b WasAccepted NotMade

pub none_yet : (mask die : ℕ) → called_below mask 0 die ≡ NotMade
none_yet mask die = ap pick (and_right (is_in mask die) (nat_lt die 0) (le-ltb die 0 (omega arith)))

pub not_here : (mask die : ℕ) → called_below mask die die ≡ NotMade
not_here mask die = ap pick (and_right (is_in mask die) (nat_lt die die) (le-ltb die die (omega arith)))

pub here_now : (mask die : ℕ) → is_in mask die ≡ true → called_below mask (die + 1) die ≡ WasAccepted
here_now mask die is = ap pick (and_from (is_in mask die) (nat_lt die (die + 1)) is (lt-ltb die (die + 1) (omega arith)))

pub there_same : (mask die other : ℕ) → (other ≡ die → ⊥) → called_below mask (die + 1) other ≡ called_below mask die other
there_same mask die other apart = ap (λ b. pick (is_in mask other && b)) (lt_next other die apart)

pub passed_over : (mask die other : ℕ) → is_in mask die ≡ false → called_below mask (die + 1) other ≡ called_below mask die other
passed_over mask die other not_in =
    elim (cases_eq other die) [
      | inl same ↦
          let none = ap (is_in mask) same ∙ not_in in
          ap pick (and_left (is_in mask other) (nat_lt other (die + 1)) none)
          ∙ sym (ap pick (and_left (is_in mask other) (nat_lt other die) none))
      | inr apart ↦ there_same mask die other apart
    ]

pub all_below : (mask dies die : ℕ) → (is_in mask die ≡ true → die < dies) → called_below mask dies die ≡ each_called mask die
all_below mask dies die inside =
    elim (cases_Bool (is_in mask die)) [
      | inl is ↦ ap pick (and_from (is_in mask die) (nat_lt die dies) is (lt-ltb die dies (inside is))) ∙ sym (ap pick is)
      | inr not_in ↦ ap pick (and_left (is_in mask die) (nat_lt die dies) not_in) ∙ sym (ap pick not_in)
    ]

pub refused_here : (mask die : ℕ) → called_to mask die die ≡ WasRefused
refused_here mask die = ap (λ b. cond b WasRefused (called_below mask die die)) (eq-eqb die die refl)

pub refused_other : (mask die other : ℕ) → (other ≡ die → ⊥) → called_to mask die other ≡ called_below mask die other
refused_other mask die other apart = ap (λ b. cond b WasRefused (called_below mask die other)) (ne_eqb other die apart)

module _ {I : Type 0} (made : I → ImageCall → ImageAnswer → I → Type 0) where
  -- a call that went otherwise, told by how it went
  pub went_as : (call : ImageCall) (was is : Went) (x y : I) → was ≡ is → Makes made call was x y → Makes made call is x y
  went_as call was is x y same made_so = subst (λ w. Makes made call w x y) same made_so

  module _ (dies : List Standing) (call : ℕ → ImageCall) (mask : ℕ) (xs : List I) where
    pub made_none : AreMade made dies call (called_below mask 0) xs xs
    made_none =
        unchanged dies (λ die. Makes made (call die) (called_below mask 0 die)) xs
        (λ die x. went_as (call die) NotMade (called_below mask 0 die) x x (sym (none_yet mask die)) refl)

    module _ (ys : List I) (die : ℕ) (before : AreMade made dies call (called_below mask die) xs ys) where
      pub made_past : is_in mask die ≡ false → AreMade made dies call (called_below mask (die + 1)) xs ys
      made_past not_in =
          weaker dies (λ d. Makes made (call d) (called_below mask die d)) (λ d. Makes made (call d) (called_below mask (die + 1) d)) xs ys before
          (λ d x y. went_as (call d) (called_below mask die d) (called_below mask (die + 1) d) x y (sym (passed_over mask die d not_in)))

      pub made_all : ((d : ℕ) → is_in mask d ≡ true → d < die) → AreMade made dies call (each_called mask) xs ys
      made_all inside =
          weaker dies (λ d. Makes made (call d) (called_below mask die d)) (λ d. Makes made (call d) (each_called mask d)) xs ys before
          (λ d x y. went_as (call d) (called_below mask die d) (each_called mask d) x y (all_below mask die d (inside d)))

      module _ (zs : List I) (apart : AreApart dies) where
        untouched : (x y : I) → Makes made (call die) (called_below mask die die) x y → x ≡ y
        untouched x y so = sym (went_as (call die) (called_below mask die die) NotMade x y (not_here mask die) so)

        pub made_more : is_in mask die ≡ true → CallsDie made dies die (call die) Done ys zs
            → AreMade made dies call (called_below mask (die + 1)) xs zs
        made_more is calls =
            one_more dies made (λ d. Makes made (call d) (called_below mask die d)) (λ d. Makes made (call d) (called_below mask (die + 1) d))
            die (call die) Done xs ys zs apart calls before
            (λ x y z was link. went_as (call die) WasAccepted (called_below mask (die + 1) die) x z (sym (here_now mask die is))
            (subst (λ w. made w (call die) Done z) (sym (untouched x y was)) link))
            (λ d x y ne. went_as (call d) (called_below mask die d) (called_below mask (die + 1) d) x y (sym (there_same mask die d ne)))

        pub made_refused : (fault : ImageFault) → CallsDie made dies die (call die) (Refused fault) ys zs
            → AreMade made dies call (called_to mask die) xs zs
        made_refused fault calls =
            one_more dies made (λ d. Makes made (call d) (called_below mask die d)) (λ d. Makes made (call d) (called_to mask die d))
            die (call die) (Refused fault) xs ys zs apart calls before
            (λ x y z was link. went_as (call die) WasRefused (called_to mask die die) x z (sym (refused_here mask die))
            (fault, subst (λ w. made w (call die) (Refused fault) z) (sym (untouched x y was)) link))
            (λ d x y ne. went_as (call d) (called_below mask die d) (called_to mask die d) x y (sym (refused_other mask die d ne)))

-- ## Which dies are marked

module _ (mask die d : ℕ) (was : Bool) where
  pub marks_none : was ≡ (is_accepted (called_below mask 0 d) || was)
  marks_none = ap (λ w. is_accepted w || was) (sym (none_yet mask d))

  module _ (old : Bool) (so_far : old ≡ (is_accepted (called_below mask die d) || was)) where
    pub marks_more : (new : Bool) → is_in mask die ≡ true → new ≡ (d == die || old) → new ≡ (is_accepted (called_below mask (die + 1) d) || was)
    marks_more new is here =
        elim (cases_eq d die) [
          | inl same ↦
              let now = ap (called_below mask (die + 1)) same ∙ here_now mask die is in
              here ∙ ap (λ t. t || old) (eq-eqb d die same) ∙ sym (ap (λ w. is_accepted w || was) now)
          | inr apart ↦
              here ∙ ap (λ t. t || old) (ne_eqb d die apart) ∙ so_far
              ∙ sym (ap (λ w. is_accepted w || was) (there_same mask die d apart))
        ]

    pub marks_past : is_in mask die ≡ false → old ≡ (is_accepted (called_below mask (die + 1) d) || was)
    marks_past not_in = so_far ∙ sym (ap (λ w. is_accepted w || was) (passed_over mask die d not_in))

    pub marks_all : (is_in mask d ≡ true → d < die) → old ≡ (is_accepted (each_called mask d) || was)
    marks_all inside = so_far ∙ ap (λ w. is_accepted w || was) (all_below mask die d inside)

    pub marks_refused : old ≡ (is_accepted (called_to mask die d) || was)
    marks_refused =
        elim (cases_eq d die) [
          | inl same ↦
              let none = ap (called_below mask die) same ∙ not_here mask die in
              let refused = ap (called_to mask die) same ∙ refused_here mask die in
              so_far ∙ ap (λ w. is_accepted w || was) none ∙ sym (ap (λ w. is_accepted w || was) refused)
          | inr apart ↦ so_far ∙ sym (ap (λ w. is_accepted w || was) (refused_other mask die d apart))
        ]
