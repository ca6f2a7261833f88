-- The last of some places that passes a test, as folds over plans take it.
use Rattle.fa_batch_terms.proofs.Counting.{count_by-cons}
use Rattle.fa_batch_terms.specs.declared.place.Place.{Place}
use Rattle.fa_machine.proofs.Lists.{counted_none}
use Rattle.fa_machine.specs.Among.{Among}
use Rattle.std.proofs.Common.{Bool, List, Option, Some, [], ap, arith, cond, false, inl, inr, refl, sym, true, ◌+◌}
use Rattle.std.proofs.Common.{◌≤◌, ◌∙◌, ◌∷◌, ◌≡◌, ◌⊎◌}
use Rattle.std.proofs.lemmas.Bool.{false≢true}
use Rattle.std.specs.List.{count_by, list_any}
use Rattle.std.specs.Prelude.{fold, if◌then◌else◌, ◌||◌}

module _ {Y : Type 0} (test : Place → Bool) (f : Place → Y) where
  abbrev pub last_over : List Place → Option Y → Option Y
  last_over places before = fold (λ found x. if test x then Some (f x) else found) before places

  pub record Found (places : List Place) (before : Option Y) : Type 0 where
    pub place : Place
    pub among : Among place places
    pub passes : test place ≡ true
    pub is : last_over places before ≡ Some (f place)

  pub record NotFound (places : List Place) (before : Option Y) : Type 0 where
    pub fails : list_any test places ≡ false
    pub is : last_over places before ≡ before

  pub last_of : (places : List Place) (before : Option Y) → Found places before ⊎ NotFound places before
  last_of [] before = inr (record { fails = refl; is = refl })
  last_of (x ∷ places) before = go (test x) refl (last_of places (if test x then Some (f x) else before))
    where
      go : (b : Bool) → test x ≡ b → Found places (if test x then Some (f x) else before) ⊎ NotFound places (if test x then Some (f x)
          else before)
          → Found (x ∷ places) before ⊎ NotFound (x ∷ places) before
      go b is (inl found) = inl (record { place = found.place; among = inr found.among; passes = found.passes; is = found.is })
      go true is (inr none) =
          inl (record { place = x; among = inl refl; passes = is; is = none.is ∙ ap (λ b. if b then Some (f x) else before) is })
      go false is (inr none) =
          inr (record {
            fails = ap (λ b. b || list_any test places) is ∙ none.fails;
            is = none.is ∙ ap (λ b. if b then Some (f x)
                else before) is;
          })

-- where one at most passes, two that pass are one
pub only_one : (test : Place → Bool) (places : List Place) (x y : Place) → count_by test places ≤ 1 → Among x places → test x ≡ true
    → Among y places → test y ≡ true → x ≡ y
only_one test [] x y few a is b also = absurd a
only_one test (z ∷ places) x y few a is b also =
    go a b (λ later other. only_one test places x y (let split = count_by-cons test z places in omega
    (arith, split, few)) later is other also)
  where
    two : (w : Place) → test z ≡ true → Among w places → test w ≡ true → ⊥
    two w here among passes =
        let split = count_by-cons test z places ∙ ap (λ b. cond b 1 0 + count_by test places) here in
        let zeros : count_by test places ≡ 0 = omega (arith, split, few) in
        false≢true (sym (counted_none test places zeros w among) ∙ passes)

    go : (z ≡ x) ⊎ Among x places → (z ≡ y) ⊎ Among y places → (Among x places → Among y places → x ≡ y) → x ≡ y
    go (inl first) (inl second) rest = sym first ∙ second
    go (inl first) (inr later) rest = absurd (two y (ap test first ∙ is) later also)
    go (inr later) (inl second) rest = absurd (two x (ap test second ∙ also) later is)
    go (inr later) (inr other) rest = rest later other
