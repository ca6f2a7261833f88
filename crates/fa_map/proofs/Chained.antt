-- Chains from which a copy goes, and into which one comes.
use Rattle.std.proofs.Common.{◌≡◌, ◌⊎◌, ℕ, ◌+◌, ◌<◌, ◌≤◌, true, Option, Some, None, ap, inl, inr, refl, sym, subst, ◌∙◌, arith}
use Rattle.std.proofs.lemmas.Bool.{cases_eq, cases_lt, lt-ltb, ltb-true}
use Rattle.std.proofs.lemmas.Option.{none-some, same_Some}
use Rattle.fa_map.specs.Chains.{IsChained, IsNext, IsSeam, behind, is_before}
use Rattle.fa_map.specs.declared.entries.Entry.{Entry}
use Rattle.fa_map.specs.declared.entries.Entry.TheVariants.{Current}
use Rattle.fa_map_calls.proofs.Changed.{place_cases}

pub same_page : (p q : ℕ) → Current p ≡ Current q → p ≡ q
same_page p q e = cc

abbrev pub some_place : ℕ → ℕ → Option (ℕ × ℕ)
some_place d s = Some (d, s)

pub same_place : (d s d' s' : ℕ) → some_place d s ≡ some_place d' s' → (d ≡ d') × (s ≡ s')
same_place d s d' s' e = let is = same_Some (d, s) (d', s') e in (ap (λ (place : ℕ × ℕ). place.0) is, ap (λ (place : ℕ × ℕ). place.1) is)

-- an option of places is none, or some place
pub place_or_none : (o : Option (ℕ × ℕ)) → (o ≡ None) ⊎ ((d : ℕ) × (s : ℕ) × (o ≡ Some (d, s)))
place_or_none None = inl refl
place_or_none (Some (d, s)) = inr (d, s, refl)

pub before_none : (d : ℕ) (o : Option (ℕ × ℕ)) → o ≡ None → is_before d o ≡ true
before_none d o e = ap (is_before d) e

pub before_some : (d d' s' : ℕ) (o : Option (ℕ × ℕ)) → o ≡ Some (d', s') → d < d' → is_before d o ≡ true
before_some d d' s' o e less = ap (is_before d) e ∙ lt-ltb d d' less

before_lt : (d d' s' : ℕ) (o : Option (ℕ × ℕ)) → o ≡ Some (d', s') → is_before d o ≡ true → d < d'
before_lt d d' s' o e h = ltb-true d d' (sym (ap (is_before d) e) ∙ h)

module _ (st : ℕ → ℕ → Entry) (n dies : ℕ) where
  -- no die between the two places of a seam holds the page
  pub seam_bare : (page die : ℕ) (last next : Option (ℕ × ℕ)) → IsSeam st n dies page die last next
      → (d s : ℕ) → behind last ≤ d → d < die → s < n → st d s ≡ Current page → ⊥
  seam_bare page die last next seam d s low high within is =
      elim (place_or_none next) [
        | inl none ↦ seam.follows.between d s low within (before_none d next none) is
        | inr some ↦
            let late = seam.late some.0 some.1 some.2 in
            seam.follows.between d s low within (before_some d some.0 some.1 next some.2 (omega (arith, high, late))) is
      ]

  -- what follows a place that holds the page, or none, when a holder comes later
  pub next_low : (page from : ℕ) (next : Option (ℕ × ℕ)) → IsNext st n dies page from next → (d s : ℕ) → from ≤ d → s < n → st d s ≡ Current page
      → (d' : ℕ) × (s' : ℕ) × (next ≡ Some (d', s')) × (d' ≤ d)
  next_low page from next follows d s low within is =
      elim (place_or_none next) [
        | inl none ↦ absurd (follows.between d s low within (before_none d next none) is)
        | inr some ↦ elim (cases_lt d some.0) [
          | inl less ↦ absurd (follows.between d s low within (before_some d some.0 some.1 next some.2 less) is)
          | inr more ↦ (some.0, some.1, some.2, more)
        ]
      ]

  -- where the place that comes next is on another die, the die does not hold the page
  pub seam_absent : (page die : ℕ) (last next : Option (ℕ × ℕ)) → IsSeam st n dies page die last next → ((d s : ℕ) → next ≡ Some (d, s) → d ≡ die → ⊥)
      → (s : ℕ) → s < n → st die s ≡ Current page → ⊥
  seam_absent page die last next seam off s within is =
      let low : behind last ≤ die = elim (place_or_none last) [
        | inl none ↦ subst (λ k. k ≤ die) (sym (ap behind none)) (omega arith)
        | inr some ↦ subst (λ k. k ≤ die) (sym (ap behind some.2)) (let old = seam.found some.0 some.1 some.2 in let less = old.0 in omega arith)
      ] in
      elim (place_or_none next) [
        | inl none ↦ seam.follows.between die s low within (before_none die next none) is
        | inr some ↦
            let late = seam.late some.0 some.1 some.2 in
            let apart = off some.0 some.1 some.2 in
            seam.follows.between die s low within (before_some die some.0 some.1 next some.2 (omega (arith, late, apart))) is
      ]

-- Entries in which the same slots hold the same pages.
pub chained_alike : (st st' : ℕ → ℕ → Entry) (head : ℕ → Option (ℕ × ℕ)) (link : ℕ → ℕ → Option (ℕ × ℕ)) (n dies pages : ℕ)
    → ((d s page : ℕ) → s < n → st d s ≡ Current page → st' d s ≡ Current page)
    → ((d s page : ℕ) → s < n → st' d s ≡ Current page → st d s ≡ Current page)
    → IsChained st head link n dies pages → IsChained st' head link n dies pages
chained_alike st st' head link n dies pages to from chained = record {
  fits = λ d s page within is. chained.fits d s page within (from d s page within is);
  once = λ d s other page a b is also. chained.once d s other page a b (from d s page a is) (from d other page b also);
  heads = λ page fits. alike page 0 (head page) (chained.heads page fits);
  links = λ d s page within is. alike page (d + 1) (link d s) (chained.links d s page within (from d s page within is));
}
  where
    alike : (page low : ℕ) (next : Option (ℕ × ℕ)) → IsNext st n dies page low next → IsNext st' n dies page low next
    alike page low next follows = record {
      found = λ d s e. let was = follows.found d s e in (was.0, was.1, was.2, to d s page was.2 was.3);
      between = λ d s a b c is. follows.between d s a b c (from d s page b is);
    }

-- how links change where a copy goes
pub record IsUnlinked (page die slot n : ℕ) (last : Option (ℕ × ℕ)) (head head' : ℕ → Option (ℕ × ℕ)) (link link' : ℕ → ℕ → Option (ℕ × ℕ)) : Type 0 where
  pub first : last ≡ None → head' page ≡ link die slot
  pub heads : (p : ℕ) → (last ≡ None → p ≡ page → ⊥) → head' p ≡ head p
  pub previous : (d s : ℕ) → last ≡ Some (d, s) → link' d s ≡ link die slot
  pub links : (d s : ℕ) → s < n → (last ≡ Some (d, s) → ⊥) → link' d s ≡ link d s

-- how links change where a copy comes in
pub record IsLinked (page die slot n : ℕ) (last next : Option (ℕ × ℕ)) (head head' : ℕ → Option (ℕ × ℕ)) (link link' : ℕ → ℕ → Option (ℕ × ℕ)) : Type 0 where
  pub first : last ≡ None → head' page ≡ some_place die slot
  pub heads : (p : ℕ) → (last ≡ None → p ≡ page → ⊥) → head' p ≡ head p
  pub new : link' die slot ≡ next
  pub previous : (d s : ℕ) → last ≡ Some (d, s) → link' d s ≡ some_place die slot
  pub links : (d s : ℕ) → s < n → (last ≡ Some (d, s) → ⊥) → (d ≡ die → s ≡ slot → ⊥) → link' d s ≡ link d s

module _ (st st' : ℕ → ℕ → Entry) (head head' : ℕ → Option (ℕ × ℕ)) (link link' : ℕ → ℕ → Option (ℕ × ℕ)) (n dies pages page die slot : ℕ)
    (last next : Option (ℕ × ℕ)) (chained : IsChained st head link n dies pages) (within : slot < n)
    (other : (d s : ℕ) → s < n → (d ≡ die → s ≡ slot → ⊥) → st' d s ≡ st d s) (seam : IsSeam st n dies page die last next) where
  module _ (here : st die slot ≡ Current page) (gone : (p : ℕ) → st' die slot ≡ Current p → ⊥)
      (unlinked : IsUnlinked page die slot n last head head' link link') where
    was : (d s p : ℕ) → s < n → st' d s ≡ Current p → (st d s ≡ Current p) × (d ≡ die → s ≡ slot → ⊥)
    was d s p fits is =
        elim (place_cases d s die slot) [
          | inl at ↦ absurd (gone p ((λ i. st' (sym at.0 i) (sym at.1 i)) ∙ is))
          | inr apart ↦ (sym (other d s fits apart) ∙ is, apart)
        ]

    stays : (d s p : ℕ) → s < n → (d ≡ die → p ≡ page → ⊥) → st d s ≡ Current p → st' d s ≡ Current p
    stays d s p fits off is =
        other d s fits (λ a b. off a (same_page p page (sym is ∙ (λ i. st (a i) (b i)) ∙ here))) ∙ is

    next_drop : (p from : ℕ) (l : Option (ℕ × ℕ)) → ((d : ℕ) → from ≤ d → d ≡ die → p ≡ page → ⊥) → IsNext st n dies p from l → IsNext st' n dies p from l
    next_drop p from l off follows = record {
      found = λ d s e. let old = follows.found d s e in (old.0, old.1, old.2, stays d s p old.2 (off d old.0) old.3);
      between = λ d s a b c is. follows.between d s a b c (was d s p b is).0;
    }

    next_skip : (from : ℕ) → from ≤ die → ((d s : ℕ) → from ≤ d → d < die → s < n → st d s ≡ Current page → ⊥) → IsNext st' n dies page from (link die slot)
    next_skip from low bare =
        let follows = chained.links die slot page within here in
        record {
          found = λ d s e.
              let old = follows.found d s e in
              (omega (arith, low, old.0), old.1, old.2, stays d s page old.2 (λ a b. omega (arith, a, old.0)) old.3);
          between = λ d s a b c is.
              let old = was d s page b is in
              elim (cases_lt d die) [
                | inl less ↦ bare d s a less b old.0
                | inr more ↦ elim (cases_eq d die) [
                  | inl same ↦ old.1 same (chained.once die s slot page b within ((λ i. st (sym same i) s) ∙ old.0) here)
                  | inr apart ↦ follows.between d s (omega (arith, more, apart)) b c old.0
                ]
              ];
        }

    next_keep : (from d0 s0 : ℕ) (l : Option (ℕ × ℕ)) → from ≤ d0 → d0 < die → s0 < n → st d0 s0 ≡ Current page
        → IsNext st n dies page from l → IsNext st' n dies page from l
    next_keep from d0 s0 l low less fits is follows =
        let low_next = next_low st n dies page from l follows d0 s0 low fits is in
        record {
          found = λ d s e.
              let old = follows.found d s e in
              let at = same_place d s low_next.0 low_next.1 (sym e ∙ low_next.2) in
              let no_more = low_next.3 in
              (old.0, old.1, old.2, stays d s page old.2 (λ a b. omega (arith, a, at.0, no_more, less)) old.3);
          between = λ d s a b c is. follows.between d s a b c (was d s page b is).0;
        }

    pub chained_without : IsChained st' head' link' n dies pages
    chained_without = record {
      fits = λ d s p fits is. chained.fits d s p fits (was d s p fits is).0;
      once = λ d s o p a b is also. chained.once d s o p a b (was d s p a is).0 (was d o p b also).0;
      heads = λ p fits. elim (cases_eq p page) [
        | inr apart ↦ subst (IsNext st' n dies p 0) (sym (unlinked.heads p (λ none. apart))) (next_drop p 0 (head p) (λ d low a b. apart b) (chained.heads p fits))
        | inl same ↦ elim (place_or_none last) [
          | inl none ↦
              (λ (q : ℕ) (e : q ≡ page). subst (λ k. IsNext st' n dies k 0 (head' k)) (sym e)
              (subst (IsNext st' n dies page 0) (sym (unlinked.first none)) (next_skip 0 (omega arith) (λ d s low less. seam_bare st n dies page die last next seam d s (from_none none d) less)))) p same
          | inr some ↦
              let old = seam.found some.0 some.1 some.2 in
              subst (IsNext st' n dies p 0) (sym (unlinked.heads p (λ none e. none-some (some.0, some.1) (sym none ∙ some.2))))
              (subst (λ k. IsNext st' n dies k 0 (head p)) (sym same) (next_keep 0 some.0 some.1 (head p) (omega arith) old.0 old.2 old.3 (subst (λ k. IsNext st n dies k 0 (head p)) same (chained.heads p fits))))
        ]
      ];
      links = λ d s p fits is. rest d s p fits (was d s p fits is).0 (was d s p fits is).1;
    }
      where
        from_none : last ≡ None → (d : ℕ) → behind last ≤ d
        from_none none d = subst (λ k. k ≤ d) (sym (ap behind none)) (omega arith)

        rest : (d s p : ℕ) → s < n → st d s ≡ Current p → (d ≡ die → s ≡ slot → ⊥) → IsNext st' n dies p (d + 1) (link' d s)
        rest d s p fits is apart =
            elim (place_or_none last) [
              | inl none ↦ subst (IsNext st' n dies p (d + 1)) (sym (unlinked.links d s fits (λ e. none-some (d, s) (sym none ∙ e))))
                  (next_drop p (d + 1) (link d s) (λ k low a b. early d s p fits is apart b (λ less. seam_bare st n dies page die last next seam d s (from_none none d) less fits (subst (λ q. st d s ≡ Current q) b is)) k low a) (chained.links d s p fits is))
              | inr some ↦ elim (place_cases d s some.0 some.1) [
                | inl at ↦ at_last d s p some.0 some.1 some.2 at.0 at.1 is
                | inr off ↦ off_last d s p some.0 some.1 some.2 off fits is apart
              ]
            ]
          where
            -- a copy of the page that does not come before the die comes behind it
            early : (d s p : ℕ) → s < n → st d s ≡ Current p → (d ≡ die → s ≡ slot → ⊥) → p ≡ page → (d < die → ⊥) → (k : ℕ) → d + 1 ≤ k → k ≡ die → ⊥
            early d s p fits is apart same not_less k low a =
                elim (cases_lt d die) [
                  | inl less ↦ not_less less
                  | inr more ↦ omega (arith, more, low, a)
                ]

            at_last : (d s p d0 s0 : ℕ) → last ≡ Some (d0, s0) → d ≡ d0 → s ≡ s0 → st d s ≡ Current p → IsNext st' n dies p (d + 1) (link' d s)
            at_last d s p d0 s0 e a b is =
                let old = seam.found d0 s0 e in
                let same : p ≡ page = same_page p page (sym is ∙ (λ i. st (a i) (b i)) ∙ old.3) in
                let there : last ≡ some_place d s = e ∙ (λ i. some_place (sym a i) (sym b i)) in
                subst (λ q. IsNext st' n dies q (d + 1) (link' d s)) (sym same)
                (subst (IsNext st' n dies page (d + 1)) (sym (unlinked.previous d s there))
                (next_skip (d + 1) (omega (arith, a, old.0)) (λ d' s' low less fits held.
                seam_bare st n dies page die last next seam d' s' (subst (λ k. k ≤ d') (sym (ap behind there)) low) less fits held)))

            off_last : (d s p d0 s0 : ℕ) → last ≡ Some (d0, s0) → (d ≡ d0 → s ≡ s0 → ⊥) → s < n → st d s ≡ Current p → (d ≡ die → s ≡ slot → ⊥)
                → IsNext st' n dies p (d + 1) (link' d s)
            off_last d s p d0 s0 e off fits is apart =
                let old = seam.found d0 s0 e in
                let away : last ≡ Some (d, s) → ⊥ = λ k. let at = same_place d s d0 s0 (sym k ∙ e) in off at.0 at.1 in
                subst (IsNext st' n dies p (d + 1)) (sym (unlinked.links d s fits away))
                (elim (cases_eq p page) [
                  | inr other ↦ next_drop p (d + 1) (link d s) (λ k low a b. other b) (chained.links d s p fits is)
                  | inl same ↦
                      let held : st d s ≡ Current page = is ∙ ap Current same in
                      elim (cases_lt d d0) [
                        | inl less ↦
                            subst (λ q. IsNext st' n dies q (d + 1) (link d s)) (sym same)
                            (next_keep (d + 1) d0 s0 (link d s) (omega arith) old.0 old.2 old.3 (chained.links d s page fits held))
                        | inr more ↦ next_drop p (d + 1) (link d s) (λ k low a b. elim (cases_eq d d0) [
                          | inl at ↦ off at (chained.once d0 s s0 page fits old.2 ((λ i. st (sym at i) s) ∙ held) old.3)
                          | inr past ↦ elim (cases_lt d die) [
                            | inl under ↦ seam_bare st n dies page die last next seam d s (subst (λ k. k ≤ d) (sym (ap behind e)) (omega (arith, more, past))) under fits held
                            | inr over ↦ omega (arith, over, low, a)
                          ]
                        ]) (chained.links d s p fits is)
                      ]
                ])

  module _ (low : die < dies) (known : page < pages) (free : (p : ℕ) → st die slot ≡ Current p → ⊥) (bare : (s : ℕ) → s < n → st die s ≡ Current page → ⊥)
      (here : st' die slot ≡ Current page) (linked : IsLinked page die slot n last next head head' link link') where
    stood : (d s p : ℕ) → s < n → st' d s ≡ Current p → (d ≡ die → s ≡ slot → ⊥) → st d s ≡ Current p
    stood d s p fits is apart = sym (other d s fits apart) ∙ is

    stands : (d s p : ℕ) → s < n → st d s ≡ Current p → st' d s ≡ Current p
    stands d s p fits is = other d s fits (λ a b. free p ((λ i. st (sym a i) (sym b i)) ∙ is)) ∙ is

    -- the page of the new copy
    page_here : (d s p : ℕ) → d ≡ die → s ≡ slot → st' d s ≡ Current p → p ≡ page
    page_here d s p a b is = same_page p page (sym is ∙ (λ i. st' (a i) (b i)) ∙ here)

    new_drop : (p from : ℕ) (l : Option (ℕ × ℕ)) → (from ≤ die → p ≡ page → ⊥) → IsNext st n dies p from l → IsNext st' n dies p from l
    new_drop p from l off follows = record {
      found = λ d s e. let old = follows.found d s e in (old.0, old.1, old.2, stands d s p old.2 old.3);
      between = λ d s a b c is. elim (place_cases d s die slot) [
        | inl at ↦ off (subst (λ k. from ≤ k) at.0 a) (page_here d s p at.0 at.1 is)
        | inr apart ↦ follows.between d s a b c (stood d s p b is apart)
      ];
    }

    new_here : (from : ℕ) → from ≤ die → ((d s : ℕ) → from ≤ d → d < die → s < n → st d s ≡ Current page → ⊥) → IsNext st' n dies page from (some_place die slot)
    new_here from under none = record {
      found = λ d s e.
          let at = same_place die slot d s e in
          (subst (λ k. from ≤ k) at.0 under, subst (λ k. k < dies) at.0 low, subst (λ k. k < n) at.1 within, (λ i. st' (sym at.0 i) (sym at.1 i)) ∙ here);
      between = λ d s a b c is.
          let less = before_lt d die slot (some_place die slot) refl c in
          none d s a less b (stood d s page b is (λ k _. omega (arith, k, less)));
    }

    new_keep : (from d0 s0 : ℕ) (l : Option (ℕ × ℕ)) → from ≤ d0 → d0 < die → s0 < n → st d0 s0 ≡ Current page
        → IsNext st n dies page from l → IsNext st' n dies page from l
    new_keep from d0 s0 l under less fits is follows =
        let first = next_low st n dies page from l follows d0 s0 under fits is in
        record {
          found = λ d s e. let old = follows.found d s e in (old.0, old.1, old.2, stands d s page old.2 old.3);
          between = λ d s a b c held.
              let early = before_lt d first.0 first.1 l first.2 c in
              let no_more = first.3 in
              follows.between d s a b c (stood d s page b held (λ k _. omega (arith, k, early, no_more, less)));
        }

    -- what follows the new copy
    new_next : IsNext st' n dies page (die + 1) next
    new_next = record {
      found = λ d s e.
          let old = seam.follows.found d s e in
          let late = seam.late d s e in (
            elim (cases_eq d die) [
              | inl at ↦ absurd (bare s old.2 ((λ i. st (sym at i) s) ∙ old.3))
              | inr apart ↦ omega (arith, late, apart)
            ],
            old.1,
            old.2,
            stands d s page old.2 old.3,
          );
      between = λ d s a b c is. seam.follows.between d s (over d a) b c (stood d s page b is (λ k _. omega (arith, k, a)));
    }
      where
        over : (d : ℕ) → die + 1 ≤ d → behind last ≤ d
        over d a = elim (place_or_none last) [
          | inl none ↦ subst (λ k. k ≤ d) (sym (ap behind none)) (omega arith)
          | inr some ↦
              let old = seam.found some.0 some.1 some.2 in
              let less = old.0 in
              subst (λ k. k ≤ d) (sym (ap behind some.2)) (omega (arith, a, less))
        ]

    pub chained_with : IsChained st' head' link' n dies pages
    chained_with = record {
      fits = λ d s p fits is. elim (place_cases d s die slot) [
        | inl at ↦ (subst (λ k. k < dies) (sym at.0) low, subst (λ k. k < pages) (sym (page_here d s p at.0 at.1 is)) known)
        | inr apart ↦ chained.fits d s p fits (stood d s p fits is apart)
      ];
      once = λ d s o p a b is also. elim (place_cases d s die slot) [
        | inl at ↦ elim (place_cases d o die slot) [
          | inl two ↦ at.1 ∙ sym two.1
          | inr apart ↦ absurd (alone d o p at.0 (page_here d s p at.0 at.1 is) b (stood d o p b also apart))
        ]
        | inr apart ↦ elim (place_cases d o die slot) [
          | inl two ↦ absurd (alone d s p two.0 (page_here d o p two.0 two.1 also) a (stood d s p a is apart))
          | inr both ↦ chained.once d s o p a b (stood d s p a is apart) (stood d o p b also both)
        ]
      ];
      heads = λ p fits. elim (cases_eq p page) [
        | inr apart ↦ subst (IsNext st' n dies p 0) (sym (linked.heads p (λ none. apart))) (new_drop p 0 (head p) (λ _. apart) (chained.heads p fits))
        | inl same ↦ elim (place_or_none last) [
          | inl none ↦
              subst (λ k. IsNext st' n dies k 0 (head' k)) (sym same)
              (subst (IsNext st' n dies page 0) (sym (linked.first none))
              (new_here 0 (omega arith) (λ d s a less b held. seam_bare st n dies page die last next seam d s (from_none none d) less b held)))
          | inr some ↦
              let old = seam.found some.0 some.1 some.2 in
              subst (λ k. IsNext st' n dies k 0 (head' k)) (sym same)
              (subst (IsNext st' n dies page 0) (sym (linked.heads page (λ none _. none-some (some.0, some.1) (sym none ∙ some.2))))
              (new_keep 0 some.0 some.1 (head page) (omega arith) old.0 old.2 old.3 (chained.heads page known)))
        ]
      ];
      links = λ d s p fits is. elim (place_cases d s die slot) [
        | inl at ↦ new_link d s p at.0 at.1 is
        | inr apart ↦ old_link d s p fits apart (stood d s p fits is apart)
      ];
    }
      where
        from_none : last ≡ None → (d : ℕ) → behind last ≤ d
        from_none none d = subst (λ k. k ≤ d) (sym (ap behind none)) (omega arith)

        alone : (d o p : ℕ) → d ≡ die → p ≡ page → o < n → st d o ≡ Current p → ⊥
        alone d o p a e b is = bare o b ((λ i. st (sym a i) o) ∙ is ∙ ap Current e)

        new_link : (d s p : ℕ) → d ≡ die → s ≡ slot → st' d s ≡ Current p → IsNext st' n dies p (d + 1) (link' d s)
        new_link d s p a b is =
            let same = page_here d s p a b is in
            subst (λ l. IsNext st' n dies p (d + 1) l) (sym ((λ i. link' (a i) (b i)) ∙ linked.new))
            (subst (λ q. IsNext st' n dies q (d + 1) next) (sym same) (subst (λ k. IsNext st' n dies page (k + 1) next) (sym a) new_next))

        old_link : (d s p : ℕ) → s < n → (d ≡ die → s ≡ slot → ⊥) → st d s ≡ Current p → IsNext st' n dies p (d + 1) (link' d s)
        old_link d s p fits apart is =
            elim (place_or_none last) [
              | inl none ↦ subst (IsNext st' n dies p (d + 1)) (sym (linked.links d s fits (λ e. none-some (d, s) (sym none ∙ e)) apart))
                  (new_drop p (d + 1) (link d s) (λ low same. seam_bare st n dies page die last next seam d s (from_none none d) (omega arith) fits (is ∙ ap Current same)) (chained.links d s p fits is))
              | inr some ↦ elim (place_cases d s some.0 some.1) [
                | inl at ↦ at_last d s p some.0 some.1 some.2 at.0 at.1 is
                | inr off ↦ off_last d s p some.0 some.1 some.2 off fits is apart
              ]
            ]
          where
            at_last : (d s p d0 s0 : ℕ) → last ≡ Some (d0, s0) → d ≡ d0 → s ≡ s0 → st d s ≡ Current p → IsNext st' n dies p (d + 1) (link' d s)
            at_last d s p d0 s0 e a b is =
                let old = seam.found d0 s0 e in
                let same : p ≡ page = same_page p page (sym is ∙ (λ i. st (a i) (b i)) ∙ old.3) in
                let there : last ≡ some_place d s = e ∙ (λ i. some_place (sym a i) (sym b i)) in
                subst (λ q. IsNext st' n dies q (d + 1) (link' d s)) (sym same)
                (subst (IsNext st' n dies page (d + 1)) (sym (linked.previous d s there))
                (new_here (d + 1) (omega (arith, a, old.0)) (λ d' s' low less fits held.
                seam_bare st n dies page die last next seam d' s' (subst (λ k. k ≤ d') (sym (ap behind there)) low) less fits held)))

            off_last : (d s p d0 s0 : ℕ) → last ≡ Some (d0, s0) → (d ≡ d0 → s ≡ s0 → ⊥) → s < n → st d s ≡ Current p → (d ≡ die → s ≡ slot → ⊥)
                → IsNext st' n dies p (d + 1) (link' d s)
            off_last d s p d0 s0 e off fits is apart =
                let old = seam.found d0 s0 e in
                let away : last ≡ Some (d, s) → ⊥ = λ k. let at = same_place d s d0 s0 (sym k ∙ e) in off at.0 at.1 in
                subst (IsNext st' n dies p (d + 1)) (sym (linked.links d s fits away apart))
                (elim (cases_eq p page) [
                  | inr other ↦ new_drop p (d + 1) (link d s) (λ _. other) (chained.links d s p fits is)
                  | inl same ↦
                      let held : st d s ≡ Current page = is ∙ ap Current same in
                      elim (cases_lt d d0) [
                        | inl less ↦
                            subst (λ q. IsNext st' n dies q (d + 1) (link d s)) (sym same)
                            (new_keep (d + 1) d0 s0 (link d s) (omega arith) old.0 old.2 old.3 (chained.links d s page fits held))
                        | inr more ↦ new_drop p (d + 1) (link d s) (λ low same. elim (cases_eq d d0) [
                          | inl at ↦ off at (chained.once d0 s s0 page fits old.2 ((λ i. st (sym at i) s) ∙ held) old.3)
                          | inr past ↦ seam_bare st n dies page die last next seam d s (subst (λ k. k ≤ d) (sym (ap behind e)) (omega (arith, more, past))) (omega (arith, low)) fits held
                        ]) (chained.links d s p fits is)
                      ]
                ])
