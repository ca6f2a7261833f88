-- Pages of a list that pass a test and are not lost are a sound batch, and their holders are live.
use Rattle.fa_batch_terms.proofs.Counting.{count-from-none, count_by-cons}
use Rattle.fa_batch_terms.specs.Batch.{Entry, IsSound, holds, is_among, times_named}
use Rattle.fa_machine.proofs.Lists.{all_from_among, among-filter, among-map, found_passes}
use Rattle.fa_machine.proofs.Maps.{has_some}
use Rattle.fa_machine.specs.Among.{Among}
use Rattle.fa_machine.specs.Copies.{holders, holds_page, is_current, is_lost}
use Rattle.fa_machine.specs.Maps.{is_one_of}
use Rattle.fa_machine.specs.Reading.{entries_for}
use Rattle.fa_machine.specs.State.{MapState, dies_of, is_live, slots_of}
use Rattle.fa_machine.specs.Step.{is_distinct}
use Rattle.std.proofs.Common.{Bool, List, [], ap, arith, cond, false, inl, inr, map, refl, sym, suc, true, zero, ℕ, ◌+◌, ◌<◌}
use Rattle.std.proofs.Common.{◌≤◌, ◌∙◌, ◌∷◌, ◌≡◌}
use Rattle.std.proofs.lemmas.Bool.{cases_Bool, eqb-true, false≢true, or_cases}
use Rattle.std.proofs.lemmas.List.{length-map}
use Rattle.std.proofs.lemmas.List.Elements.{All-from_recursion}
use Rattle.std.proofs.lemmas.List.Sums.{length-filter}
use Rattle.std.specs.FinMap.{get}
use Rattle.std.specs.List.{count_by}
use Rattle.std.specs.Prelude.{filter, find, is_some, length, not, ◌&&◌, ◌==◌}

counted_le : (p : ℕ → Bool) (ns : List ℕ) → count_by p ns ≤ length ns
counted_le p [] = omega arith
counted_le p (n ∷ ns) = let split = count_by-cons p n ns in let rest = counted_le p ns in go (p n) split rest
  where
    go : (b : Bool) → count_by p (n ∷ ns) ≡ cond b 1 0 + count_by p ns → count_by p ns ≤ length ns → count_by p (n ∷ ns) ≤ length (n ∷ ns)
    go true split rest = omega (arith, split, rest)
    go false split rest = omega (arith, split, rest)

pub not_both : (a b : Bool) → (not a && b) ≡ true → (a ≡ false) × (b ≡ true)
not_both true b is = absurd (false≢true is)
not_both false b is = (refl, is)

-- a page stands once in a list that names none twice
once_in : (ns : List ℕ) (page : ℕ) → is_distinct ns ≡ true → count_by (λ n. n == page) ns ≤ 1
once_in [] page is = omega arith
once_in (n ∷ ns) page is =
    let parts = not_both (is_one_of ns n) (is_distinct ns) is in
    let split = count_by-cons (λ n. n == page) n ns in
    let rest = once_in ns page parts.1 in
    elim (cases_Bool (n == page)) [
      | inl here ↦
          let none : count_by (λ m. m == page) ns ≡ 0 =
          ap (λ k. count_by (λ m. m == k) ns) (sym (eqb-true n page here)) ∙ count-from-none (λ m. m == n) ns parts.0 in
          let one = split ∙ ap (λ b. cond b 1 0 + count_by (λ n. n == page) ns) here in
          omega (arith, one, none)
      | inr other ↦
          let same = split ∙ ap (λ b. cond b 1 0 + count_by (λ n. n == page) ns) other in
          omega (arith, same, rest)
    ]

module _ (m : MapState) (q : ℕ → Bool) where
  abbrev entries : List ℕ → List Entry
  entries ps = entries_for m (filter q ps)

  named_le : (ps : List ℕ) (page : ℕ) → times_named (entries ps) page ≤ count_by (λ n. n == page) ps
  named_le [] page = omega arith
  named_le (p ∷ ps) page = go (q p) (count_by-cons (λ n. n == page) p ps) (named_le ps page)
    where
      go : (b : Bool) → count_by (λ n. n == page) (p ∷ ps) ≡ cond (p == page) 1 0 + count_by (λ n. n == page) ps
          → times_named (entries ps) page ≤ count_by (λ n. n == page) ps
          → times_named (entries_for m (cond b (p ∷ filter q ps) (filter q ps))) page ≤ count_by (λ n. n == page) (p ∷ ps)
      go true split rest =
          let one = count_by-cons (λ (e : Entry). e.page.0 == page)
          (record { page = record { 0 = p }; holders = map (λ (die : ℕ). record { 0 = die }) (holders m p) }) (entries ps) in
          omega (arith, split, rest, one)
      go false split rest = omega (arith, split, rest)

  held_one : (ps : List ℕ) → ((page : ℕ) → q page ≡ true → is_some (get m.versions page) ≡ true) → ((page : ℕ) → Among page (filter q ps)
      → is_lost m page ≡ false)
      → (e : Entry) → Among e (entries ps) → 0 < length e.holders
  held_one ps written kept e among =
      let found = among-map _ e (filter q ps) among in
      let page = found.0 in
      let passes = among-filter q page ps found.1 in
      let lost = kept page found.1 in
      let some = not_empty (is_some (get m.versions page)) (length (holders m page)) (written page passes.1) lost in
      let same = ap (λ (e : Entry). length e.holders) (sym found.2) ∙ length-map (holders m page) (λ (die : ℕ). record { 0 = die }) in
      omega (arith, some, same)
    where
      not_empty : (b : Bool) (n : ℕ) → b ≡ true → (b && n == 0) ≡ false → 0 < n
      not_empty b zero is lost = absurd (false≢true (sym lost ∙ ap (λ b. b && 0 == 0) is))
      not_empty b (suc n) is lost = omega arith

  pub sound_of : (ps : List ℕ) → is_distinct ps ≡ true → length ps ≤ 1024
      → ((page : ℕ) → q page ≡ true → is_some (get m.versions page) ≡ true) → ((page : ℕ) → Among page (filter q ps) → is_lost m page
      ≡ false)
      → IsSound (entries ps)
  sound_of ps distinct few written kept =
      let short : length (entries ps) ≡ count_by q ps =
      length-map (filter q ps) (λ page. record {
        page = record { 0 = page };
        holders = map (λ (die : ℕ). record { 0 = die })
            (holders m page);
      })
      ∙ length-filter q ps in
      let less = counted_le q ps in record {
        few = omega (arith, short, less, few);
        fine = record {
          held = All-from_recursion _ (entries ps) (all_from_among _ (entries ps) (held_one ps written kept));
          once = λ page. let named = named_le ps page in let one = once_in ps page distinct in omega (arith, named, one);
        };
      }

and_left : (a b : Bool) → (a && b) ≡ true → a ≡ true
and_left true b is = refl
and_left false b is = absurd (false≢true is)

module _ (m : MapState) where
  live_holder : (page die : ℕ) → holds_page m page die ≡ true → is_live m die ≡ true
  live_holder page die held =
      let some = has_some (find (is_current m page die) (slots_of m)) held in
      let passes = found_passes (is_current m page die) (slots_of m) some.0 some.1 in
      and_left (is_live m die) _ passes.0

  among_holders : (page die : ℕ) (dies : List ℕ) → is_among (map (λ (d : ℕ). record { 0 = d }) (filter (holds_page m page) dies)) die ≡ true
      → holds_page m page die ≡ true
  among_holders page die [] is = absurd (false≢true is)
  among_holders page die (d ∷ dies) is = go (holds_page m page d) refl is (among_holders page die dies)
    where
      go : (b : Bool) → holds_page m page d ≡ b
          → is_among (map (λ (d : ℕ). record { 0 = d }) (cond b (d ∷ filter (holds_page m page) dies) (filter
          (holds_page m page) dies))) die ≡ true
          → (is_among (map (λ (d : ℕ). record { 0 = d }) (filter (holds_page m page) dies)) die ≡ true → holds_page m page die ≡ true)
          → holds_page m page die ≡ true
      go false not is later = later is
      go true here is later =
          elim (or_cases (d == die) _ is) [
            | inl same ↦ ap (holds_page m page) (sym (eqb-true d die same)) ∙ here
            | inr others ↦ later others
          ]

  pub holder_live : (pages : List ℕ) (page die : ℕ) → holds (entries_for m pages) page die ≡ true → is_live m die ≡ true
  holder_live [] page die is = absurd (false≢true is)
  holder_live (p ∷ pages) page die is =
      elim (or_cases (p == page && is_among (map (λ (d : ℕ). record { 0 = d }) (holders m p)) die) (holds
      (entries_for m pages) page die) is) [
        | inl here ↦ live_holder p die (among_holders p die (dies_of m) (and_right (p == page) _ here))
        | inr others ↦ holder_live pages page die others
      ]
    where
      and_right : (a b : Bool) → (a && b) ≡ true → b ≡ true
      and_right true b is = is
      and_right false b is = absurd (false≢true is)
