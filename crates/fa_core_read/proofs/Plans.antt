-- What a plan of some pages on their holders says of its places.
use Rattle.fa_batch_terms.specs.Batch.{Entry, holds, is_among}
use Rattle.fa_batch_terms.specs.Plan.{IsPlan, times_placed}
use Rattle.fa_batch_terms.specs.declared.place.Place.{Place}
use Rattle.fa_machine.proofs.Lists.{all_from_among, among-map-intro}
use Rattle.fa_machine.specs.Among.{Among}
use Rattle.fa_machine.specs.Copies.{holders}
use Rattle.fa_machine.specs.Reading.{entries_for}
use Rattle.fa_machine.specs.State.{MapState, is_live}
use Rattle.fa_core_read.proofs.Exchanged.{among_all}
use Rattle.fa_core_read.proofs.Sound.{holder_live}
use Rattle.fa_types.specs.Open.{IsOpen}
use Rattle.std.proofs.Common.{Bool, List, [], false, inl, inr, map, refl, true, ℕ, ◌<◌, ◌≤◌, ◌∷◌, ◌≡◌}
use Rattle.std.proofs.lemmas.Bool.{eqb-true, false≢true, or_cases}
use Rattle.std.proofs.lemmas.List.Elements.{recursion_from_All}
use Rattle.std.specs.List.{AllByRecursion}
use Rattle.std.specs.Prelude.{◌&&◌, ◌==◌}

module _ (m : MapState) where
  left_of_both : (a b : Bool) → (a && b) ≡ true → a ≡ true
  left_of_both true b is = refl
  left_of_both false b is = absurd (false≢true is)

  -- a page that is held in a batch is one of its pages
  held_among : (pages : List ℕ) (page die : ℕ) → holds (entries_for m pages) page die ≡ true → Among page pages
  held_among [] page die is = absurd (false≢true is)
  held_among (p ∷ pages) page die is =
      elim (or_cases (p == page && is_among (map (λ (d : ℕ). record { 0 = d }) (holders m p)) die) (holds
      (entries_for m pages) page die) is) [
        | inl here ↦ inl (eqb-true p page (left_of_both (p == page) _ here))
        | inr others ↦ inr (held_among pages page die others)
      ]

  module _ (pages : List ℕ) (current : ℕ) (closed : ℕ → ℕ → Bool) (places : List Place)
      (plan : IsPlan (entries_for m pages) current closed places) where
    held_there : (x : Place) → Among x places → holds (entries_for m pages) x.page.0 x.die.0 ≡ true
    held_there =
        among_all (λ (x : Place). holds (entries_for m pages) x.page.0 x.die.0 ≡ true) places (recursion_from_All _ places plan.held)

    pub placed_page : (x : Place) → Among x places → Among x.page.0 pages
    placed_page x among = held_among pages x.page.0 x.die.0 (held_there x among)

    pub placed_live : (x : Place) → Among x places → is_live m x.die.0 ≡ true
    placed_live x among = holder_live m pages x.page.0 x.die.0 (held_there x among)

    pub placed_open : (x : Place) → Among x places → IsOpen current closed x.die.0 x.round.0
    placed_open =
        among_all (λ (x : Place). IsOpen current closed x.die.0 x.round.0) places (recursion_from_All _ places plan.opens)

    pub each_placed : (page : ℕ) → Among page pages → 0 < times_placed places page
    each_placed page among =
        let entry : ℕ → Entry = λ p. record { page = record { 0 = p }; holders = map (λ (d : ℕ). record { 0 = d }) (holders m p) } in
        among_all (λ (e : Entry). 1 ≤ times_placed places e.page.0) (entries_for m pages)
        (recursion_from_All _ (entries_for m pages) plan.each)
        (entry page) (among-map-intro entry page pages among)

    -- where all live dies are of the array, those of the plan are
    pub placed_inside : (dies : ℕ) → ((die : ℕ) → is_live m die ≡ true → die < dies) → AllByRecursion (λ (x : Place). x.die.0 < dies) places
    placed_inside dies low =
        all_from_among (λ (x : Place). x.die.0 < dies) places (λ x among. low x.die.0 (placed_live x among))
