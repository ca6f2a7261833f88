-- The block with most stale slots, of those with no reserved one, is the victim, or there is none.
use Rattle.fa_collect.proofs.Blocks.{all_in, block_sum, erased_few, one_of_all, outside_is}
use Rattle.fa_map_calls.proofs.Ranges.{find_none, find_some}
use Rattle.fa_map_calls.specs.Blocks.{IsGreatest, is_clean_block}
use Rattle.fa_machine.specs.Collecting.{count_in, is_erased_outside, is_no_better, may_be_victim, victim}
use Rattle.fa_machine.specs.Copies.{is_held_slot, is_reserved_slot, is_stale_slot}
use Rattle.fa_machine.specs.Maps.{below}
use Rattle.fa_machine.specs.Placement.{free}
use Rattle.fa_machine.specs.State.{MapState, slots_of}
use Rattle.std.proofs.Common.{Bool, None, Option, Some, ap, arith, false, inl, inr, not, refl, sym, true, ℕ, ◌+◌, ◌-◌, ◌<◌, ◌≤◌, ◌==◌, ◌∙◌, ◌≡◌}
use Rattle.std.proofs.lemmas.Bool.{and_from, and_parts, cases_Bool, eqb-true, false_from_ne_true, false≢true, le-leb, leb-true, or_cases, or_left, or_right}
use Rattle.std.specs.List.{count_by, list_all}
use Rattle.std.specs.Prelude.{is_none, nat_le, nat_lt, ◌&&◌}

module _ (m : MapState) (die : ℕ) (found : Option ℕ)
    (is : IsGreatest m.geometry.blocks (is_clean_block m die) (λ b. count_in m die b is_stale_slot) found) where
  abbrev may : ℕ → Bool
  may k = may_be_victim m die k

  abbrev stale : ℕ → ℕ
  stale k = count_in m die k is_stale_slot

  abbrev fits_outside : ℕ → Bool
  fits_outside k = nat_le (count_in m die k is_held_slot) (count_by (is_erased_outside m die k) (slots_of m))

  abbrev wins : ℕ → Bool
  wins k = may k && list_all (is_no_better m die k) (below m.geometry.blocks)

  loses : (k : ℕ) → may k ≡ false → wins k ≡ false
  loses k none = ap (λ b. b && list_all (is_no_better m die k) (below m.geometry.blocks)) none

  may_clean : (k : ℕ) → may k ≡ true → is_clean_block m die k ≡ true
  may_clean k passing = (and_parts (is_clean_block m die k) (fits_outside k) passing).0

  nothing : ((k : ℕ) → k < m.geometry.blocks → may k ≡ true → ⊥) → victim m die ≡ None
  nothing none = find_none wins 0 m.geometry.blocks (λ k low high. loses k (false_from_ne_true (may k) (none k (omega (arith, high)))))

  pub victim_none : found ≡ None → victim m die ≡ None
  victim_none at = nothing (λ k fits passing. false≢true (sym (is.none at k fits) ∙ may_clean k passing))

  module _ (b : ℕ) (at : found ≡ Some b) where
    low : b < m.geometry.blocks
    low = (is.inside b at).0

    pub victim_some : may b ≡ true → victim m die ≡ Some b
    victim_some passing = find_some wins 0 m.geometry.blocks b (omega arith) (let inner = low in omega (arith, inner)) passes fails
      where
        no_better : (k : ℕ) → k < m.geometry.blocks → is_no_better m die b k ≡ true
        no_better k inner =
            elim (cases_Bool (may k)) [
              | inl other ↦ or_right (not (may k)) (nat_le (stale k) (stale b)) (le-leb (stale k) (stale b) (is.most b k at inner (may_clean k other)))
              | inr none ↦ or_left (not (may k)) (nat_le (stale k) (stale b)) (ap not none)
            ]

        passes : wins b ≡ true
        passes = and_from (may b) (list_all (is_no_better m die b) (below m.geometry.blocks)) passing
            (all_in (is_no_better m die b) 0 m.geometry.blocks (λ k from inner. no_better k (omega (arith, inner))))

        worse : (k : ℕ) → k < b → may k ≡ true → is_no_better m die k b ≡ true → ⊥
        worse k less other all =
            elim (or_cases (not (may b)) (nat_le (stale b) (stale k)) all) [
              | inl none ↦ false≢true (sym (ap not passing) ∙ none)
              | inr few ↦
                  let a = leb-true (stale b) (stale k) few in
                  let c = is.lowest b k at less (may_clean k other) in omega (arith, a, c)
            ]

        fails : (k : ℕ) → 0 ≤ k → k < b → wins k ≡ false
        fails k from less =
            elim (cases_Bool (may k)) [
              | inr none ↦ loses k none
              | inl other ↦ false_from_ne_true (wins k) (λ all. worse k less other
                  (one_of_all (is_no_better m die k) 0 m.geometry.blocks b (omega arith) (let inner = low in omega (arith, inner))
                  (and_parts (may k) (list_all (is_no_better m die k) (below m.geometry.blocks)) all).1))
            ]

    -- where it may not be the victim, no block may: none has more stale slots, and so none fewer that are current or erased
    pub victim_full : may b ≡ false → victim m die ≡ None
    victim_full off = nothing (λ k fits passing. false≢true (sym off ∙ also k fits passing))
      where
        also : (k : ℕ) → k < m.geometry.blocks → may k ≡ true → may b ≡ true
        also k fits passing =
            let some = m.geometry.within.slots_fit in
            let parts = and_parts (is_clean_block m die k) (fits_outside k) passing in
            let least = leb-true (count_in m die k is_held_slot) (count_by (is_erased_outside m die k) (slots_of m)) parts.1 in
            let here = outside_is m die b (omega (arith, some.0)) low in
            let there = outside_is m die k (omega (arith, some.0)) fits in
            let few = erased_few m die k (omega (arith, some.0)) fits in
            let clean = (is.inside b at).1 in
            let none = eqb-true (count_in m die b is_reserved_slot) 0 (and_parts (nat_lt 0 (stale b)) (count_in m die b is_reserved_slot == 0) clean).1 in
            let bare = eqb-true (count_in m die k is_reserved_slot) 0 (and_parts (nat_lt 0 (stale k)) (count_in m die k is_reserved_slot == 0) parts.0).1 in
            let more = is.most b k at fits parts.0 in
            let all = block_sum m die b in
            let others = block_sum m die k in
            and_from (is_clean_block m die b) (fits_outside b) clean
            (le-leb (count_in m die b is_held_slot) (count_by (is_erased_outside m die b) (slots_of m))
            (omega (arith, least, here, there, few, none, bare, more, all, others)))
