-- The block with most stale slots, as blocks are looked for by falling numbers of stale slots.
use Rattle.std.proofs.Common.{None, Option, Some, Bool, ap, arith, false, inl, inr, refl, sym, true, ℕ, ◌+◌, ◌-◌, ◌*◌, ◌<◌, ◌≤◌, ◌==◌, ◌∙◌, ◌≡◌}
use Rattle.std.proofs.lemmas.Bool.{and_from, and_parts, cases_eq, eq-eqb, eqb-true, false_from_ne_true, false≢true, lt-ltb, ltb-true}
use Rattle.std.proofs.lemmas.Option.{none-some, same_Some}
use Rattle.std.specs.List.{count_by, find, range_with_len}
use Rattle.std.specs.Prelude.{nat_lt, ◌&&◌}
use Rattle.fa_machine.specs.Collecting.{count_in}
use Rattle.fa_machine.specs.Copies.{is_reserved_slot, is_stale_slot}
use Rattle.fa_machine.specs.Maps.{below}
use Rattle.fa_machine.specs.State.{MapState, used_at}
use Rattle.fa_map_calls.specs.Blocks.{IsGreatest, is_clean_block}
use Rattle.fa_map_calls.proofs.Ranges.{count_le, find_is, none_is}

module _ (m : MapState) (die : ℕ) where
  abbrev pub stale : ℕ → ℕ
  stale k = count_in m die k is_stale_slot

  abbrev pub with_stale : ℕ → ℕ → Bool
  with_stale n k = count_in m die k is_reserved_slot == 0 && stale k == n

  abbrev pub clean : ℕ → Bool
  clean k = is_clean_block m die k

  -- each block that has stale slots and no reserved one has at least so many that are not stale
  abbrev pub HasOthers : ℕ → Type 0
  HasOthers other = (k : ℕ) → k < m.geometry.blocks → clean k ≡ true → stale k + other ≤ m.geometry.slots

  pub others_begin : HasOthers 0
  others_begin k fits passes =
      let few = count_le (λ slot. is_stale_slot (used_at m die slot)) (k * m.geometry.slots) m.geometry.slots in omega (arith, few)

  is_with : (n k : ℕ) → clean k ≡ true → stale k ≡ n → with_stale n k ≡ true
  is_with n k passes is =
      and_from (count_in m die k is_reserved_slot == 0) (stale k == n)
      (and_parts (nat_lt 0 (stale k)) (count_in m die k is_reserved_slot == 0) passes).1 (eq-eqb (stale k) n is)

  module _ (other : ℕ) (some : other < m.geometry.slots) (so_far : HasOthers other) where
    abbrev n : ℕ
    n = m.geometry.slots - other

    pub others_more : find (with_stale n) (below m.geometry.blocks) ≡ None → HasOthers (other + 1)
    others_more none k fits passes =
        let least = so_far k fits passes in
        elim (cases_eq (stale k) n) [
          | inr apart ↦ omega (arith, least, apart, some)
          | inl is ↦ absurd (false≢true (sym (none_is (with_stale n) 0 m.geometry.blocks k none (omega arith) (omega (arith, fits))) ∙ is_with n k passes is))
        ]

    pub others_found : (block : ℕ) → find (with_stale n) (below m.geometry.blocks) ≡ Some block → IsGreatest m.geometry.blocks clean stale (Some block)
    others_found block at =
        let parts = find_is (with_stale n) 0 m.geometry.blocks block at in
        let has = and_parts (count_in m die block is_reserved_slot == 0) (stale block == n) parts.2 in
        let many = eqb-true (stale block) n has.1 in
        record {
          inside = λ k e. let same = same_Some block k e in (
            omega (arith, parts.1, same),
            ap clean (sym same)
                ∙ and_from (nat_lt 0 (stale block)) (count_in m die block is_reserved_slot == 0) (lt-ltb 0 (stale block) (omega (arith, many, some))) has.0,
          );
          most = λ k rival e fits passes.
              let same = ap stale (same_Some block k e) in
              let least = so_far rival fits passes in omega (arith, same, least, many, some);
          lowest = λ k rival e less passes.
              let same = same_Some block k e in
              let as_many = ap stale same in
              let fits : rival < m.geometry.blocks = omega (arith, less, same, parts.1) in
              let least = so_far rival fits passes in
              elim (cases_eq (stale rival) n) [
                | inr apart ↦ omega (arith, as_many, least, many, apart, some)
                | inl is ↦ absurd (false≢true (sym (parts.3 rival (omega arith) (omega (arith, less, same))) ∙ is_with n rival passes is))
              ];
          none = λ e. absurd (none-some block (sym e));
        }

  pub others_end : (other : ℕ) → m.geometry.slots ≤ other → HasOthers other → IsGreatest m.geometry.blocks clean stale None
  others_end other all so_far = record {
    inside = λ k e. absurd (none-some k e);
    most = λ k rival e. absurd (none-some k e);
    lowest = λ k rival e. absurd (none-some k e);
    none = λ _ rival fits. false_from_ne_true (clean rival) (λ passes.
        let least = so_far rival fits passes in
        let some = ltb-true 0 (stale rival) (and_parts (nat_lt 0 (stale rival)) (count_in m die rival is_reserved_slot == 0) passes).0 in
        omega (arith, least, some, all));
  }
