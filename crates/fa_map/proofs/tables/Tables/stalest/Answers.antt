use Rattle.std.proofs.Common.{ℕ, ◌<◌, ◌≤◌, ◌*◌, ◌+◌, ◌-◌, ◌==◌, ◌&&◌, Option, ap, subst, sym, get_or, ◌∙◌, arith}
use Rattle.std.specs.List.{find, range_with_len}
use Rattle.std.specs.Prelude.{nat_lt}
use Rattle.std.specs.FinMap.{contains_key}
use Rattle.fa_map.specs.Entries.{entries_in, no_counts}
use Rattle.fa_map_calls.specs.Blocks.{IsGreatest}
use Rattle.fa_map.specs.Found.{is_clean}
use Rattle.fa_map_calls.specs.Plain.{die_slots}
use Rattle.fa_map_calls.specs.declared.slots.SlotState.TheVariants as states
use Rattle.fa_map.specs.declared.tables.Tables.{Tables}
use Rattle.fa_map.proofs.Found.{found_parts, greatest_told, stalest_at, stalest_none, stalest_past}
use Rattle.fa_map_calls.proofs.Ranges.{count_le, find_is}
use Rattle.fa_map.proofs.tables.Tables.stalest.Goals as goal

module _ {A : Type 0} (s : Tables A) (die : ℕ) (low : die < s.geometry.dies) where
  -- a block's counts are those of the entries
  few : (block : ℕ) → block < s.geometry.blocks → (get_or s.counts.items (die * s.geometry.blocks + block) no_counts).stale ≤ s.geometry.slots
  few block fits =
      subst (λ k. k ≤ s.geometry.slots) (sym (s.sound.tallied.counted die block states.Stale low fits)) (count_le _ (block * s.geometry.slots) s.geometry.slots)

  told : (found : Option ℕ)
      → IsGreatest s.geometry.blocks (λ b. is_clean (get_or s.counts.items (die * s.geometry.blocks + b) no_counts))
      (λ b. (get_or s.counts.items (die * s.geometry.blocks + b) no_counts).stale) found
      → IsGreatest s.geometry.blocks
      (λ b. nat_lt 0 (entries_in s.slots.entries (die_slots s.geometry) die (b * s.geometry.slots) s.geometry.slots states.Stale)
      && entries_in s.slots.entries (die_slots s.geometry) die (b * s.geometry.slots) s.geometry.slots states.Reserved == 0)
      (λ b. entries_in s.slots.entries (die_slots s.geometry) die (b * s.geometry.slots) s.geometry.slots states.Stale) found
  told found is = greatest_told s.geometry.blocks _ _ _ _ found
      (λ b fits. (λ i. nat_lt 0 (s.sound.tallied.counted die b states.Stale low fits i) && s.sound.tallied.counted die b states.Reserved low fits i == 0))
      (λ b fits. s.sound.tallied.counted die b states.Stale low fits) is

pub overflow_sub-result : goal.overflow_sub-result
overflow_sub-result g c =
    (find_is (contains_key c.args.self.now.finder.blocks) _ _ c.in-Some.index (sym c.block_from.ensures ∙ c.in-Some.is)).0

pub returns-in-Some : goal.returns-in-Some
returns-in-Some g c =
    let s = c.args.self.now in
    let start = c.args.die.0 * (s.geometry.slots + 1) * s.geometry.blocks in
    let some = s.geometry.within.blocks_fit in
    told s c.args.die.0 c.requires _
    (stalest_at s.geometry s.slots.entries s.counts.items (contains_key s.finder.slots) (contains_key s.finder.blocks) (found_parts s.geometry s.slots.entries s.counts.items s.finder s.found).2 c.args.die.0 c.requires
    (omega (arith, some.0)) (few s c.args.die.0 c.requires) c.block_from.result
    (c.block_from.ensures ∙ ap (λ k. find (contains_key s.finder.blocks) (range_with_len start (k - start))) (found_parts s.geometry s.slots.entries s.counts.items s.finder s.found).1)
    c.in-Some.index c.in-Some.is c.if-index-first.true)

pub returns-in_default : goal.returns-in_default
returns-in_default g c =
    let s = c.args.self.now in
    let start = c.args.die.0 * (s.geometry.slots + 1) * s.geometry.blocks in
    let some = s.geometry.within.blocks_fit in
    told s c.args.die.0 c.requires _
    (stalest_past s.geometry s.slots.entries s.counts.items (contains_key s.finder.slots) (contains_key s.finder.blocks) (found_parts s.geometry s.slots.entries s.counts.items s.finder s.found).2 c.args.die.0 c.requires
    (omega (arith, some.0)) (few s c.args.die.0 c.requires) c.block_from.result
    (c.block_from.ensures ∙ ap (λ k. find (contains_key s.finder.blocks) (range_with_len start (k - start))) (found_parts s.geometry s.slots.entries s.counts.items s.finder s.found).1)
    c.in-Some.index c.in-Some.is c.if-index-first.false)

pub returns-in_default-2 : goal.returns-in_default-2
returns-in_default-2 g c =
    let s = c.args.self.now in
    let start = c.args.die.0 * (s.geometry.slots + 1) * s.geometry.blocks in
    let some = s.geometry.within.blocks_fit in
    told s c.args.die.0 c.requires _
    (stalest_none s.geometry s.slots.entries s.counts.items (contains_key s.finder.slots) (contains_key s.finder.blocks) (found_parts s.geometry s.slots.entries s.counts.items s.finder s.found).2 c.args.die.0 c.requires
    (omega (arith, some.0)) (few s c.args.die.0 c.requires) c.block_from.result
    (c.block_from.ensures ∙ ap (λ k. find (contains_key s.finder.blocks) (range_with_len start (k - start))) (found_parts s.geometry s.slots.entries s.counts.items s.finder s.found).1)
    c.in_default.is)
