use Rattle.std.proofs.Common.{ℕ, ◌*◌, ◌<◌, ◌==◌, ◌&&◌, Option, None, Some, ap, subst, sym}
use Rattle.std.specs.Prelude.{nat_lt}
use Rattle.fa_machine.specs.Collecting.{count_in}
use Rattle.fa_machine.specs.Copies.{is_stale_slot}
use Rattle.fa_types.specs.declared.geometry.Geometry.{Geometry}
use Rattle.fa_map.specs.Entries.{entries_in}
use Rattle.fa_map_calls.specs.Blocks.{IsGreatest, is_clean_block}
use Rattle.fa_map_calls.specs.Plain.{die_slots}
use Rattle.fa_map.specs.declared.page_map.PageMap.{PageMap}
use Rattle.fa_map_calls.specs.declared.slots.SlotState.{SlotState}
use Rattle.fa_map_calls.specs.declared.slots.SlotState.TheVariants as states
use Rattle.fa_map.proofs.Found.{greatest_told}
use Rattle.fa_map.proofs.Seen.{shown_count_in}
use Rattle.fa_map.proofs.page_map.PageMapMap.stalest_block.Goals as goal

module _ {A : Type 0} (s : PageMap A) (die : ℕ) (found : Option ℕ) where
  abbrev Told : Geometry → Type 0
  Told k = IsGreatest k.blocks
      (λ b. nat_lt 0 (entries_in s.tables.slots.entries (die_slots k) die (b * k.slots) k.slots states.Stale)
      && entries_in s.tables.slots.entries (die_slots k) die (b * k.slots) k.slots states.Reserved == 0)
      (λ b. entries_in s.tables.slots.entries (die_slots k) die (b * k.slots) k.slots states.Stale) found

  -- the tables' block is the map's
  seen : Told s.tables.geometry
      → IsGreatest s.history.shown.geometry.blocks (is_clean_block s.history.shown die) (λ b. count_in s.history.shown die b is_stale_slot) found
  seen is =
      let shown = λ (state : SlotState) (b : ℕ) (fits : b < s.geometry.blocks).
      shown_count_in s.history.shown s.geometry s.live.items s.live_dies s.tables.pages.versions s.tables.slots.entries s.sound state die b fits in
      subst (λ n. IsGreatest n (is_clean_block s.history.shown die) (λ b. count_in s.history.shown die b is_stale_slot) found)
      (sym (ap (λ (k : Geometry). k.blocks) s.sound.plain.geometry))
      (greatest_told s.geometry.blocks _ _ _ _ found
      (λ b fits. (λ i. nat_lt 0 (shown states.Stale b fits i) && shown states.Reserved b fits i == 0)) (λ b fits. shown states.Stale b fits)
      (subst Told s.same is))

pub returns-in-Some : goal.returns-in-Some
returns-in-Some g c = seen c.args.self.now c.args.die.0 (Some c.in-Some.block) c.in-Some.ensures

pub returns-in-None : goal.returns-in-None
returns-in-None g c = seen c.args.self.now c.args.die.0 None c.in-None.ensures
