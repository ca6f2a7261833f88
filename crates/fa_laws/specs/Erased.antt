-- Which event erases a slot, and how a Commit changes the numbers of pages.
use Rattle.std.specs.Prelude.{◌≡◌, ℕ, ◌<◌, true, false, Some, option_map}
use Rattle.std.specs.FinMap.{get}
use Rattle.fa_types.specs.declared.numbers.Seq.{Seq}
use Rattle.fa_machine.specs.Cells.{DidErase}
use Rattle.fa_machine.specs.Collecting.{is_in_block}
use Rattle.fa_machine.specs.Copies.{is_reserved_slot}
use Rattle.fa_machine.specs.State.{Core, used_at}
use Rattle.fa_machine.specs.Step.{Act, Done}
use Rattle.fa_machine.specs.declared.ids.Block.{Block}
use Rattle.fa_machine.specs.declared.jobs.Flight.TheVariants.{Erase}
use Rattle.fa_machine.specs.declared.places.Version.{Version}

-- the die's erase of the block that has the slot ends, and the slot was not reserved
abbrev pub IsErased : Core → Act → ℕ → ℕ → Type 0
IsErased old (Done d DidErase) die slot =
    (d ≡ die) × ((block : Block) × (get old.jobs die ≡ Some (Erase block)) × (is_in_block old.page_map block.0 slot ≡ true))
    × (is_reserved_slot (used_at old.page_map die slot) ≡ false)
IsErased old act die slot = ⊥

-- the page has the number then, which is above the one that it had, and no other page's number changes
pub record RaisesNumber (old : Core) (page : ℕ) (seq : Seq) (new : Core) : Type 0 where
  pub given : option_map {T = Version} (λ v. v.seq) (get new.page_map.versions page) ≡ Some seq
  pub above : (before : Version) → get old.page_map.versions page ≡ Some before → before.seq.0 < seq.0
  pub others : (other : ℕ) → (other ≡ page → ⊥) → get new.page_map.versions other ≡ get old.page_map.versions other
