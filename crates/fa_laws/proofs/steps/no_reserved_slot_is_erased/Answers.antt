use Rattle.std.proofs.Common.{◌≡◌, ℕ, Bool, true, false, ◌&&◌, nat_lt, Option, Some, None, refl, sym, ap, ◌∙◌, eqb-true}
use Rattle.std.specs.Option.{option_map_or}
use Rattle.std.specs.Prelude.{◌==◌}
use Rattle.std.proofs.lemmas.Bool.{and_parts, false≢true}
use Rattle.fa_machine.specs.declared.ids.Block.{Block}
use Rattle.fa_machine.specs.declared.jobs.CollectorStep.{CollectorStep}
use Rattle.fa_machine.specs.declared.jobs.CollectorStep.TheVariants.{MoveSlot, EraseBlock, Nothing}
use Rattle.fa_machine.specs.Collecting.{may_be_victim, victim, step_on, count_in}
use Rattle.fa_machine.specs.Copies.{is_reserved_slot, is_stale_slot}
use Rattle.fa_machine.specs.Maps.{below}
use Rattle.fa_machine.specs.State.{MapState}
use Rattle.fa_machine.proofs.Lists.{found_passes}
use Rattle.fa_laws.proofs.steps.no_reserved_slot_is_erased.Goals as goal

abbrev is_erase : CollectorStep → Bool
is_erase (MoveSlot slot) = false
is_erase (EraseBlock block) = true
is_erase Nothing = false

abbrev erased_block : CollectorStep → ℕ
erased_block (MoveSlot slot) = 0
erased_block (EraseBlock block) = block.0
erased_block Nothing = 0

-- the block that is erased is the victim
the_victim : (b : ℕ) (found : Option ℕ) (block : Block)
    → option_map_or (λ slot. MoveSlot (record { 0 = slot })) found (EraseBlock (record { 0 = b })) ≡ EraseBlock block → b ≡ block.0
the_victim b None block e = ap erased_block e
the_victim b (Some slot) block e = absurd (false≢true (ap is_erase e))

no_reserved : (m : MapState) (die : ℕ) (block : Block) (v : Option ℕ) → victim m die ≡ v → option_map_or (step_on m die) v Nothing ≡ EraseBlock block
    → count_in m die block.0 is_reserved_slot ≡ 0
no_reserved m die block None is e = absurd (false≢true (ap is_erase e))
no_reserved m die block (Some b) is e =
    let same : b ≡ block.0 = the_victim b _ block e in
    let passes = (found_passes _ (below m.geometry.blocks) b is).0 in
    let may : may_be_victim m die b ≡ true = (and_parts (may_be_victim m die b) _ passes).0 in
    let stale : Bool = nat_lt 0 (count_in m die b is_stale_slot) in
    let unreserved : Bool = count_in m die b is_reserved_slot == 0 in
    let none : unreserved ≡ true = (and_parts stale unreserved (and_parts (stale && unreserved) _ may).0).1 in
    ap (λ (n : ℕ). count_in m die n is_reserved_slot) (sym same) ∙ eqb-true _ _ none

pub returns : goal.returns
returns c m die block e = no_reserved m die block (victim m die) refl e
