-- A slot is current where it holds a copy.
use Rattle.fa_machine.specs.Copies.{is_held_slot}
use Rattle.fa_machine.specs.declared.places.Used.{Used}
use Rattle.fa_machine.specs.declared.places.Used.TheVariants.{Held, Reserved as ReservedSlot, Stale as StaleSlot}
use Rattle.fa_map_calls.specs.Slots.{state_of}
use Rattle.fa_map_calls.specs.declared.slots.SlotState.{SlotState}
use Rattle.fa_map_calls.specs.declared.slots.SlotState.TheVariants.{Current, Erased, Reserved, Stale}
use Rattle.std.proofs.Common.{Bool, None, Option, Some, false, refl, true, ◌≡◌}

abbrev pub is_current_state : SlotState → Bool
is_current_state Current = true
is_current_state other = false

pub held_is : (used : Option Used) → is_held_slot used ≡ is_current_state (state_of used)
held_is None = refl
held_is (Some ReservedSlot) = refl
held_is (Some (Held page version)) = refl
held_is (Some StaleSlot) = refl

pub other_state : (state : SlotState) → (state ≡ Current → ⊥) → is_current_state state ≡ false
other_state Erased apart = refl
other_state Reserved apart = refl
other_state Stale apart = refl
other_state Current apart = absurd (apart refl)
