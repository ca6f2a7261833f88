-- The copy that a link of the tables leads to is the next one of its page.
use Rattle.std.proofs.Common.{◌≡◌, ℕ, ◌<◌, Bool, List, Option, Some, subst}
use Rattle.std.specs.Prelude.{IfSome, option_map}
use Rattle.fa_types.specs.declared.geometry.Geometry.{Geometry}
use Rattle.fa_types.specs.declared.numbers.Die.{Die}
use Rattle.fa_types.specs.declared.numbers.Slot.{Slot}
use Rattle.fa_machine.specs.declared.places.Version.{Version}
use Rattle.fa_machine.specs.Copies.{copy_on}
use Rattle.fa_machine.specs.State.{MapState}
use Rattle.fa_map.specs.Chains.{IsNext, entry_of}
use Rattle.fa_map_calls.specs.Plain.{die_slots}
use Rattle.fa_map.specs.Shown.{IsShown}
use Rattle.fa_map_calls.specs.Slots.{first_holder}
use Rattle.fa_map.specs.declared.entries.Entry.{Entry}
use Rattle.fa_map.specs.declared.entries.Entry.TheVariants.{Current}
use Rattle.fa_map.proofs.Firsts.{first_told, numbers_of}
use Rattle.fa_map.proofs.Seen.{shown_next}

-- a die holds a page once
abbrev pub HoldOnce : List Entry → Geometry → Type 0
HoldOnce entries k =
    (d s other page : ℕ) → s < die_slots k → other < die_slots k → entry_of entries (die_slots k) d s ≡ Current page
    → entry_of entries (die_slots k) d other ≡ Current page → s ≡ other

abbrev pub Leads : List Entry → ℕ → ℕ → Option (ℕ × ℕ) → Geometry → Type 0
Leads entries page from next k = IsNext (entry_of entries (die_slots k)) (die_slots k) k.dies page from next

pub link_told : (m : MapState) (g : Geometry) (on : List Bool) (count : ℕ) (versions : List (Option Version)) (entries : List Entry)
    → IsShown m g on count versions entries → (k : Geometry) → k ≡ g → HoldOnce entries k → (page from : ℕ) (next : Option (ℕ × ℕ))
    → Leads entries page from next k → (copy : Option (Die × Slot)) → option_map numbers_of copy ≡ next
    → (option_map (λ (c : Die × Slot). c.0.0) copy ≡ first_holder m page from) × IfSome copy (λ c. copy_on m page c.0.0 ≡ Some c.1.0)
link_told m g on count versions entries shown k same once page from next leads copy is =
    first_told m page from copy next is
    (shown_next m g on count versions entries shown (subst (HoldOnce entries) same once) page from next (subst (Leads entries page from next) same leads))
