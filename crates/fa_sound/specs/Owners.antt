-- What is reserved, and for whom: under each claim, and for the copy under way.
use Rattle.std.specs.Prelude.{◌≡◌, ℕ, List, [], ◌∷◌, Option, Some, None, option_map, option_and_then}
use Rattle.std.specs.Ordering.{nat_cmp}
use Rattle.std.specs.FinMap.{FinMap, get}
use Rattle.fa_machine.specs.Among.{Among}
use Rattle.fa_machine.specs.State.{OpenClaim, Reservation}
use Rattle.fa_machine.specs.declared.places.Copying.{Copying}
use Rattle.fa_machine.specs.declared.places.Target.{Target}
use Rattle.fa_machine.specs.declared.places.Version.{Version}

-- a write of a page, with the slots that are kept for its copies
pub record Owned : Type 0 where
  pub page : ℕ
  pub version : Version
  pub targets : List Target

abbrev pub owned_claim : OpenClaim → Option Owned
owned_claim c = option_map {T = Reservation} (λ r. record { page = c.page; version = r.version; targets = r.targets }) c.reserved

-- The owners: each claim by its id, and the copy under way, which has none.
abbrev pub owned_of : Option Copying → FinMap nat_cmp OpenClaim → Option ℕ → Option Owned
owned_of copying claims None =
    option_map {T = Copying} (λ c. record { page = c.page.0; version = c.version; targets = c.target ∷ [] }) copying
owned_of copying claims (Some id) = option_and_then owned_claim (get claims id)

-- a target that lies in a slot, and whose it is
pub record TargetAt (own : Option ℕ → Option Owned) (die slot : ℕ) : Type 0 where
  pub owner : Option ℕ
  pub owned : Owned
  pub target : Target
  pub owns : own owner ≡ Some owned
  pub among : Among target owned.targets
  pub on_die : target.die.0 ≡ die
  pub at_slot : target.slot.0 ≡ slot
