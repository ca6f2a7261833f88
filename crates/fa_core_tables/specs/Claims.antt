-- What contracts see of the open claims and of what is reserved under them.
use Rattle.std.specs.Prelude.{ℕ, List, Option, map, option_map, take}
use Rattle.std.specs.Ordering.{nat_cmp}
use Rattle.std.specs.FinMap.{FinMap, from_entries}
use Rattle.fa_core_tables.specs.declared.claims.Claims.{Claims}
use Rattle.fa_core_tables.specs.declared.targets.Reservation.{Reservation}
use Rattle.fa_core_tables.specs.declared.targets.Targets.{Targets}
use Rattle.fa_machine.specs.State.{OpenClaim, Reservation as ReservedWrite}
use Rattle.fa_machine.specs.declared.places.Target.{Target}

-- the slots
abbrev pub targets_of : Targets → List Target
targets_of targets = take targets.count targets.items

abbrev pub reservation_of : Reservation → ReservedWrite
reservation_of reserved = record { version = reserved.version; targets = targets_of reserved.targets }

-- a claim of a page, with what is reserved under it
abbrev pub claim_of : ℕ → Option Reservation → OpenClaim
claim_of page reserved = record { page = page; reserved = option_map reservation_of reserved }

abbrev pub claims_in : List (ℕ × Option Reservation) → FinMap nat_cmp OpenClaim
claims_in entries = from_entries (map (λ e. (e.0, claim_of e.0 e.1)) entries)

module _ {A : Type 0} where
  -- the claims by their numbers, which are those of their pages
  abbrev pub claims_of : Claims A → FinMap nat_cmp OpenClaim
  claims_of claims = claims_in claims.reservations.entries
