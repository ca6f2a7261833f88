-- Which block a collector takes.
use Rattle.std.specs.Prelude.{◌≡◌, ℕ, ◌<◌, ◌≤◌, ◌==◌, ◌&&◌, nat_lt, Bool, Option, Some, None, false, true}
use Rattle.fa_machine.specs.Collecting.{count_in}
use Rattle.fa_machine.specs.Copies.{is_reserved_slot, is_stale_slot}
use Rattle.fa_machine.specs.State.{MapState}

-- whether a block has a stale slot and none that is reserved
abbrev pub is_clean_block : MapState → ℕ → ℕ → Bool
is_clean_block m die block = nat_lt 0 (count_in m die block is_stale_slot) && count_in m die block is_reserved_slot == 0

-- Of the numbers below a bound that pass, the one of the greatest weight, the lowest on ties. None where none passes.
pub record IsGreatest (bound : ℕ) (passes : ℕ → Bool) (weight : ℕ → ℕ) (found : Option ℕ) : Type 0 where
  pub inside : (k : ℕ) → found ≡ Some k → (k < bound) × (passes k ≡ true)
  pub most : (k other : ℕ) → found ≡ Some k → other < bound → passes other ≡ true → weight other ≤ weight k
  pub lowest : (k other : ℕ) → found ≡ Some k → other < k → passes other ≡ true → weight other < weight k
  pub none : found ≡ None → (other : ℕ) → other < bound → passes other ≡ false
