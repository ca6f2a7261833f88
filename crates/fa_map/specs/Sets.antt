-- Sets of slots and of blocks, each by index.
use Rattle.std.specs.Prelude.{ℕ, refl}
use Rattle.std.specs.Coded.{Coded, code_by, coded×, coded_ℕ}
use Rattle.std.specs.FinMap.{code}
use base.Stored.{coded_unit}
use Rattle.fa_machine.specs.Maps.{Numbers}

-- some of the slots and some of the blocks, each below a bound
pub record Sets : Type 0 where
  pub slots_bound : ℕ
  pub slots : Numbers
  pub blocks_bound : ℕ
  pub blocks : Numbers

abbrev parts_code : Coded ((ℕ × Numbers) × (ℕ × Numbers))
parts_code = coded× (coded× coded_ℕ (code coded_ℕ coded_unit)) (coded× coded_ℕ (code coded_ℕ coded_unit))

-- they are stored as their parts
abbrev pub sets_code : Coded Sets
sets_code = code_by ((ℕ × Numbers) × (ℕ × Numbers)) parts_code (λ s. ((s.slots_bound, s.slots), (s.blocks_bound, s.blocks)))
    (λ p. record { slots_bound = p.0.0; slots = p.0.1; blocks_bound = p.1.0; blocks = p.1.1 }) (λ _. refl)
