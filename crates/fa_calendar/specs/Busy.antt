-- The busy dies, by their numbers.
use Rattle.std.specs.Coded.{Coded, coded_ℕ}
use Rattle.std.specs.FinMap.{code}
use base.Stored.{coded_unit}
use Rattle.fa_set.specs.Members.{Numbers}

-- they are stored as a finite set of numbers
abbrev pub numbers_code : Coded Numbers
numbers_code = code coded_ℕ coded_unit
