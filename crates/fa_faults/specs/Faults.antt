-- What contracts see of the faults that are kept: a list, the oldest first.
use Rattle.std.specs.Prelude.{List}
use Rattle.fa_faults.specs.declared.faults.Fault.{Fault}
use Rattle.fa_faults.specs.declared.faults.Faults.{Faults}

module _ {A : Type 0} where
  abbrev pub faults_of : Faults A → List Fault
  faults_of faults = faults.ring.items
