-- What contracts see of the values of dies: a finite map, and the bound of the dies.
use Rattle.std.specs.Prelude.{ℕ, length}
use Rattle.std.specs.FinMap.{FinMap}
use Rattle.std.specs.Ordering.{nat_cmp}
use Rattle.fa_core_tables.specs.Tabled.{table_of}
use Rattle.fa_core_tables.specs.declared.by_die.ByDie.{ByDie}

module _ {T A : Type 0} where
  abbrev pub bound_of : ByDie T A → ℕ
  bound_of values = length values.values.items

  abbrev pub by_die : ByDie T A → FinMap nat_cmp T
  by_die values = table_of values.values.items
