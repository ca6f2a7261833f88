-- A list with a place for each die, as a finite map.
use Rattle.std.specs.Prelude.{ℕ, List, Option, None, length, option_map, filter_map, slice_index_or}
use Rattle.std.specs.FinMap.{FinMap, from_entries}
use Rattle.std.specs.Ordering.{nat_cmp}
use Rattle.fa_machine.specs.Maps.{below}

module _ {X : Type 0} where
  -- the value of a die, if it has one
  abbrev pub value_at : List (Option X) → ℕ → Option X
  value_at table die = slice_index_or table die None

  -- the dies that have a value, each with its value
  abbrev pub table_of : List (Option X) → FinMap nat_cmp X
  table_of table = from_entries (filter_map (λ die. option_map (λ x. (die, x)) (value_at table die)) (below (length table)))
