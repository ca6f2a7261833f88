-- What contracts see of a set of numbers: its bound, and its members as a finite set.
use Rattle.std.specs.Prelude.{ℕ, Bool, List, filter, map}
use Rattle.std.specs.List.{range_with_len}
use Rattle.std.specs.FinMap.{FinMap, contains_key, from_entries}
use Rattle.std.specs.Ordering.{nat_cmp}
use Rattle.fa_set.specs.Words.{has}
use Rattle.fa_set.specs.declared.number_set.NumberSet.{NumberSet}

-- a finite set of numbers
abbrev pub Numbers : Type 0
Numbers = FinMap nat_cmp (Unit {0})

-- those of the words that are below a bound
abbrev pub numbers_below : ℕ → List ℕ → Numbers
numbers_below bound words = from_entries (map (λ k. (k, tt)) (filter (has words) (range_with_len 0 bound)))

module _ {A : Type 0} where
  abbrev pub bound_of : NumberSet A → ℕ
  bound_of set = set.bound

  abbrev pub members : NumberSet A → Numbers
  members set = numbers_below set.bound set.low.items

  abbrev pub is_in : NumberSet A → ℕ → Bool
  is_in set number = contains_key (members set) number
