-- Words for finite maps and lists that the definitions share.
use Rattle.std.specs.Prelude.{ℕ, Bool, ◌==◌, List, map, filter, fold}
use Rattle.std.specs.List.{list_any, range_with_len}
use Rattle.std.specs.Ordering.{nat_cmp, then_cmp, on}
use Rattle.std.specs.declared.cmp.Ordering.{Ordering}
use Rattle.std.specs.FinMap.{FinMap, insert, entries, from_entries}

-- places by their die, and those of one die by their slot or round
abbrev pub place_cmp : ℕ × ℕ → ℕ × ℕ → Ordering
place_cmp = then_cmp (on (λ place. place.0) nat_cmp) (on (λ place. place.1) nat_cmp)

-- a finite set of numbers
abbrev pub Numbers : Type 0
Numbers = FinMap nat_cmp (Unit {0})

-- the numbers below n, rising
abbrev pub below : ℕ → List ℕ
below n = range_with_len 0 n

abbrev pub is_one_of : List ℕ → ℕ → Bool
is_one_of numbers n = list_any (λ x. x == n) numbers

module _ {K X : Type 0} {R : K → K → Ordering} where
  -- the entries that pass the test
  abbrev pub keep : (K → X → Bool) → FinMap R X → FinMap R X
  keep test m = from_entries (filter (λ e. test e.0 e.1) (entries m))

  -- the same keys, each with what the change makes of its value
  abbrev pub change : (K → X → X) → FinMap R X → FinMap R X
  change f m = from_entries (map (λ e. (e.0, f e.0 e.1)) (entries m))

  -- the map with these keys at one value, one after the other
  abbrev pub insert_all : List K → X → FinMap R X → FinMap R X
  insert_all keys x m = fold (λ built k. insert built k x) m keys
