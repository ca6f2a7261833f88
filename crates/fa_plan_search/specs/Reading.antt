-- Which die reads each page. A page goes by its index in the batch; the first pages of the batch have been given dies, which
-- stand in a list in the pages' order.
use Rattle.std.specs.Prelude.{◌≡◌, ℕ, ◌<◌, Bool, ◌==◌, List, [], count_by, slice_index, slice_index_or}
use Rattle.fa_types.specs.declared.numbers.Die.{Die}
use Rattle.fa_batch_terms.specs.Batch.{Entry, is_among}

-- what is read past the end of a batch, and of dies
abbrev pub no_entry : Entry
no_entry = record { page = record { 0 = 0 }; holders = [] }

abbrev pub no_die : Die
no_die = record { 0 = 0 }

-- whether a die holds the page at an index
abbrev pub can_read : List Entry → ℕ → ℕ → Bool
can_read batch page die = is_among (slice_index_or batch page no_entry).holders die

-- the die that was given to the page at an index
abbrev pub die_of : List Die → ℕ → ℕ
die_of given page = (slice_index_or given page no_die).0

-- how many pages a die was given to
abbrev pub load_of : List Die → ℕ → ℕ
load_of given die = count_by (λ d. d.0 == die) given

-- a table has the load of each die
abbrev pub AreLoads : List Die → List ℕ → Type 0
AreLoads given loads = (die : ℕ) → die < 256 → slice_index loads die ≡ load_of given die
