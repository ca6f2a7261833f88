-- What the tables of a page map keep.
use Rattle.std.specs.Prelude.{◌≡◌, ℕ, ◌+◌, ◌*◌, ◌/◌, ◌<◌, ◌==◌, ◌&&◌, not, nat_le, nat_lt, Bool, true, false, if◌then◌else◌, List, Option}
use Rattle.std.specs.Prelude.{Some, None, is_some, length, slice_index_or, slice_set, find, count_by}
use Rattle.std.specs.List.{range_with_len}
use Rattle.fa_types.specs.declared.geometry.Geometry.{Geometry}
use Rattle.fa_machine.specs.Maps.{below}
use Rattle.fa_map.specs.Chains.{IsChained, entry_of, link_at, link_from, no_link, target}
use Rattle.fa_map_calls.specs.Plain.{die_slots}
use Rattle.fa_map.specs.declared.entries.Entry.{Entry}
use Rattle.fa_map.specs.declared.entries.Entry.TheVariants.{Erased, Reserved, Current, Stale}
use Rattle.fa_map.specs.declared.entries.Link.{Link}
use Rattle.fa_map.specs.declared.entries.Second.{Second}
use Rattle.fa_map_calls.specs.declared.slots.BlockCounts.{BlockCounts}
use Rattle.fa_map_calls.specs.declared.slots.SlotState.{SlotState}
use Rattle.fa_map_calls.specs.declared.slots.SlotState.TheVariants as states

abbrev pub state_of_entry : Entry → SlotState
state_of_entry Erased = states.Erased
state_of_entry Reserved = states.Reserved
state_of_entry (Current page) = states.Current
state_of_entry Stale = states.Stale

abbrev pub is_same_state : SlotState → SlotState → Bool
is_same_state states.Erased states.Erased = true
is_same_state states.Reserved states.Reserved = true
is_same_state states.Current states.Current = true
is_same_state states.Stale states.Stale = true
is_same_state a b = false

abbrev pub one_if : Bool → ℕ
one_if b = if b then 1 else 0

-- how many slots of a block are in a state
abbrev pub count_of : SlotState → BlockCounts → ℕ
count_of states.Erased counts = counts.erased
count_of states.Reserved counts = counts.reserved
count_of states.Current counts = counts.current
count_of states.Stale counts = counts.stale

-- how many of so many slots of a die, which has n of them, from a first one on are in a state
abbrev pub entries_in : List Entry → ℕ → ℕ → ℕ → ℕ → SlotState → ℕ
entries_in entries n die first count state =
    count_by (λ slot. is_same_state (state_of_entry (entry_of entries n die slot)) state) (range_with_len first count)

abbrev pub no_counts : BlockCounts
no_counts = record { erased = 0; reserved = 0; current = 0; stale = 0 }

abbrev pub is_current_entry : Entry → Bool
is_current_entry (Current page) = true
is_current_entry entry = false

-- whether a slot with this entry holds the page
abbrev pub is_copy_of : ℕ → Entry → Bool
is_copy_of page (Current p) = p == page
is_copy_of page entry = false

-- whether a die, which has n slots, holds the page
abbrev pub die_holds : List Entry → ℕ → ℕ → ℕ → Bool
die_holds entries n page die = is_some (find (λ slot. is_copy_of page (entry_of entries n die slot)) (below n))

-- how many dies hold the page
abbrev pub copies_in : List Entry → Geometry → ℕ → ℕ
copies_in entries g page = count_by (die_holds entries (die_slots g) page) (below g.dies)

-- The counts of each block, and how many slots of each die are erased, are those of the entries.
pub record AreTallied (g : Geometry) (entries : List Entry) (counts : List BlockCounts) (erased : List ℕ) : Type 0 where
  pub slots : length entries ≡ g.dies * die_slots g
  pub blocks : length counts ≡ g.dies * g.blocks
  pub dies : length erased ≡ g.dies
  pub counted : (die block : ℕ) (state : SlotState) → die < g.dies → block < g.blocks
      → count_of state (slice_index_or counts (die * g.blocks + block) no_counts)
      ≡ entries_in entries (die_slots g) die (block * g.slots) g.slots state
  pub free : (die : ℕ) → die < g.dies → slice_index_or erased die 0 ≡ entries_in entries (die_slots g) die 0 (die_slots g) states.Erased

-- The tables of a page map: entries with their counts, and the chains of copies.
pub record AreTables (g : Geometry) (entries : List Entry) (links heads : List Link) (counts : List BlockCounts)
    (erased : List ℕ) : Type 0 where
  pub tallied : AreTallied g entries counts erased
  pub linked : length links ≡ g.dies * die_slots g
  pub pages : length heads ≡ g.pages
  pub chained : IsChained (entry_of entries (die_slots g)) (link_at heads) (link_from links (die_slots g)) (die_slots g)
      g.dies g.pages

-- the first links of pages, and those of copies, after one was written
abbrev pub with_head : Option (ℕ × ℕ) → ℕ → Link → List Link → List Link
with_head None page link heads = slice_set heads page link
with_head (Some place) page link heads = heads

abbrev pub with_link : Option (ℕ × ℕ) → ℕ → Link → List Link → List Link
with_link None n link links = links
with_link (Some place) n link links = slice_set links (place.0 * n + place.1) link

-- The written links, with those of a page's first two copies. Those of a page with a third copy are there already.
abbrev pub with_first_two : Option (ℕ × ℕ) → ℕ → Second → List Link → List Link
with_first_two first n second written =
    if second.more then written else with_link (target second.place) n no_link (with_link first n second.place written)

-- The written links after the link behind a place of a page's chain became another one. They change only if the page has more
-- than two copies then.
abbrev pub rewritten : Option (ℕ × ℕ) → Option (ℕ × ℕ) → ℕ → Link → Second → Bool → List Link → List Link
rewritten first last n link second more written = if more then with_link last n link (with_first_two first n second written) else written

abbrev pub is_erased_entry : Entry → Bool
is_erased_entry entry = is_same_state (state_of_entry entry) states.Erased

-- whether a block is left out
abbrev pub is_left_out : Option ℕ → ℕ → Bool
is_left_out None block = false
is_left_out (Some outside) block = block == outside

-- an erased slot, which may be taken
abbrev pub may_take : List Entry → ℕ → ℕ → ℕ → Option ℕ → ℕ → Bool
may_take entries n slots die outside slot =
    is_erased_entry (entry_of entries n die slot) && not (is_left_out outside (slot / slots))

-- an entry that does not hold the page
abbrev pub retired : ℕ → Entry → Entry
retired page (Current p) = if p == page then Stale else Current p
retired page entry = entry

-- an entry after its block was erased
abbrev pub erased_entry : Entry → Entry
erased_entry Reserved = Reserved
erased_entry entry = Erased

-- an entry of a slot, where those of a die from a first slot up to another were changed
abbrev pub swept : (Entry → Entry) → ℕ → ℕ → ℕ → ℕ → ℕ → Entry → Entry
swept change die from to d slot entry = if d == die && (nat_le from slot && nat_lt slot to) then change entry else entry
