-- The erased slots as a set, and the blocks with stale slots and no reserved one as a set in the order of their other slots.
use Rattle.std.specs.Coded.{Coded-set, coded_bool, coded_ℕ}
use Rattle.std.specs.FinMap.{contains_key}
use Rattle.std.specs.Prelude.{◌≡◌, ℕ, ◌+◌, ◌*◌, ◌<◌, ◌≤◌, ◌==◌, ◌&&◌, nat_lt, Bool, List, Option, Some, None, false, true, slice_index_or}
use Rattle.fa_types.specs.declared.geometry.Geometry.{Geometry}
use Rattle.fa_map.specs.Sets.{Sets}
use Rattle.fa_map.specs.Chains.{entry_of}
use Rattle.fa_map.specs.Entries.{is_erased_entry, no_counts}
use Rattle.fa_map_calls.specs.Plain.{die_slots}
use Rattle.fa_map.specs.declared.entries.Entry.{Entry}
use Rattle.fa_map_calls.specs.declared.slots.BlockCounts.{BlockCounts}

-- whether a block has a stale slot and none that is reserved, by its counts
abbrev pub is_clean : BlockCounts → Bool
is_clean counts = nat_lt 0 counts.stale && counts.reserved == 0

-- where a block of which so many slots are not stale stands among the blocks
abbrev pub rank_index : Geometry → ℕ → ℕ → ℕ → ℕ
rank_index g die rank block = (die * (g.slots + 1) + rank) * g.blocks + block

-- whether a block, of so many slots, is one of those with stale slots and no reserved one, and so many slots are not stale
abbrev pub has_rank : ℕ → BlockCounts → ℕ → Bool
has_rank slots counts rank = is_clean counts && counts.stale + rank == slots

-- The sets are those of the entries and of the counts.
pub record AreFound (g : Geometry) (entries : List Entry) (counts : List BlockCounts) (erased clean : ℕ → Bool) : Type 0 where
  pub slots : (die slot : ℕ) → die < g.dies → slot < die_slots g
      → erased (die * die_slots g + slot) ≡ is_erased_entry (entry_of entries (die_slots g) die slot)
  pub blocks : (die rank block : ℕ) → die < g.dies → rank ≤ g.slots → block < g.blocks
      → clean (rank_index g die rank block) ≡ has_rank g.slots (slice_index_or counts (die * g.blocks + block) no_counts) rank

-- A finder's sets are those of the entries and of the counts.
unfoldable pub IsFound : Geometry → List Entry → List BlockCounts → Sets → Type 0
IsFound g entries counts sets = (sets.slots_bound ≡ g.dies * die_slots g) × (sets.blocks_bound ≡ g.dies * (g.slots + 1) * g.blocks)
    × AreFound g entries counts (contains_key sets.slots) (contains_key sets.blocks)

pub IsFound-prop : (g : Geometry) (entries : List Entry) (counts : List BlockCounts) (sets : Sets) → IsProp (IsFound g entries counts sets)
unfolding IsFound
IsFound-prop g entries counts sets = hlevel (Coded-set coded_ℕ, Coded-set coded_bool)
