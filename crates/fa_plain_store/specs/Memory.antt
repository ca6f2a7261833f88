-- The plain store in memory: its bytes are all that there is of it.
use Rattle.std.specs.Prelude.{◌≡◌, ℕ, ◌+◌, ◌≤◌, true, false, List, length, replicate}
use Rattle.fa_types.specs.Store.{Store, Call, Reading, Writing, Zeroing, Trimming, Flushing, Answer, Gave, Done, Refused}
use Rattle.fa_types.specs.Store.{with_bytes, bytes_at, whole_offset, whole_length}
use Rattle.fa_types.specs.declared.blocks.BlockFault.TheVariants.{NoMemory}

-- It has pages of 512 bytes, is alone, and loses nothing.
abbrev pub memory_view : List ℕ → Store
memory_view bytes = record {
  size = length bytes;
  page_bytes = 512;
  alone = true;
  lost = λ page. false;
  content = bytes;
  no_die_live = false;
  no_room = false;
  spent = false;
}

-- the bytes with zeros in the pages that lie wholly in the range
abbrev pub without_pages : ℕ → ℕ → List ℕ → List ℕ
without_pages offset len = with_bytes (whole_offset 512 offset) (replicate (whole_length 512 offset len) 0)

-- A read gives the bytes, or finds no memory. All other calls are done.
abbrev pub MemoryMade : List ℕ → Call → Answer → List ℕ → Type 0
MemoryMade before (Reading offset len) (Gave bytes) after =
    (offset + len ≤ length before) × (bytes ≡ bytes_at offset len before) × (after ≡ before)
MemoryMade before (Reading offset len) (Refused NoMemory) after = after ≡ before
MemoryMade before (Writing offset bytes fua) Done after =
    (offset + length bytes ≤ length before) × (after ≡ with_bytes offset bytes before)
MemoryMade before (Zeroing offset len fua hole) Done after =
    (offset + len ≤ length before) × (after ≡ with_bytes offset (replicate len 0) before)
MemoryMade before (Trimming offset len fua) Done after =
    (offset + len ≤ length before) × (after ≡ without_pages offset len before)
MemoryMade before Flushing Done after = after ≡ before
MemoryMade before call answer after = ⊥
