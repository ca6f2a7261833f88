-- A block store as its callers see it, and one call of it with its answer.
use Rattle.std.specs.Prelude.{◌≡◌, ℕ, ◌+◌, ◌-◌, ◌*◌, ◌/◌, ◌%◌, ◌<◌, ◌≤◌, ◌⊎◌, Bool, true, false, IsTrue}
use Rattle.std.specs.Prelude.{List, ◌++◌, length, take, drop, replicate, slice_index}
use Rattle.fa_types.specs.declared.blocks.BlockFault.{BlockFault}
use Rattle.fa_types.specs.declared.blocks.BlockFault.TheVariants.{Lost, NoRoom, NoMemory, Spent}

-- What is seen of a store. What the content has in a lost page means nothing.
pub record Store : Type 0 where
  -- in bytes
  pub size : ℕ
  pub page_bytes : ℕ
  -- nobody else calls it
  pub alone : Bool
  -- which pages are lost
  pub lost : ℕ → Bool
  -- all of its bytes
  pub content : List ℕ
  pub no_die_live : Bool
  pub no_room : Bool
  -- a counter is at its end
  pub spent : Bool

-- A page has a byte or more. Where nobody else calls the store, its content has as many bytes as it is large.
pub record IsWhole (store : Store) : Type 0 where
  pub some_bytes : 1 ≤ store.page_bytes
  pub sized : IsTrue store.alone → length store.content ≡ store.size

-- A zero with `hole` may leave its whole pages without any bytes on the dies; what is read there is the same.
pub data Call : Type 0 where
  Reading : (offset len : ℕ) → Call
  Writing : (offset : ℕ) (bytes : List ℕ) (fua : Bool) → Call
  Zeroing : (offset len : ℕ) (fua hole : Bool) → Call
  Trimming : (offset len : ℕ) (fua : Bool) → Call
  Flushing : Call

pub data Answer : Type 0 where
  Gave : (bytes : List ℕ) → Answer
  Done : Answer
  Refused : (fault : BlockFault) → Answer

-- byte i is among the len bytes from the offset
abbrev pub InRange : ℕ → ℕ → ℕ → Type 0
InRange offset len i = (offset ≤ i) × (i < offset + len)

-- some byte of the page is in the range
abbrev pub IsMet : ℕ → ℕ → ℕ → ℕ → Type 0
IsMet page_bytes offset len page = (i : ℕ) × (i / page_bytes ≡ page) × InRange offset len i

-- every byte of the page is in the range
abbrev pub IsCovered : ℕ → ℕ → ℕ → ℕ → Type 0
IsCovered page_bytes offset len page = (i : ℕ) → i / page_bytes ≡ page → InRange offset len i

-- the first page that begins at the offset or behind it
abbrev pub first_whole : ℕ → ℕ → ℕ
first_whole page_bytes offset = (offset + (page_bytes - 1)) / page_bytes

-- where the pages begin that lie wholly in the range of len bytes from the offset
abbrev pub whole_offset : ℕ → ℕ → ℕ
whole_offset page_bytes offset = first_whole page_bytes offset * page_bytes

-- how many bytes these pages have together: none where there is no such page
abbrev pub whole_length : ℕ → ℕ → ℕ → ℕ
whole_length page_bytes offset len = ((offset + len) / page_bytes - first_whole page_bytes offset) * page_bytes

-- the content with these bytes at the offset, and nothing else changed
abbrev pub with_bytes : ℕ → List ℕ → List ℕ → List ℕ
with_bytes offset bytes content = take offset content ++ bytes ++ drop (offset + length bytes) content

-- the len bytes from the offset
abbrev pub bytes_at : ℕ → ℕ → List ℕ → List ℕ
bytes_at offset len content = take len (drop offset content)

-- Outside its lost pages the store has these bytes.
abbrev pub Holds : Store → List ℕ → Type 0
Holds store bytes = (i : ℕ) → i < store.size → store.lost (i / store.page_bytes) ≡ false → slice_index store.content i ≡ slice_index bytes i

-- Nothing was written. More pages may be lost now.
pub record IsUnwritten (before after : Store) : Type 0 where
  pub content : Holds after before.content
  pub lost : (page : ℕ) → before.lost page ≡ true → after.lost page ≡ true

-- These bytes were written at the offset, and nothing else. More pages may be lost now. One that was
-- lost is lost still, unless all of it was written.
pub record IsWritten (before after : Store) (offset : ℕ) (bytes : List ℕ) : Type 0 where
  pub content : Holds after (with_bytes offset bytes before.content)
  pub lost : (page : ℕ) → before.lost page ≡ true → (after.lost page ≡ true) ⊎ IsCovered before.page_bytes offset (length bytes) page
  -- no page that was lost was written in part
  pub whole : (page : ℕ) → before.lost page ≡ true → IsMet before.page_bytes offset (length bytes) page
      → IsCovered before.page_bytes offset (length bytes) page

-- Of len bytes from the offset the first n were written: none, those before the page that was refused,
-- or all, where the flush that FUA asks for was refused.
abbrev pub StopsAfter : ℕ → ℕ → ℕ → Bool → BlockFault → ℕ → Type 0
StopsAfter page_bytes offset len fua fault n =
    (n ≡ 0) ⊎ (((n < len) × ((offset + n) % page_bytes ≡ 0)) ⊎ ((n ≡ len) × IsTrue fua × ((fault ≡ Lost) ⊎ (fault ≡ Spent))))

-- why a call on this range may be refused
abbrev pub HasCause : Store → ℕ → ℕ → BlockFault → Type 0
HasCause after offset len Lost =
    (after.no_die_live ≡ true) ⊎ ((page : ℕ) × (after.lost page ≡ true) × IsMet after.page_bytes offset len page)
HasCause after offset len NoRoom = after.no_room ≡ true
HasCause after offset len NoMemory = Unit {0}
HasCause after offset len Spent = after.spent ≡ true

-- a write of these bytes that was refused
abbrev pub IsCutShort : Store → ℕ → List ℕ → Bool → BlockFault → Store → Type 0
IsCutShort before offset bytes fua fault after =
    HasCause after offset (length bytes) fault
    × ((n : ℕ) × StopsAfter before.page_bytes offset (length bytes) fua fault n × IsWritten before after offset (take n bytes))

-- Which answers a call can have. A read gives as many bytes as were asked for, and wants no room. A flush
-- wants neither room nor memory.
abbrev pub IsAnswer : Call → Answer → Type 0
IsAnswer (Reading offset len) (Gave bytes) = length bytes ≡ len
IsAnswer (Reading offset len) Done = ⊥
IsAnswer (Reading offset len) (Refused NoRoom) = ⊥
IsAnswer (Reading offset len) (Refused fault) = Unit {0}
IsAnswer (Writing offset bytes fua) (Gave given) = ⊥
IsAnswer (Writing offset bytes fua) answer = Unit {0}
IsAnswer (Zeroing offset len fua hole) (Gave given) = ⊥
IsAnswer (Zeroing offset len fua hole) answer = Unit {0}
IsAnswer (Trimming offset len fua) (Gave given) = ⊥
IsAnswer (Trimming offset len fua) answer = Unit {0}
IsAnswer Flushing (Gave given) = ⊥
IsAnswer Flushing Done = Unit {0}
IsAnswer Flushing (Refused NoRoom) = ⊥
IsAnswer Flushing (Refused NoMemory) = ⊥
IsAnswer Flushing (Refused fault) = Unit {0}

-- These len zeros were written at the offset, or the write of them was refused.
abbrev pub IsZeroed : Store → ℕ → ℕ → Bool → Answer → Store → Type 0
IsZeroed before offset len fua (Gave bytes) after = ⊥
IsZeroed before offset len fua Done after = IsWritten before after offset (replicate len 0)
IsZeroed before offset len fua (Refused fault) after = IsCutShort before offset (replicate len 0) fua fault after

-- What a store that is alone does. A trim is a zero of the whole pages in its range.
abbrev pub Serves : Store → Call → Answer → Store → Type 0
Serves before (Reading offset len) (Gave bytes) after =
    (bytes ≡ bytes_at offset len before.content)
    × ((page : ℕ) → before.lost page ≡ true → IsMet before.page_bytes offset len page → ⊥)
    × IsUnwritten before after
Serves before (Reading offset len) (Refused fault) after = HasCause after offset len fault × IsUnwritten before after
Serves before (Writing offset bytes fua) Done after = IsWritten before after offset bytes
Serves before (Writing offset bytes fua) (Refused fault) after = IsCutShort before offset bytes fua fault after
Serves before (Zeroing offset len fua hole) answer after = IsZeroed before offset len fua answer after
Serves before (Trimming offset len fua) answer after =
    IsZeroed before (whole_offset before.page_bytes offset) (whole_length before.page_bytes offset len) fua answer after
Serves before Flushing Done after = IsUnwritten before after
Serves before Flushing (Refused fault) after = HasCause after 0 0 fault × IsUnwritten before after
Serves before call answer after = ⊥

-- One call of a store, with its answer: it stays the store that it is, the answer is one of the call's,
-- and where nobody else calls it the answer is that of its content.
pub record Meets (before : Store) (call : Call) (answer : Answer) (after : Store) : Type 0 where
  pub size : after.size ≡ before.size
  pub page_bytes : after.page_bytes ≡ before.page_bytes
  pub alone : after.alone ≡ before.alone
  pub gives : IsAnswer call answer
  pub served : IsTrue before.alone → Serves before call answer after
