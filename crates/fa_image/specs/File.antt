-- The bytes of an image file after each call, by what the calls did. A file that answers otherwise is not honest.
use Rattle.std.specs.Prelude.{ℕ, ◌+◌, ◌-◌, ◌*◌, true, List, ◌++◌, length, take, replicate}
use Rattle.std.specs.List.{concat}
use Rattle.fa_types.specs.Store.{bytes_at}
use Rattle.fa_types.specs.declared.geometry.Geometry.{Geometry}
use Rattle.fa_ghost.specs.Contents.{Contents, after_read, after_write, after_failure, after_sync}
use Rattle.fa_image.specs.Cut.{cut}
use Rattle.fa_image.specs.Image.{ImageState, slot_bytes, slot_count}
use Rattle.fa_image.specs.Image.{ImageCall, ReadingSlot, Programming, Erasing, ReadingHeader, WritingHeader, Syncing}
use Rattle.fa_image.specs.Image.{ImageAnswer, Gave, Done, Refused}

-- the bytes of a file: 4,096, of which the first 112 are the header, and then the slots
abbrev pub file_bytes : Geometry → ℕ
file_bytes g = 4096 + slot_count g * slot_bytes g

-- where a slot begins
abbrev pub slot_offset : Geometry → ℕ → ℕ
slot_offset g slot = 4096 + slot * slot_bytes g

-- the slots that stand in a file's bytes
abbrev pub slots_in : Geometry → List ℕ → List (List ℕ)
slots_in g bytes = cut (slot_count g) (slot_bytes g) (bytes_at 4096 (slot_count g * slot_bytes g) bytes)

-- what is seen of an image in a file of these bytes
abbrev pub state_in : Geometry → List ℕ → ℕ → ℕ → ImageState
state_in g bytes syncs faults =
    record { geometry = g; slots = slots_in g bytes; header = take 112 bytes; syncs = syncs; faults = faults }

-- A file's bytes with this header and these slots: the rest of the first 4,096 bytes, and what is behind the
-- last slot, may be anything.
abbrev pub file_of : ImageState → List ℕ → List ℕ → List ℕ
file_of image rest behind = image.header ++ rest ++ concat image.slots ++ behind

-- A file as it is opened: its bytes, and what the writes that will be refused leave, the next one first. No
-- code can know them: what is proved of an open file is proved for all.
pub record Start : Type 0 where
  pub bytes : List ℕ
  pub lefts : List (List ℕ)

-- the bytes with zeros behind them, up to so many
abbrev pub filled_up : ℕ → List ℕ → List ℕ
filled_up n bytes = bytes ++ replicate (n - length bytes) 0

-- What a file holds when it is opened. One that is too short counts as one with zeros behind its end: no read
-- is given them, and a write behind the end puts them there. What was written before may not be on its medium.
abbrev pub held_at : Geometry → Start → Contents
held_at g start = record { bytes = filled_up (file_bytes g) start.bytes; lefts = start.lefts; honest = true; unsynced = true }

-- what is seen of an image in a file that was opened
abbrev pub opened : Geometry → Start → ImageState
opened g start = state_in g (filled_up (file_bytes g) start.bytes) 0 0

-- what is seen of an image in a file of zeros
abbrev pub of_zeros : Geometry → ImageState
of_zeros g = record {
  geometry = g;
  slots = replicate (slot_count g) (replicate (slot_bytes g) 0);
  header = replicate 112 0;
  syncs = 0;
  faults = 0;
}

-- The file after a call of its image with its answer: each is one read, one write or one sync, and that of the header is a write and a sync.
abbrev pub after_call : Geometry → ImageCall → ImageAnswer → Contents → Contents
after_call g (ReadingSlot slot) (Gave bytes) file = after_read (slot_offset g slot) bytes file
after_call g (Programming slot bytes) Done file = after_write (slot_offset g slot) bytes file
after_call g (Programming slot bytes) (Refused fault) file = after_failure (slot_offset g slot) (slot_bytes g) file
after_call g (Erasing block) Done file =
    after_write (slot_offset g (block * g.slots)) (replicate (g.slots * slot_bytes g) 0xff) file
after_call g (Erasing block) (Refused fault) file = after_failure (slot_offset g (block * g.slots)) (g.slots * slot_bytes g) file
after_call g ReadingHeader (Gave bytes) file = after_read 0 bytes file
after_call g (WritingHeader bytes) Done file = after_sync (after_write 0 bytes file)
after_call g (WritingHeader bytes) (Refused fault) file = after_failure 0 112 file
after_call g Syncing Done file = after_sync file
after_call g call answer file = file
