-- What a file holds after each call of it, by what the call did.
use Rattle.std.specs.Prelude.{ℕ, Bool, true, false, ◌&&◌, List, [], ◌++◌, length, take, drop, replicate, slice_index_or, bytes_eq}
use Rattle.fa_types.specs.Store.{with_bytes, bytes_at}
use Rattle.fa_ghost.specs.declared.deed.Deed.{Deed}
use Rattle.fa_ghost.specs.declared.deed.Deed.TheVariants.{Read, Wrote, Failed, Synced}

-- what a file holds
pub record Contents : Type 0 where
  pub bytes : List ℕ
  -- what the refused writes that are still to come will leave, the next one first
  pub lefts : List (List ℕ)
  -- each read so far gave what stands there
  pub honest : Bool
  -- what was written, or may have been, is not all on its medium
  pub unsynced : Bool

-- so many bytes of a list, with zeros where it has no more
abbrev pub fitted : ℕ → List ℕ → List ℕ
fitted n bytes = take n (bytes ++ replicate n 0)

-- what the next refused write leaves
abbrev pub next_left : Contents → List ℕ
next_left file = slice_index_or file.lefts 0 []

-- the file after a read that gave these bytes from an offset
abbrev pub after_read : ℕ → List ℕ → Contents → Contents
after_read offset bytes file = record file { honest = file.honest && bytes_eq bytes (bytes_at offset (length bytes) file.bytes) }

-- the file after a write
abbrev pub after_write : ℕ → List ℕ → Contents → Contents
after_write offset bytes file = record file { bytes = with_bytes offset bytes file.bytes; unsynced = true }

-- the file after a write of so many bytes that was refused
abbrev pub after_failure : ℕ → ℕ → Contents → Contents
after_failure offset len file =
    record file { bytes = with_bytes offset (fitted len (next_left file)) file.bytes; lefts = drop 1 file.lefts; unsynced = true }

-- the file after a sync
abbrev pub after_sync : Contents → Contents
after_sync file = record file { unsynced = false }

-- the file after what a call of it did
abbrev pub after_deed : Deed → Contents → Contents
after_deed (Read offset bytes) file = after_read offset bytes.now file
after_deed (Wrote offset bytes) file = after_write offset bytes.now file
after_deed (Failed offset len) file = after_failure offset len file
after_deed Synced file = after_sync file
