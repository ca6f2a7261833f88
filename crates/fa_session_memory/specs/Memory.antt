-- What the memory for the data of a WRITE comes to: the bytes that are read into it, and how long it gets.
use Rattle.std.specs.Prelude.{◌≡◌, ℕ, ◌+◌, ◌*◌, ◌<◌, ◌≤◌, max, List, ◌++◌, length, take, Option, Result, Ok, Err}
use Rattle.std.specs.Io.KnownBytes.{Consumes}
use Rattle.fa_io.specs.Streams.{EndsReading}
use Rattle.fa_io.specs.declared.reading.ReadEnd.{ReadEnd}
use Rattle.fa_session_memory.specs.declared.memory.Received.{Received}
use Rattle.fa_session_memory.specs.declared.memory.Received.TheVariants.{Whole, Dropped}

-- Memory that had some bytes has so many after as many came: at most twice as many as came, or 64 KiB, or as
-- many as before.
abbrev pub IsModest : (before after came : ℕ) → Type 0
IsModest before after came = after ≤ max before (max 65536 (2 * came))

-- A buffer was filled from one offset to another behind what it had, or no byte came before that.
abbrev pub FillsPart : (old new : Option (List ℕ)) → (at end : ℕ) → (before after : List ℕ) → Result (Unit {0}) ReadEnd → Type 0
FillsPart old new at end before after (Ok done) =
    (bytes : List ℕ) × (at + length bytes ≡ end) × Consumes old new bytes × (take end after ≡ take at before ++ bytes)
FillsPart old new at end before after (Err fault) =
    ((bytes : List ℕ) × (at + length bytes < end) × Consumes old new bytes) × EndsReading fault new

-- Data of so many bytes was read: it is at the front of the memory, or was dropped; or no byte came before its
-- end. Whatever of it came, the memory is modest.
abbrev pub Receives : (old new : Option (List ℕ)) → (count before : ℕ) → List ℕ → Result Received ReadEnd → Type 0
Receives old new count before memory (Ok Whole) =
    (count ≤ length memory) × Consumes old new (take count memory) × IsModest before (length memory) count
Receives old new count before memory (Ok Dropped) =
    (bytes : List ℕ) × (length bytes ≡ count) × Consumes old new bytes × IsModest before (length memory) count
Receives old new count before memory (Err end) =
    ((bytes : List ℕ) × (length bytes < count) × Consumes old new bytes × IsModest before (length memory) (length bytes))
    × EndsReading end new
