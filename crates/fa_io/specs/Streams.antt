-- What reading and writing on streams came to: the bytes that a reader has left and those that a writer
-- holds, before and after, where they are known.
use Rattle.std.specs.Prelude.{◌≡◌, ◌≢◌, ℕ, ◌<◌, ◌≤◌, List, [], ◌++◌, length, take, Option, Result, Ok, Err}
use Rattle.std.specs.Io.KnownBytes.{Consumes, Appends, IsAtEnd}
use Rattle.std.specs.declared.io.ErrorKind.TheVariants.{Interrupted}
use Rattle.fa_io.specs.Answers.{kind_of}
use Rattle.fa_io.specs.declared.answers.ReadMeaning.{ReadMeaning}
use Rattle.fa_io.specs.declared.answers.ReadMeaning.TheVariants.{Bytes as Came, EndOfInput as NoByteCame}
use Rattle.fa_io.specs.declared.answers.ReadMeaning.TheVariants.{Again as ReadAgain, Failed as ReadFailed}
use Rattle.fa_io.specs.declared.answers.WriteMeaning.{WriteMeaning}
use Rattle.fa_io.specs.declared.answers.WriteMeaning.TheVariants.{Bytes as Taken, Again as WriteAgain, Failed as WriteFailed}
use Rattle.fa_io.specs.declared.reading.ReadEnd.{ReadEnd}
use Rattle.fa_io.specs.declared.reading.ReadEnd.TheVariants.{EndOfInput, Failed, TooManyReads}
use Rattle.fa_io.specs.declared.sending.SendFailed.{SendFailed}
use Rattle.fa_io.specs.declared.sending.SendFailed.TheVariants.{Failed as NotTaken, TooManyWrites}

-- What a reader had left and a writer held, before and after.
pub record Streams : Type 0 where
  pub left_before : Option (List ℕ)
  pub left_after : Option (List ℕ)
  pub held_before : Option (List ℕ)
  pub held_after : Option (List ℕ)

-- from what a reader had left to what it has, and from what a writer held to what it holds
abbrev pub between : (left_before left_after held_before held_after : Option (List ℕ)) → Streams
between a b h k = record { left_before = a; left_after = b; held_before = h; held_after = k }

-- the reader gave these bytes
abbrev pub Reads : Streams → List ℕ → Type 0
Reads s bytes = Consumes s.left_before s.left_after bytes

-- the writer took these bytes
abbrev pub Writes : Streams → List ℕ → Type 0
Writes s bytes = Appends s.held_before s.held_after bytes

-- Some of the bytes were written, and a part at their end is missing.
pub record IsCut (old new : Option (List ℕ)) (bytes : List ℕ) : Type 0 where
  pub sent : List ℕ
  pub missing : List ℕ
  pub all : bytes ≡ sent ++ missing
  pub some_missing : missing ≢ []
  pub appended : Appends old new sent

-- the writer took some of these bytes, and a part at their end is missing
abbrev pub WritesPart : Streams → List ℕ → Type 0
WritesPart s bytes = IsCut s.held_before s.held_after bytes

-- What is known where no byte came: the reader has none left, or failed and was not interrupted.
abbrev pub EndsReading : ReadEnd → Option (List ℕ) → Type 0
EndsReading EndOfInput left = IsAtEnd left
EndsReading (Failed fault) left = kind_of fault ≢ Interrupted
EndsReading TooManyReads left = Unit {0}

-- one read into a buffer with room
abbrev pub ReadsOnce : (old new : Option (List ℕ)) → List ℕ → ReadMeaning → Type 0
ReadsOnce old new into (Came n) = (0 < n) × (n ≤ length into) × Consumes old new (take n into)
ReadsOnce old new into NoByteCame = IsAtEnd new × Consumes old new []
ReadsOnce old new into ReadAgain = Consumes old new []
ReadsOnce old new into (ReadFailed fault) = Consumes old new [] × (kind_of fault ≢ Interrupted)

-- reads into a buffer with room until a byte comes
abbrev pub Gets : (old new : Option (List ℕ)) → List ℕ → Result ℕ ReadEnd → Type 0
Gets old new into (Ok n) = (0 < n) × (n ≤ length into) × Consumes old new (take n into)
Gets old new into (Err end) = Consumes old new [] × EndsReading end new

-- reads until a buffer is full, or no byte comes
abbrev pub Fills : (old new : Option (List ℕ)) → List ℕ → Result (Unit {0}) ReadEnd → Type 0
Fills old new into (Ok done) = Consumes old new into
Fills old new into (Err end) = ((n : ℕ) × (n < length into) × Consumes old new (take n into)) × EndsReading end new

-- reads of so many bytes that are dropped
abbrev pub Skips : (old new : Option (List ℕ)) → ℕ → Result (Unit {0}) ReadEnd → Type 0
Skips old new count (Ok done) = (bytes : List ℕ) × (length bytes ≡ count) × Consumes old new bytes
Skips old new count (Err end) = ((bytes : List ℕ) × (length bytes < count) × Consumes old new bytes) × EndsReading end new

-- one write of some bytes
abbrev pub WritesOnce : (old new : Option (List ℕ)) → List ℕ → WriteMeaning → Type 0
WritesOnce old new bytes (Taken n) = (0 < n) × (n ≤ length bytes) × Appends old new (take n bytes)
WritesOnce old new bytes WriteAgain = Appends old new []
WritesOnce old new bytes (WriteFailed fault) = Appends old new [] × (kind_of fault ≢ Interrupted)

-- what is known of a writer that failed: it was not interrupted
abbrev pub EndsWriting : SendFailed → Type 0
EndsWriting (NotTaken fault) = kind_of fault ≢ Interrupted
EndsWriting TooManyWrites = Unit {0}

-- The bytes were written, or a write failed within them.
abbrev pub Sends : {E : Type 0} → (old new : Option (List ℕ)) → List ℕ → Result (Unit {0}) E → Type 0
Sends old new bytes (Ok done) = Appends old new bytes
Sends old new bytes (Err failed) = IsCut old new bytes
