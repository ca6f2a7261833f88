-- The command `talk`: hexadecimal lines are the bytes of one client of a plain store.
use Rattle.std.specs.Prelude.{◌≡◌, ◌⊎◌, ℕ, List, [], ◌∷◌, ◌++◌, replicate, codes, Some, Ok, Err, Option}
use Rattle.std.specs.Fmt.{decimal}
use Rattle.hex.specs.Hex.{encode_lower}
use Rattle.fa_plain_store.specs.Memory.{MemoryMade}
use Rattle.fa_session.specs.Ends.{end_number}
use Rattle.fa_session.specs.Session.{Session}
use Rattle.fa_session.specs.declared.session_end.SessionEnd.{SessionEnd}
use Rattle.fa_prog_text.specs.HexLines.{bytes_of_text}
use Rattle.fa_io.specs.Streams.{Streams}
use Rattle.fa_prog_host.specs.Printing.{Prints, TellsNoMemory}
use Rattle.fa_prog_text.specs.Output.{RunsOver}

-- a reader that has these bytes left before and after, and a writer that holds these before and after
abbrev pub known : List ℕ → List ℕ → List ℕ → List ℕ → Streams
known bytes left held written =
    record { left_before = Some bytes; left_after = Some left; held_before = Some held; held_after = Some written }

-- what is printed of a connection: the server's bytes, and the number of the end
unfoldable pub talk_text : List ℕ → SessionEnd → List ℕ
talk_text written end = encode_lower written ++ 10 ∷ codes "end " ++ decimal (end_number end) ++ 10 ∷ []

-- What is printed of a text of hexadecimal lines: there is a connection of their bytes to a plain store of
-- so many zeros, and this is its text.
pub record Talks (size : ℕ) (export text out : List ℕ) : Type 0 where
  pub bytes : List ℕ
  pub left : List ℕ
  pub written : List ℕ
  pub after : List ℕ
  pub end : SessionEnd
  pub spelled : bytes_of_text text ≡ Ok bytes
  pub session : Session MemoryMade export size (known bytes left [] written) (replicate size 0) after end
  pub printed : out ≡ talk_text written end

-- what is printed of a faulty line
unfoldable pub line_text : ℕ → List ℕ
line_text line = codes "talk: line " ++ decimal line ++ 10 ∷ []

-- What is printed of a text that spells no bytes: its first faulty line, or that memory was refused.
abbrev pub RefusesText : List ℕ → Option (List ℕ) → Option (List ℕ) → ℕ → Type 0
RefusesText text old new status =
    ((line : ℕ) × (bytes_of_text text ≡ Err line) × Prints (line_text line) 2 old new status) ⊎ TellsNoMemory old new status

-- What is printed of a text: a connection of the bytes that its lines spell, or its first faulty line and nothing
-- else.
abbrev pub TellsTalk : ℕ → List ℕ → List ℕ → Option (List ℕ) → Option (List ℕ) → ℕ → Type 0
TellsTalk size export text old new status =
    ((out : List ℕ) × Talks size export text out × Prints out 0 old new status)
    ⊎ ((line : ℕ) × (bytes_of_text text ≡ Err line) × Prints (line_text line) 2 old new status)

-- What the command does.
abbrev pub RunsTalk : ℕ → List ℕ → Streams → ℕ → Type 0
RunsTalk size export s status = RunsOver (TellsTalk size export) (codes "talk: cannot read" ++ 10 ∷ []) s status
