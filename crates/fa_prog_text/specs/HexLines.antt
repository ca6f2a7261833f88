-- Lines of hexadecimal digits, and the bytes that they spell.
use Rattle.std.specs.Prelude.{◌≡◌, ℕ, suc, not, ◌==◌, List, [], ◌∷◌, ◌++◌, Result, Ok, Err}
use Rattle.std.specs.List.{filter}
use Rattle.fa_io.specs.Lines.{lines_of}
use Rattle.hex.specs.Hex.{decode_of}
use Rattle.fa_prog_text.specs.declared.hex_lines.TextFault.{TextFault}
use Rattle.fa_prog_text.specs.declared.hex_lines.TextFault.TheVariants.{Line, NoMemory}
use Rattle.hex.specs.declared.error.FromHexError.{FromHexError}

-- a line without its spaces
abbrev pub without_spaces : List ℕ → List ℕ
without_spaces line = filter (λ b. not (b == 32)) line

-- more bytes behind those of a line, or the line's number where its digits spell none
abbrev pub line_and : Result (List ℕ) FromHexError → ℕ → Result (List ℕ) ℕ → Result (List ℕ) ℕ
line_and (Ok bytes) number (Ok more) = Ok (bytes ++ more)
line_and (Ok bytes) number (Err line) = Err line
line_and (Err fault) number more = Err number

-- the bytes that lines from this number on spell, or the number of the first line that spells none
unfoldable pub bytes_from : ℕ → List (List ℕ) → Result (List ℕ) ℕ
bytes_from number [] = Ok []
bytes_from number (line ∷ lines) = line_and (decode_of (without_spaces line)) number (bytes_from (suc number) lines)

-- the bytes that a text spells, or the number of its first faulty line, from 1
abbrev pub bytes_of_text : List ℕ → Result (List ℕ) ℕ
bytes_of_text text = bytes_from 1 (lines_of text)

-- why a text is not read: its first faulty line, or out of memory
abbrev pub IsFault : Result (List ℕ) ℕ → TextFault → Type 0
IsFault spelled (Line number) = spelled ≡ Err number
IsFault spelled NoMemory = Unit {0}
