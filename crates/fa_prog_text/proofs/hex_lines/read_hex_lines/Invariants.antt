-- The bytes so far, and then those of the lines that are left, are those of the text.
use Rattle.std.proofs.Common.{◌≡◌, ◌+◌, ◌≤◌, length}
use Rattle.fa_io.specs.Lines.{lines_of}
use Rattle.fa_prog_text.specs.HexLines.{bytes_from, bytes_of_text}
use Rattle.fa_prog_text.proofs.Lines.{onto}
use Rattle.fa_prog_text.proofs.hex_lines.read_hex_lines.Given as goal

abbrev pub invariant-lines : goal.invariant-lines
invariant-lines g l = record {
  spelled : onto l.bytes.items (bytes_from l.number (lines_of l.rest)) ≡ bytes_of_text l.fn.text;
  small : l.number + length l.rest ≤ length l.fn.text + 1;
}

abbrev pub decreases-lines : goal.decreases-lines
decreases-lines g l = length l.rest
