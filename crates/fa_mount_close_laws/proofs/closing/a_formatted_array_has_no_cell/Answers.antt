use Rattle.fa_machine.specs.Cells.{Cell, Empty}
use Rattle.std.proofs.Common.{Bool, ap, false, true}
use Rattle.std.proofs.lemmas.Bool.{true≢false}
use Rattle.fa_mount_close_laws.proofs.closing.a_formatted_array_has_no_cell.Goals as goal

abbrev is_empty_cell : Cell → Bool
is_empty_cell Empty = true
is_empty_cell cell = false

pub returns : goal.returns
returns c geometry page die slot version payload low live cell = absurd (true≢false (ap is_empty_cell cell.sealed))
