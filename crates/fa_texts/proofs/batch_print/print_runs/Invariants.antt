use Rattle.std.proofs.Common.{map, take, string_bytes}
use Rattle.fa_texts.specs.BatchText.{closed_line}
use Rattle.fa_texts.specs.Text.{PrintsLines}
use Rattle.fa_texts.proofs.batch_print.print_runs.Given as goal

abbrev pub invariant-loop-run : goal.invariant-loop-run
invariant-loop-run g l = PrintsLines (string_bytes l.fn.out) (string_bytes l.out) (map closed_line (take l.run-index l.closed))
