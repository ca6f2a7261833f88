use Rattle.std.proofs.Common.{map, take, string_bytes}
use Rattle.fa_texts.specs.BatchText.{page_line}
use Rattle.fa_texts.specs.Text.{PrintsLines}
use Rattle.fa_texts.proofs.batch_print.print_pages.Given as goal

abbrev pub invariant-loop-index : goal.invariant-loop-index
invariant-loop-index g l = PrintsLines (string_bytes l.fn.out) (string_bytes l.out) (map page_line (take l.index l.batch))
