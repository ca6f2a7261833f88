use Rattle.std.proofs.Common.{take, All}
use Rattle.fa_texts.specs.BatchText.{HasPageLine}
use Rattle.fa_texts.proofs.batch_print.have_page_lines.Given as goal

abbrev pub invariant-loop-index : goal.invariant-loop-index
invariant-loop-index g l = All HasPageLine (take l.index l.batch)
