use Rattle.std.proofs.Common.{◌+◌, ◌≤◌, length}
use Rattle.fa_texts.proofs.BatchTexts.{IsSoFar}
use Rattle.fa_texts.proofs.Reading.{HasRead}
use Rattle.fa_texts.proofs.batch_text.read_batch.Given as goal

abbrev pub invariant-loop-text : goal.invariant-loop-text
invariant-loop-text g l = (l.line + length l.rest ≤ 2 + length l.fn.input) × HasRead 1 l.fn.input l.rest l.line (IsSoFar l.batch l.runs.items)

abbrev pub decreases-loop-text : goal.decreases-loop-text
decreases-loop-text g l = length l.rest
