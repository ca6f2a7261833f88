use Rattle.std.proofs.Common.{sym, ◌∙◌}
use Rattle.fa_texts.proofs.Cuts.{something_left}
use Rattle.fa_batch_terms.proofs.Parts.{rest_same}
use Rattle.fa_texts.proofs.words.is_only_word.Goals as goal

pub returns-else-is_none : goal.returns-else-is_none
returns-else-is_none c = (λ no. cc, λ is. absurd (something_left c.cut_word.result.1 c.if-is_none.ensures (rest_same (sym c.cut_word.ensures.words ∙ is))))
