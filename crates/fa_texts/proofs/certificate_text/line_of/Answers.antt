use Rattle.std.proofs.lemmas.Bool.{false≢true}
use Rattle.fa_texts.proofs.LinesRead.{other_first}
use Rattle.fa_texts.proofs.certificate_text.line_of.Goals as goal

pub returns : goal.returns
returns g c = (
  λ x fine. other_first c.cut_word.ensures.words c.if-is_word.ensures.1,
  λ pages fine some. other_first c.cut_word.ensures.words c.if-is_word-2.ensures.1,
  λ is. false≢true (c.if-is_only_word.ensures.1 is),
)
