use Rattle.std.proofs.Common.{sym, ap, ◌∙◌}
use Rattle.fa_texts.specs.Text.{words_left}
use Rattle.fa_texts.proofs.Cuts.{words_some}
use Rattle.fa_batch_terms.proofs.Parts.{rest_same}
use Rattle.fa_texts.proofs.certificate_text.rounds_of.Goals as goal

pub returns-in-Some : goal.returns-in-Some
returns-in-Some c = λ rounds few is.
    let behind = sym c.in_ok-rounds.ensures.1 ∙ rest_same (sym c.cut_word.ensures.words ∙ is) in
    words_some c.in-Some.field-0.now (sym (ap (λ l. words_left l) c.in-Some.is) ∙ rest_same behind)
