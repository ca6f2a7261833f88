use Rattle.std.proofs.Common.{sym, ◌∙◌}
use Rattle.fa_texts.proofs.Cuts.{word_cut, word_whole}
use Rattle.fa_texts.proofs.words.cut_word.Goals as goal

pub returns-in-Some-clause-words : goal.returns-in-Some-clause-words
returns-in-Some-clause-words c = word_cut c.args.line.now c.in-Some.end (sym c.first_index.ensures ∙ c.in-Some.is)

pub returns-in-None-clause-words : goal.returns-in-None-clause-words
returns-in-None-clause-words c = word_whole c.args.line.now (sym c.first_index.ensures ∙ c.in-None.is)
