use Rattle.std.proofs.Common.{arith}
use Rattle.std.proofs.lemmas.Bool.{eq-eqb, false≢true}
use Rattle.std.proofs.Common.{sym, ◌∙◌}
use Rattle.fa_set.proofs.Bits.{word_left}
use Rattle.fa_set.proofs.words.take_out.Goals as goal

pub returns-clause-left : goal.returns-clause-left
returns-clause-left g c = λ some wanted.
    word_left c.args.words.now.items c.args.number c.without_bit-word.result c.requires (omega arith)
    (λ none. false≢true (sym some ∙ eq-eqb c.without_bit-word.result 0 none))
