use Rattle.std.proofs.Common.{◌<◌, length, sym, ◌∙◌, arith}
use Rattle.std.proofs.lemmas.Bool.{eqb-false}
use Rattle.fa_io.proofs.LineLemmas.{line_cut, line_whole}
use Rattle.fa_io.proofs.lines.cut_line.Goals as goal

pub returns-in-Some-clause-lines : goal.returns-in-Some-clause-lines
returns-in-Some-clause-lines c = line_cut c.args.input.now c.in-Some.end (sym c.first_index.ensures ∙ c.in-Some.is)

pub returns-in-None-clause-lines : goal.returns-in-None-clause-lines
returns-in-None-clause-lines c =
    let some : 0 < length c.args.input.now = (let no = eqb-false (length c.args.input.now) 0 (sym c.is_empty.ensures ∙ c.if-is_empty.false) in omega (arith, no)) in
    line_whole c.args.input.now some (sym c.first_index.ensures ∙ c.in-None.is)
