use Rattle.std.proofs.Common.{sym, ◌∙◌}
use Rattle.std.proofs.lemmas.Bool.{false≢true}
use Rattle.fa_solo.proofs.Orders.{tidies_none}
use Rattle.fa_solo.proofs.whole.tidy_unless.Goals as goal

pub returns-then-is_full-clause-tidies : goal.returns-then-is_full-clause-tidies
returns-then-is_full-clause-tidies g c = (tidies_none _ _, λ other. absurd (false≢true (sym other ∙ c.if-is_full.true)))

pub returns-clause-tidies : goal.returns-clause-tidies
returns-clause-tidies g c = (c.tidy.ensures.tidies, λ other. c.tidy.ensures.done)
