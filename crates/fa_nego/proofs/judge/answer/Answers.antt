use Rattle.std.proofs.lemmas.Result.{IfOk-weaker}
use Rattle.fa_nego.specs.Negotiation.{info, go}
use Rattle.fa_nego.proofs.judge.answer.Goals as goal

pub returns-in-6 : goal.returns-in-6
returns-in-6 g c = IfOk-weaker c.info.result _ _ (λ come comes. info c.in-6.is comes) c.info.ensures

pub returns-in-7 : goal.returns-in-7
returns-in-7 g c = IfOk-weaker c.info-in-7.result _ _ (λ come comes. go c.in-7.is comes) c.info-in-7.ensures
