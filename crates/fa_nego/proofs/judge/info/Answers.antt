use Rattle.std.proofs.Common.{sym, ap, ◌∙◌}
use Rattle.std.proofs.lemmas.Bool.{false≢true}
use Rattle.std.proofs.lemmas.Result.{IfOk-weaker}
use Rattle.fa_nego.specs.Negotiation.{unknown, known}
use Rattle.fa_nego.proofs.judge.info.Goals as goal

pub returns-then-not-is_known : goal.returns-then-not-is_known
returns-then-not-is_known g c =
    let asks = c.in-Some.ensures.some in
    IfOk-weaker c.refuse-then-not-is_known.result _ _ (λ come is. unknown asks.0 asks.1 (λ named. false≢true (sym c.if-not-is_known.true ∙ c.is_known.ensures.1 (rw asks.2 at named))) is) c.refuse-then-not-is_known.ensures

pub returns : goal.returns
returns g c =
    let asks = c.in-Some.ensures.some in
    let is = c.in_ok-information.ensures asks.0.kinds asks.3 in
    known asks.0 asks.1 (rw asks.2 (c.is_known.ensures.0 c.if-not-is_known.false)) (ap (λ said. record { said = said; next = c.args.next }) is)
