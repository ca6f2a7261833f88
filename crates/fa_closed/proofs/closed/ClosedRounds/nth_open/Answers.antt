use Rattle.std.proofs.Common.{sym, subst}
use Rattle.fa_closed.specs.Runs.{FewCovered, IsNthFree}
use Rattle.fa_closed.proofs.closed.ClosedRounds.nth_open.Goals as goal

pub nth_free-requires-clause-few : goal.nth_free-requires-clause-few
nth_free-requires-clause-few g c = subst (λ v. FewCovered v c.args.self.now.current) (sym c.spans.ensures) (c.args.self.now.few c.args.die.0)

pub returns : goal.returns
returns g c =
    let is = subst (λ v. IsNthFree v c.args.self.now.current c.args.n c.nth_free.result) c.spans.ensures c.nth_free.ensures in
    record { is_open = (is.late, is.free); before = is.before }
