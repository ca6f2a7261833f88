use Rattle.std.proofs.Common.{refl}
use Rattle.std.proofs.lemmas.Result.{err_from_is_err_and}
use Rattle.fa_session.proofs.Served.{StopsInBody-receives, body_length-write}
use Rattle.fa_session.proofs.exchange.take.Goals as goal

pub returns-in_err-receive-clause-answered : goal.returns-in_err-receive-clause-answered
returns-in_err-receive-clause-answered g c =
    let passed = err_from_is_err_and c.from_residual.result c.from_residual.ensures.1 in
    let asked = body_length-write c.args.request c.requires.command in
    rw (passed.1, passed.2) (StopsInBody-receives c.args.request _ _ _ _ _ _ c.in_err-receive.field-0.0 asked c.in_err-receive.ensures.received, refl)
