use Rattle.std.proofs.lemmas.Result.{err_from_is_err_and}
use Rattle.fa_prog_text.proofs.VerifyLemmas.{batch_fault, certificate_fault, comes_to_verdict}
use Rattle.fa_prog_text.proofs.verify.judge_texts.Goals as goal

pub returns-in_err-found-clause-fault : goal.returns-in_err-found-clause-fault
returns-in_err-found-clause-fault g c =
    let passed = err_from_is_err_and c.from_residual.result c.from_residual.ensures.1 in
    rw (passed.1, passed.2)
    (batch_fault _ c.in_err-found.field-0.0 c.in_err-found.ensures.fault)

pub returns-in_err-claimed-clause-fault : goal.returns-in_err-claimed-clause-fault
returns-in_err-claimed-clause-fault g c =
    let passed = err_from_is_err_and c.from_residual-in_err-claimed.result c.from_residual-in_err-claimed.ensures.1 in
    rw (passed.1, passed.2)
    (certificate_fault c.args.text.now c.in_ok-found.found c.in_err-claimed.field-0.0 c.in_ok-found.ensures.read c.in_err-claimed.ensures.fault)

pub returns-clause-judged : goal.returns-clause-judged
returns-clause-judged g c =
    comes_to_verdict c.args.text.now c.in_ok-found.found _ _ _ c.in_ok-verdict.verdict c.in_ok-found.ensures.read c.in_ok-claimed.ensures.read c.in_default.ensures c.in_ok-verdict.ensures.verdict
