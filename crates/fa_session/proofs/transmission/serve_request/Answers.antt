use Rattle.std.proofs.Common.{◌≡◌, Ok, Err, arith, length, refl, sym, ◌∙◌}
use Rattle.std.proofs.lemmas.Result.{err_from_is_err_and}
use Rattle.fa_session.specs.Exchanges.{NotAsked}
use Rattle.fa_session.proofs.Served.{Transmitted-stopped, Transmitted-last, IsServed-answered, Transmitted-answered, AnswersRequest-declined}
use Rattle.fa_session.proofs.transmission.serve_request.Goals as goal

pub returns-in_err-fill-clause-served : goal.returns-in_err-fill-clause-served
returns-in_err-fill-clause-served g c =
    let passed = err_from_is_err_and c.from_residual.result c.from_residual.ensures.1 in
    let whole : length c.fill.new.into ≡ 28 = omega arith in
    rw (passed.1, passed.2) (Transmitted-stopped _ _ _ _ _ _ c.fill.new.into c.in_err-fill.field-0.0 whole c.in_err-fill.ensures.filled)

pub returns-in_default-clause-served : goal.returns-in_default-clause-served
returns-in_default-clause-served g c =
    let whole : length c.fill.new.into ≡ 28 = omega arith in
    Transmitted-last _ _ _ _ _ _ _ _ c.in_ok-fill.ensures.filled (refl, (whole, c.in_default.ensures.magic))

pub returns-in-Disconnect-clause-served : goal.returns-in-Disconnect-clause-served
returns-in-Disconnect-clause-served g c =
    Transmitted-last _ _ _ _ _ _ _ _ c.in_ok-fill.ensures.filled
    (refl, (c.in-Ok.request, c.in-Ok.ensures.fits, c.in-Ok.ensures.spelled, sym c.decide.ensures.rules ∙ c.in-Disconnect.is))

pub returns-in_err-decline-in-Refuse-clause-served : goal.returns-in_err-decline-in-Refuse-clause-served
returns-in_err-decline-in-Refuse-clause-served g c =
    let passed = err_from_is_err_and c.from_residual-in_err-decline-in-Refuse.result c.from_residual-in_err-decline-in-Refuse.ensures.1 in
    let decided = sym c.decide.ensures.rules ∙ c.in-Refuse.is in
    rw (passed.1, passed.2)
    (Transmitted-answered _ _ c.in-Ok.request _ _ _ _ _ c.fill.new.into _ _ c.in_err-decline-in-Refuse.field-0.0 c.in-Ok.ensures.fits c.in-Ok.ensures.spelled c.in_ok-fill.ensures.filled
    (AnswersRequest-declined _ _ c.in-Ok.request _ _ c.in-Refuse.code (NotAsked c.in-Refuse.code) (Err c.in_err-decline-in-Refuse.field-0.0) (λ body. decided) refl refl c.in_err-decline-in-Refuse.ensures.declined))

pub returns-in_ok-decline-in-Refuse-clause-served : goal.returns-in_ok-decline-in-Refuse-clause-served
returns-in_ok-decline-in-Refuse-clause-served g c =
    let decided = sym c.decide.ensures.rules ∙ c.in-Refuse.is in
    IsServed-answered _ _ c.in-Ok.request _ _ _ _ _ c.fill.new.into _ _ c.in-Ok.ensures.fits c.in-Ok.ensures.spelled c.in_ok-fill.ensures.filled
    (AnswersRequest-declined _ _ c.in-Ok.request _ _ c.in-Refuse.code (NotAsked c.in-Refuse.code) (Ok tt) (λ body. decided) refl refl c.in_ok-decline-in-Refuse.ensures.declined)

pub returns-in_err-perform-in-Do-clause-served : goal.returns-in_err-perform-in-Do-clause-served
returns-in_err-perform-in-Do-clause-served g c =
    let passed = err_from_is_err_and c.from_residual-in_err-perform-in-Do.result c.from_residual-in_err-perform-in-Do.ensures.1 in
    rw (passed.1, passed.2)
    (Transmitted-answered _ _ c.in-Ok.request _ _ _ _ _ c.fill.new.into _ _ c.in_err-perform-in-Do.field-0.0 c.in-Ok.ensures.fits c.in-Ok.ensures.spelled c.in_ok-fill.ensures.filled c.in_err-perform-in-Do.ensures.answered)

pub returns-in_ok-perform-in-Do-clause-served : goal.returns-in_ok-perform-in-Do-clause-served
returns-in_ok-perform-in-Do-clause-served g c =
    IsServed-answered _ _ c.in-Ok.request _ _ _ _ _ c.fill.new.into _ _ c.in-Ok.ensures.fits c.in-Ok.ensures.spelled c.in_ok-fill.ensures.filled c.in_ok-perform-in-Do.ensures.answered
