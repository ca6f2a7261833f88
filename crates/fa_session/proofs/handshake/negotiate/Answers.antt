use Rattle.std.proofs.Common.{refl, sym, ap, ◌∙◌}
use Rattle.std.proofs.lemmas.Result.{err_from_is_err_and}
use Rattle.fa_nego.specs.NegoState.{step_of}
use Rattle.fa_session.proofs.Greeted.{wants-more, IsHeard-greeted, IsHeard-more, Greets-at, EndsEarly-hears, EndsEarly-aborted, EndsEarly-closed, EndsEarly-greeting}
use Rattle.fa_session.proofs.handshake.negotiate.Goals as goal

pub returns-in_err-send : goal.returns-in_err-send
returns-in_err-send g c =
    let passed = err_from_is_err_and c.from_residual.result c.from_residual.ensures.1 in
    rw (passed.1, passed.2) (EndsEarly-greeting _ _ _ _ _ c.greeting.result c.greeting.ensures c.in_err-send.ensures.sent)

pub items-init : goal.items-init
items-init g c =
    let new = c.new-nego.ensures in
    record {
      so_far = IsHeard-greeted _ _ _ _ _ c.greeting.result c.new-nego.result c.greeting.ensures c.in_ok-send.ensures.sent new;
      goes_on = ap (λ state. step_of state.stage) new;
    }

pub hear-requires : goal.hear-requires
hear-requires g c =
    let far = c.items.invariant.so_far in wants-more c.items.nego far.heard far.said far.at c.items.invariant.goes_on

pub returns-in_err-hear : goal.returns-in_err-hear
returns-in_err-hear g c =
    let passed = err_from_is_err_and c.from_residual-in_err-hear.result c.from_residual-in_err-hear.ensures.1 in
    let same = c.in_err-hear.ensures.same_export in
    rw (passed.1, passed.2)
    (EndsEarly-hears _ _ _ _ _ _ c.in_err-hear.field-0.0 (refl, refl) c.items.invariant.so_far c.items.invariant.goes_on same.0 same.1 c.in_err-hear.ensures.hears)

pub items-preserved : goal.items-preserved
items-preserved g c =
    let same = c.in_ok-hear.ensures.same_export in
    let heard = c.in_ok-hear.ensures.hears in
    record {
      so_far = IsHeard-more _ _ _ _ _ _ (refl, refl) c.items.invariant.so_far same.0 same.1 heard.0;
      goes_on = sym heard.1 ∙ c.in-More.is;
    }

pub returns-in-Go : goal.returns-in-Go
returns-in-Go g c =
    let same = c.in_ok-hear.ensures.same_export in
    let heard = c.in_ok-hear.ensures.hears in
    Greets-at _ _ _ _ (IsHeard-more _ _ _ _ _ _ (refl, refl) c.items.invariant.so_far same.0 same.1 heard.0) (sym heard.1 ∙ c.in-Go.is)

pub returns-in-Aborted : goal.returns-in-Aborted
returns-in-Aborted g c =
    let same = c.in_ok-hear.ensures.same_export in
    let heard = c.in_ok-hear.ensures.hears in
    EndsEarly-aborted _ _ _ _ (IsHeard-more _ _ _ _ _ _ (refl, refl) c.items.invariant.so_far same.0 same.1 heard.0) (sym heard.1 ∙ c.in-Aborted.is)

pub returns-in-Closed : goal.returns-in-Closed
returns-in-Closed g c =
    let same = c.in_ok-hear.ensures.same_export in
    let heard = c.in_ok-hear.ensures.hears in
    EndsEarly-closed _ _ _ _ _ (IsHeard-more _ _ _ _ _ _ (refl, refl) c.items.invariant.so_far same.0 same.1 heard.0) (sym heard.1 ∙ c.in-Closed.is)
