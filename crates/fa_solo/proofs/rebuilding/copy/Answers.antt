use Rattle.std.proofs.Common.{Result, inl, map, subst}
use Rattle.fa_machine.specs.declared.refusals.ReserveCopyRefused.{ReserveCopyRefused}
use Rattle.fa_solo.proofs.Orders.{copies_err, copies_ok}
use Rattle.fa_solo_job.specs.Inner.{AsksCopy}
use Rattle.fa_solo.proofs.rebuilding.copy.Goals as goal

pub returns-in_default : goal.returns-in_default
returns-in_default g c = inl c.in_default.ensures.none

pub returns-in-Ok : goal.returns-in-Ok
returns-in-Ok g c =
    copies_ok _ _ c.args.thin.page.0 c.args.thin.seq.0 _ _ _ c.see_through.result c.seen.result
    (subst (λ (r : Result (Unit {0}) ReserveCopyRefused). AsksCopy c.args.thin.page.0 c.args.thin.seq.0
    (map (λ e. (e.0.0, e.1.items)) c.args.answers.items) r c.args.inner.now c.reserve_last.new.inner) c.in-Ok.is c.in-Some.ensures.some)
    c.see_through.ensures c.seen.ensures

pub returns-in-Err : goal.returns-in-Err
returns-in-Err g c =
    copies_err _ _ c.args.thin.page.0 c.args.thin.seq.0 _ _ c.in-Err.refused c.after_refusal.result
    (subst (λ (r : Result (Unit {0}) ReserveCopyRefused). AsksCopy c.args.thin.page.0 c.args.thin.seq.0
    (map (λ e. (e.0.0, e.1.items)) c.args.answers.items) r c.args.inner.now c.reserve_last.new.inner) c.in-Err.is c.in-Some.ensures.some)
    c.after_refusal.ensures
