use Rattle.std.proofs.Common.{false, sym, true}
use Rattle.fa_solo.proofs.Asked.{runs_more, runs_none, runs_time}
use Rattle.fa_solo.proofs.requests.pass_time.Goals as goal

pub returns-then-not-may_wait : goal.returns-then-not-may_wait
returns-then-not-may_wait g c = λ bytes. runs_none _ bytes _ _

pub returns-then-awaits_flush : goal.returns-then-awaits_flush
returns-then-awaits_flush g c = λ bytes. runs_time _ bytes _ _ _ true (sym c.if-not-may_wait.ensures) (sym c.if-awaits_flush.ensures) c.work.ensures.does

pub returns-then-work_at_once : goal.returns-then-work_at_once
returns-then-work_at_once g c = λ bytes. runs_time _ bytes _ _ _ false (sym c.if-not-may_wait.ensures) (sym c.if-awaits_flush.ensures) c.work_at_once.ensures

pub returns-then-wants_room : goal.returns-then-wants_room
returns-then-wants_room g c = λ bytes.
    runs_more _ bytes _ _ _ _ _ _
    (runs_time _ bytes _ _ _ false (sym c.if-not-may_wait.ensures) (sym c.if-awaits_flush.ensures) c.work_at_once.ensures) (c.collect_for.ensures bytes)

pub returns-else-wants_room : goal.returns-else-wants_room
returns-else-wants_room g c = λ bytes. runs_time _ bytes _ _ _ false (sym c.if-not-may_wait.ensures) (sym c.if-awaits_flush.ensures) c.work_at_once.ensures
