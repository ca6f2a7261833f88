use Rattle.std.proofs.Common.{false, sym}
use Rattle.fa_solo.proofs.Asked.{runs_none, runs_time}
use Rattle.fa_solo.proofs.requests.wait_for_home.Goals as goal

pub returns-then-not-may_wait : goal.returns-then-not-may_wait
returns-then-not-may_wait g c = λ bytes. runs_none _ bytes _ _

pub returns-then-awaits_flush : goal.returns-then-awaits_flush
returns-then-awaits_flush g c = λ bytes. runs_none _ bytes _ _

pub returns : goal.returns
returns g c = λ bytes. runs_time _ bytes _ _ _ false (sym c.if-not-may_wait.ensures) (sym c.if-awaits_flush.ensures) c.collect_home.ensures
