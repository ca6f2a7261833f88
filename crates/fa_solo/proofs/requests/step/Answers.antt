use Rattle.fa_solo.proofs.Asked.{runs_ahead, runs_behind}
use Rattle.fa_solo.proofs.requests.step.Goals as goal

pub returns-then-came-eq2 : goal.returns-then-came-eq2
returns-then-came-eq2 g c = λ bytes.
    runs_ahead _ bytes _ _ _ _ _ _ (c.wait_for_home.ensures bytes)
    (runs_behind _ bytes _ _ _ _ _ _ (c.turn-came.ensures bytes) (c.pass_time.ensures bytes))

pub returns-else-came-eq2 : goal.returns-else-came-eq2
returns-else-came-eq2 g c = λ bytes. runs_ahead _ bytes _ _ _ _ _ _ (c.wait_for_home.ensures bytes) (c.turn-came.ensures bytes)
