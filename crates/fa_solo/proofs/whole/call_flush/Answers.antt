use Rattle.fa_solo.proofs.Begun.{flush_done, flush_refused}
use Rattle.fa_solo.proofs.whole.call_flush.Goals as goal

pub returns-clause-done : goal.returns-clause-done
returns-clause-done g c = flush_done _ _ _ _ _ _ c.run_flush-answer.result c.bring_in.ensures c.run_flush-answer.ensures.request c.tidy.ensures
    c.run_flush-answer.ensures.room

pub returns-clause-refused : goal.returns-clause-refused
returns-clause-refused g c = flush_refused _ _ _ _ _ _ c.run_flush-answer.result c.bring_in.ensures c.run_flush-answer.ensures.request c.tidy.ensures
    c.run_flush-answer.ensures.room
