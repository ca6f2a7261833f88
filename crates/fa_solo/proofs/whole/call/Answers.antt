use Rattle.fa_solo.proofs.Begun.{whole_done, whole_refused}
use Rattle.fa_solo.proofs.whole.call.Goals as goal

pub returns-clause-done : goal.returns-clause-done
returns-clause-done g c = whole_done _ _ _ _ _ _ _ c.run-answer.result c.bring_in.ensures c.run-answer.ensures.request c.tidy_unless.ensures.tidies.0
    (λ room. c.tidy_unless.ensures.full (c.has_no_room-is_full.ensures.full room))
    (λ other. c.tidy_unless.ensures.tidies.1 (c.has_no_room-is_full.ensures.other other))

pub returns-clause-refused : goal.returns-clause-refused
returns-clause-refused g c =
    whole_refused _ _ _ _ _ _ _ c.run-answer.result c.bring_in.ensures c.run-answer.ensures.request c.tidy_unless.ensures.tidies.0
    (λ room. c.tidy_unless.ensures.full (c.has_no_room-is_full.ensures.full room))
    (λ other. c.tidy_unless.ensures.tidies.1 (c.has_no_room-is_full.ensures.other other))
