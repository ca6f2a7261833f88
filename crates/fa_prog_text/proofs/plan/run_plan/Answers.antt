use Rattle.std.proofs.Common.{inl}
use Rattle.fa_prog_text.proofs.plan.run_plan.Goals as goal

pub returns-in-Ok : goal.returns-in-Ok
returns-in-Ok g c =
    (c.in-Ok.text.items, c.in-Ok.ensures.whole.0, inl (c.in-Ok.ensures.whole.1, rw c.deref.ensures.value at c.tell_plan.ensures))
