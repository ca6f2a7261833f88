use Rattle.std.proofs.Common.{inl}
use Rattle.flasharr.proofs.talk.hear.Goals as goal

pub returns-in-Ok : goal.returns-in-Ok
returns-in-Ok g c =
    (c.in-Ok.text.items, c.in-Ok.ensures.whole.0, inl (c.in-Ok.ensures.whole.1, inl (rw c.as_slice.ensures.value at c.answer.ensures)))
