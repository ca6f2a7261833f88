use Rattle.std.proofs.Common.{inl, inr}
use Rattle.flasharr.proofs.talk.answer.Goals as goal

pub returns-in-Ok : goal.returns-in-Ok
returns-in-Ok g c = inr (c.in-Ok.bytes.items, c.in-Ok.ensures.bytes, rw c.as_slice.ensures.value at c.open.ensures)

pub returns-in-Err : goal.returns-in-Err
returns-in-Err g c = inl (c.refuse_text.ensures c.args.text.now c.in-Err.ensures.line)
