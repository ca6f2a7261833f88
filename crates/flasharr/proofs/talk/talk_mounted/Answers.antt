use Rattle.std.proofs.Common.{inl, inr}
use Rattle.flasharr.proofs.talk.talk_mounted.Goals as goal

pub returns-in-Ok : goal.returns-in-Ok
returns-in-Ok g c =
    let said = c.in-Ok.ensures in
    inl (c.in-Ok.said.written.items, c.in-Ok.said.end, said.0, c.in-Ok.said.closed, said.1, c.print_said.ensures said.0 said.2)

pub returns-in-Err : goal.returns-in-Err
returns-in-Err g c = inr c.refuse_for_memory.ensures
