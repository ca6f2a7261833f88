use Rattle.std.proofs.Common.{arith, refl}
use Rattle.fa_calendar.proofs.Idle.{idle_left, state_is}
use Rattle.fa_calendar.proofs.dies.leave.Goals as goal

pub returns-then-is_idle : goal.returns-then-is_idle
returns-then-is_idle g c =
    idle_left c.args.busy.now c.leave.new.self c.args.dies.now.items c.args.die c.index.result.now
    c.requires.idle c.leave.ensures
    (state_is c.args.dies.now.items c.args.die c.index.result.now (omega (arith, c.requires.long, c.requires.within)) c.index.ensures)
    (c.if-is_idle.ensures.closed refl) (c.if-is_idle.ensures.window refl)
