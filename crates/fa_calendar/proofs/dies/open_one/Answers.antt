use Rattle.std.proofs.Common.{arith}
use Rattle.fa_calendar.proofs.Places.{keeps_set}
use Rattle.fa_calendar.proofs.dies.open_one.Goals as goal

pub returns-clause-kept : goal.returns-clause-kept
returns-clause-kept g c =
    keeps_set c.args.dies.now.items c.args.die.0 c.index_mut.result.now c.open.new.self c.requires.long (omega arith) c.index_mut.ensures.value c.requires.roomy c.open.ensures.roomy c.open.ensures.window c.open.ensures.room
