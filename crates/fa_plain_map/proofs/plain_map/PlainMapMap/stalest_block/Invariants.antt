use Rattle.fa_plain_map.proofs.Stalest.{HasOthers}
use Rattle.fa_plain_map.proofs.plain_map.PlainMapMap.stalest_block.Given as goal

abbrev pub invariant-loop-other : goal.invariant-loop-other
invariant-loop-other g l = HasOthers l.self.history.shown l.die.0 l.other
