use Rattle.std.proofs.Common.{◌≡◌, ℕ, ◌<◌, false}
use Rattle.fa_plain_map.proofs.Stalest.{with_stale}
use Rattle.fa_plain_map.proofs.plain_map.PlainMap.block_with.Given as goal

abbrev pub invariant-loop-block : goal.invariant-loop-block
invariant-loop-block g l = (k : ℕ) → k < l.block → with_stale l.self.history.shown l.die.0 l.stale k ≡ false
