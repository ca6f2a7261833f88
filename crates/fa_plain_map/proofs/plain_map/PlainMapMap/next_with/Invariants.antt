use Rattle.std.proofs.Common.{◌≡◌, ℕ, ◌<◌, ◌≤◌, ◌==◌, false, length}
use Rattle.fa_machine.specs.Copies.{holders}
use Rattle.fa_plain_map.proofs.plain_map.PlainMapMap.next_with.Given as goal

-- the pages that were asked have another number of copies
abbrev pub invariant-loop-number : goal.invariant-loop-number
invariant-loop-number g l = (k : ℕ) → l.fn.from.0 ≤ k → k < l.number → (length (holders l.self.history.shown k) == l.count) ≡ false
