use Rattle.std.proofs.Common.{◌≡◌, ℕ, ◌<◌, ◌≤◌, false}
use Rattle.fa_machine.specs.Copies.{holds_page}
use Rattle.fa_plain_map.proofs.plain_map.PlainMap.copy_from.Given as goal

-- the dies that were asked hold no copy
abbrev pub invariant-loop-number : goal.invariant-loop-number
invariant-loop-number g l = (k : ℕ) → l.first ≤ k → k < l.number → holds_page l.self.history.shown l.page.0 k ≡ false
