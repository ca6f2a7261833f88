use Rattle.std.proofs.Common.{◌≡◌, ℕ, List, take, false}
use Rattle.fa_nego.specs.Negotiation.{is_among}
use Rattle.fa_nego.specs.Heard.{AreKinds}
use Rattle.fa_nego.proofs.asked.asks_for.Given as goal

-- none of the kinds so far is the one
abbrev pub invariant-loop-i : goal.invariant-loop-i
invariant-loop-i l = (asked : List ℕ) → AreKinds l.kinds asked → is_among l.kind (take l.i asked) ≡ false
