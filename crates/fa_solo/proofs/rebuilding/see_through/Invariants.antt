use Rattle.std.proofs.Common.{ℕ, ◌≤◌}
use Rattle.fa_solo.proofs.Settled.{LooksOn}
use Rattle.fa_solo.proofs.rebuilding.see_through.Given as goal

abbrev pub invariant-loop-looks : goal.invariant-loop-looks
invariant-loop-looks g l = (looks : ℕ) × (l.looks ≤ looks) × LooksOn g.I.Image.made looks l.initial.inner l.inner
