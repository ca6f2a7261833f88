use Rattle.std.proofs.Common.{◌≡◌, ℕ, false, take}
use Rattle.std.specs.FinMap.{contains_key}
use Rattle.fa_calendar.specs.Dies.{is_at}
use Rattle.fa_calendar.proofs.dies.enter_all.Given as goal

abbrev pub invariant-loop-place : goal.invariant-loop-place
invariant-loop-place g l = record {
  kept : (die : ℕ) → contains_key l.busy die ≡ false → contains_key l.initial.busy die ≡ false;
  entered : (die round : ℕ) → contains_key l.busy die ≡ false → is_at (take l.place-index l.places) die round ≡ false;
}
