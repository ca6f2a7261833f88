use Rattle.std.proofs.Common.{◌≡◌, ℕ, ◌&&◌, not, take}
use Rattle.fa_closed.specs.Runs.{is_covered}
use Rattle.fa_calendar.specs.Merging.{AreMerged}
use Rattle.fa_calendar.specs.Dies.{is_at}
use Rattle.fa_calendar.proofs.die.take_all.Given as goal

abbrev pub invariant-loop-place : goal.invariant-loop-place
invariant-loop-place g l = record {
  merged : AreMerged l.spans.items;
  opened : (r : ℕ) → is_covered l.spans.items r ≡ (is_covered l.fn.spans.items r && not (is_at (take l.place-index l.places) l.number r));
}
