use Rattle.std.proofs.Common.{◌≡◌, ℕ, ◌&&◌, not, take}
use Rattle.fa_calendar.specs.Dies.{closed_by, is_at, KeepsDies}
use Rattle.fa_calendar.proofs.dies.open_all.Given as goal

abbrev pub invariant-loop-place : goal.invariant-loop-place
invariant-loop-place g l = record {
  kept : KeepsDies l.fn.dies.items l.dies.items;
  opened : (die round : ℕ) → closed_by l.dies.items die round ≡ (closed_by l.fn.dies.items die round && not (is_at (take l.place-index l.places) die round));
}
