use Rattle.std.proofs.Common.{◌≡◌, ℕ, ◌||◌, take}
use Rattle.fa_calendar.specs.Dies.{closed_by, is_at, KeepsDies}
use Rattle.fa_calendar.proofs.dies.book_all.Given as goal

abbrev pub invariant-loop-index : goal.invariant-loop-index
invariant-loop-index g l = record {
  kept : KeepsDies l.fn.dies.items l.dies.items;
  closed : (die round : ℕ) → closed_by l.dies.items die round ≡ (closed_by l.fn.dies.items die round || is_at (take l.index l.places) die round);
}
