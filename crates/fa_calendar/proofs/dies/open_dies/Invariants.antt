use Rattle.std.proofs.Common.{◌≡◌, ℕ, [], None, length}
use Rattle.fa_calendar.specs.Dies.{state_of}
use Rattle.fa_calendar.proofs.dies.open_dies.Given as goal

abbrev pub invariant-loop : goal.invariant-loop
invariant-loop g l = record {
  long : length l.dies.items ≡ l.counter;
  empty : (die : ℕ) → ((state_of l.dies.items die).spans ≡ []) × ((state_of l.dies.items die).window ≡ None);
}
