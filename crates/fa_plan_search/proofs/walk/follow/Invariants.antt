use Rattle.std.proofs.Common.{◌≡◌, ℕ, true, take}
use Rattle.fa_batch_terms.specs.Batch.{is_among}
use Rattle.fa_plan_search.specs.Search.{IsWalk, AreFull, GoesOn, has_reached}
use Rattle.fa_plan_search.proofs.walk.follow.Given as goal

abbrev pub invariant-loop-die : goal.invariant-loop-die
invariant-loop-die g l = record {
  walk : IsWalk l.batch l.given l.walk;
  full : AreFull l.given l.tables.open_counts l.walk;
  goes : GoesOn l.fn.walk l.walk;
  reached : (die : ℕ) → is_among (take l.die-index l.die-items) die ≡ true → has_reached l.walk die ≡ true;
}
