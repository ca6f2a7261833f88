use Rattle.std.proofs.Common.{◌≡◌, ◌<◌, ℕ}
use Rattle.fa_plan_search.specs.Reading.{die_of}
use Rattle.fa_plan_search.specs.Search.{IsWalk, AreFull, GoesOn, IsFollowed}
use Rattle.fa_plan_search.proofs.walk.follow_all.Given as goal

abbrev pub invariant-loop-page : goal.invariant-loop-page
invariant-loop-page g l = record {
  walk : IsWalk l.batch l.given l.walk;
  full : AreFull l.given l.tables.open_counts l.walk;
  goes : GoesOn l.fn.walk l.walk;
  followed : (page : ℕ) → page < l.page → die_of l.given page ≡ l.die.0 → IsFollowed l.batch l.walk page;
}
