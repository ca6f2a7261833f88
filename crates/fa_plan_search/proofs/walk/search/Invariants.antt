use Rattle.std.proofs.Common.{◌≡◌, ◌<◌, ◌≤◌, ◌-◌, ℕ, length, slice_index}
use Rattle.fa_plan_search.specs.Reading.{die_of}
use Rattle.fa_plan_search.specs.Search.{IsWalk, AreFull, IsFollowed}
use Rattle.fa_plan_search.proofs.walk.search.Given as goal

abbrev pub invariant-loop-next : goal.invariant-loop-next
invariant-loop-next g l = record {
  walk : IsWalk l.batch l.given l.walk;
  full : AreFull l.given l.tables.open_counts l.walk;
  begun : IsFollowed l.batch l.walk (length l.given);
  followed : (k page : ℕ) → k < l.next → page < length l.given → die_of l.given page ≡ slice_index l.walk.order k → IsFollowed l.batch l.walk page;
  within : l.next ≤ l.walk.count;
}

abbrev pub decreases-loop-next : goal.decreases-loop-next
decreases-loop-next g l = 256 - l.next
