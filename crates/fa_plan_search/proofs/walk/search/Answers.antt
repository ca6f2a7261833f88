use Rattle.fa_plan_search.proofs.Walks.{begun_is_walk, begun_is_full}
use Rattle.fa_plan_search.proofs.walk.search.Goals as goal

pub follow-first-requires-clause-searching : goal.follow-first-requires-clause-searching
follow-first-requires-clause-searching g c = record {
  small = c.requires.small;
  next = c.requires.next;
  loads = c.requires.loads;
  walk = begun_is_walk c.args.batch.now c.args.given.now c.begin.new.self c.begin.ensures.seen c.begin.ensures.count c.begin.ensures.looks c.begin.ensures.order c.begin.ensures.rank c.begin.ensures.via;
  full = begun_is_full c.args.given.now c.args.tables.now.open_counts c.begin.new.self c.begin.ensures.seen;
}
