use Rattle.fa_calendar.proofs.Merged.{merged_rising}
use Rattle.fa_calendar.proofs.die.DieCalendar.count.Goals as goal

pub count_covered-requires-clause-rising : goal.count_covered-requires-clause-rising
count_covered-requires-clause-rising g c = merged_rising c.self.inside.spans.items c.self.invariant.merged
