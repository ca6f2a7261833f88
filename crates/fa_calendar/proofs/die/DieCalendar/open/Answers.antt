use Rattle.fa_calendar.proofs.Merged.{merged_rising}
use Rattle.fa_calendar.proofs.die.DieCalendar.open.Goals as goal

pub covers-requires : goal.covers-requires
covers-requires g c = merged_rising c.self.inside.spans.items c.self.invariant.merged
