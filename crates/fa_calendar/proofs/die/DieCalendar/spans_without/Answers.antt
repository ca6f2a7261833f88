use Rattle.fa_calendar.proofs.Merged.{merged_rising}
use Rattle.fa_calendar.proofs.die.DieCalendar.spans_without.Goals as goal

pub of-requires : goal.of-requires
of-requires g c = merged_rising c.take_all.new.spans.items c.in_ok-take_all.ensures.merged
