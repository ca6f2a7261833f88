use Rattle.fa_calendar.proofs.Merged.{merged_rising}
use Rattle.fa_calendar.proofs.die.take_all.Goals as goal

pub covers-requires : goal.covers-requires
covers-requires g c = merged_rising c.loop-place.spans.items c.loop-place.invariant.merged
