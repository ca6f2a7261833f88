use Rattle.std.proofs.Common.{ap, subst, arith}
use Rattle.fa_calendar.specs.Merging.{total_rounds, AreMerged}
use Rattle.fa_calendar.proofs.Merged.{length_fits}
use Rattle.fa_calendar.specs.DieState.{DieState}
use Rattle.fa_calendar.proofs.Totals.{one_more}
use Rattle.fa_calendar.proofs.die.DieCalendar.book.Goals as goal

pub returns-then-self-ge-MAX_ENTRIES-clause-full : goal.returns-then-self-ge-MAX_ENTRIES-clause-full
returns-then-self-ge-MAX_ENTRIES-clause-full g c = λ _.
    let same = ap (λ (d : DieState). d.spans) c.self.view_is in
    let more = one_more c.args.self.now.spans c.args.round (subst AreMerged same c.self.invariant.merged) c.requires in
    (more.0, omega (arith, more.1, ap total_rounds same, c.self.invariant.counted, c.if-self-ge-MAX_ENTRIES.true))

pub make_room-requires-clause-within : goal.make_room-requires-clause-within
make_room-requires-clause-within g c =
    let size = c.self.inside.spans.ok in
    let fits = length_fits c.self.inside.spans.items c.self.invariant.merged in
    omega (arith, size.0, fits, c.self.invariant.counted)
