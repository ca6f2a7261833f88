use Rattle.std.proofs.Common.{ℕ, ◌+◌, ◌≤◌, ap, subst, arith}
use Rattle.fa_types.specs.Open.{rounds_that, max_closed}
use Rattle.fa_closed.specs.Runs.{is_covered}
use Rattle.fa_calendar.specs.Merging.{total_rounds, AreMerged}
use Rattle.fa_calendar.proofs.Merged.{length_fits}
use Rattle.fa_calendar.specs.DieState.{DieState}
use Rattle.fa_calendar.proofs.Gaps.{open_in}
use Rattle.fa_calendar.proofs.Totals.{total_reached, total_bounds}
use Rattle.fa_calendar.proofs.die.DieCalendar.reserve_window.Given.{Over}
use Rattle.fa_calendar.proofs.die.DieCalendar.reserve_window.Goals as goal
use Rattle.fa_calendar.proofs.die.DieCalendar.reserve_window.Goals.{Else-self-rounds-gt-MAX_ENTRIES}

-- the rounds that are closed, and so many more, are within the limit
fits : (g : Over) (c : Else-self-rounds-gt-MAX_ENTRIES g) → (from n : ℕ) → rounds_that (is_covered c.args.self.now.spans) from n + c.args.rounds ≤ max_closed
fits g c from n =
    let same = ap (λ (d : DieState). d.spans) c.self.view_is in
    let all = total_bounds c.args.self.now.spans (subst AreMerged same c.self.invariant.merged) from n in
    let total = ap total_rounds same in
    omega (arith, all, total, c.self.invariant.counted, c.if-self-rounds-gt-MAX_ENTRIES.false)

pub returns-then-self-rounds-gt-MAX_ENTRIES-clause-full : goal.returns-then-self-rounds-gt-MAX_ENTRIES-clause-full
returns-then-self-rounds-gt-MAX_ENTRIES-clause-full g c = λ _.
    let same = ap (λ (d : DieState). d.spans) c.self.view_is in
    let reached = total_reached c.args.self.now.spans (subst AreMerged same c.self.invariant.merged) in
    let count = reached.1 in
    let total = ap total_rounds same in
    (reached.0, omega (arith, count, total, c.self.invariant.counted, c.if-self-rounds-gt-MAX_ENTRIES.true))

pub make_room-requires-clause-within : goal.make_room-requires-clause-within
make_room-requires-clause-within g c =
    let size = c.self.inside.spans.ok in
    let long = length_fits c.self.inside.spans.items c.self.invariant.merged in
    omega (arith, size.0, long, c.self.invariant.counted)

pub returns-then-is_err-clause-no_memory : goal.returns-then-is_err-clause-no_memory
returns-then-is_err-clause-no_memory g c = λ _. fits g (goal.at.returns-then-is_err-clause-no_memory g c).Else-self-rounds-gt-MAX_ENTRIES

pub close-requires-clause-free : goal.close-requires-clause-free
close-requires-clause-free g c = λ round low high.
    open_in (is_covered c.make_room.new.spans.items) c.args.rounds c.first_gap-first.result round c.first_gap-first.ensures.first.opens low (omega (arith, high, c.requires.some))

pub returns-clause-fits : goal.returns-clause-fits
returns-clause-fits g c = λ _. fits g (goal.at.returns-clause-fits g c).Else-self-rounds-gt-MAX_ENTRIES
