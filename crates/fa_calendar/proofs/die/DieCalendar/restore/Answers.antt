use Rattle.std.proofs.Common.{◌+◌, ◌≤◌, sym, ap, ◌∙◌, subst, arith}
use Rattle.std.specs.VecDeque.{deque_capacity}
use Rattle.fa_types.specs.Open.{max_closed}
use Rattle.fa_closed.specs.Runs.{is_covered}
use Rattle.fa_calendar.specs.Merging.{total_rounds, AreMerged}
use Rattle.fa_calendar.proofs.Merged.{merged_rising}
use Rattle.fa_calendar.specs.DieState.{DieState}
use Rattle.fa_calendar.proofs.Totals.{one_more}
use Rattle.fa_calendar.proofs.die.DieCalendar.restore.Given.{Over}
use Rattle.fa_calendar.proofs.die.DieCalendar.restore.Goals as goal
use Rattle.fa_calendar.proofs.die.DieCalendar.restore.Goals.{Then-not-covers}

-- where the round is open, there is room for one more
fits : (g : Over) (c : Then-not-covers g) → (total_rounds c.self.inside.spans.items + 1 ≤ max_closed) × (total_rounds c.self.inside.spans.items + 1 ≤ deque_capacity c.self.inside.spans)
fits g c =
    let same = ap (λ (d : DieState). d.spans) c.self.view_is in
    let room = ap (λ (d : DieState). d.room) c.self.view_is in
    let lacks = ap (λ v. is_covered v c.args.round) (sym same) ∙ sym c.covers.ensures ∙ c.if-not-covers.true in
    let more = one_more c.args.self.now.spans c.args.round (subst AreMerged same c.self.invariant.merged) lacks in
    let count = more.1 in
    let total = ap total_rounds same in
    let few = c.requires.few more.0 in
    let kept = c.requires.kept more.0 in
    (omega (arith, count, total, few), omega (arith, count, total, kept, room))

pub covers-requires : goal.covers-requires
covers-requires g c = merged_rising c.self.inside.spans.items c.self.invariant.merged

pub close-requires-clause-kept : goal.close-requires-clause-kept
close-requires-clause-kept g c = let room = fits g (goal.at.close-requires-clause-kept g c).Then-not-covers in omega (arith, room)

pub invariant_of-self : goal.invariant_of-self
invariant_of-self g c =
    let room = fits g (goal.at.invariant_of-self g c).Then-not-covers in
    let total = c.close.ensures.added.total in
    record {
      merged = c.close.ensures.added.merged;
      counted = omega (arith, total, c.self.invariant.counted);
      few = omega (arith, total, room.0);
      kept = omega (arith, total, room.1, c.close.ensures.room);
    }

pub returns-then-not-covers-clause-roomy : goal.returns-then-not-covers-clause-roomy
returns-then-not-covers-clause-roomy g c =
    let room = fits g (goal.at.returns-then-not-covers-clause-roomy g c).Then-not-covers in
    let total = c.close.ensures.added.total in
    record {
      merged = c.close.ensures.added.merged;
      few = omega (arith, total, room.0);
      kept = omega (arith, total, room.1, c.close.ensures.room);
    }
