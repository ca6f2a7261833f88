use Rattle.std.proofs.Common.{sym, ◌∙◌, subst}
use Rattle.fa_batch_terms.specs.Certificate.{AreNamed}
use Rattle.fa_plan_search.specs.Pages.{AreReached}
use Rattle.fa_plan.specs.Shortage.{AreTooFew, IsRaised}
use Rattle.fa_plan.proofs.Making.{given_one, raised, reached_are_few}
use Rattle.fa_plan.proofs.Reached.{reached_are_named, reached_are_too_many}
use Rattle.fa_plan.proofs.planner.step.Goals as goal

pub rounds_for-progress-requires-clause-named : goal.rounds_for-progress-requires-clause-named
rounds_for-progress-requires-clause-named g c =
    subst (λ v. AreNamed c.args.batch.now v) (sym c.as_slice-then-not-is_given.ensures)
    (reached_are_named c.args.batch.now c.as_slice.result.now c.give.new.walk c.in_ok-pages.pages c.requires.sound.fine.once c.in_ok-pages.ensures)

pub rounds_for-progress-requires-clause-low : goal.rounds_for-progress-requires-clause-low
rounds_for-progress-requires-clause-low g c =
    let p = c.args.progress.now in
    let same = c.as_slice.ensures.value ∙ c.in_ok-is_given.ensures.same c.if-not-is_given.true in
    subst (λ v. AreTooFew c.args.batch.now (g.R.Rounds.current c.args.calendar.now) (g.R.Rounds.closed c.args.calendar.now) p.rounds v) (sym c.as_slice-then-not-is_given.ensures)
    (reached_are_too_many c.args.batch.now p.given.items c.give.new.walk p.tables.open_counts c.in_ok-pages.pages c.requires.sound.fine.once c.in_ok-is_given.ensures.walk.tables.0
    (c.in_ok-is_given.ensures.end c.if-not-is_given.true) (subst (λ v. AreReached c.args.batch.now v c.give.new.walk c.in_ok-pages.pages) same c.in_ok-pages.ensures)
    (g.R.Rounds.current c.args.calendar.now) (g.R.Rounds.closed c.args.calendar.now) p.rounds c.requires.progress.open_counts)

pub returns-in_ok-pages-clause-progress : goal.returns-in_ok-pages-clause-progress
returns-in_ok-pages-clause-progress g c =
    let batch = c.args.batch.now in
    let p = c.args.progress.now in
    let same = c.as_slice.ensures.value ∙ c.in_ok-is_given.ensures.same c.if-not-is_given.true in
    let are = subst (λ v. AreReached batch v c.give.new.walk c.in_ok-pages.pages) same c.in_ok-pages.ensures in
    raised batch (g.R.Rounds.current c.args.calendar.now) (g.R.Rounds.closed c.args.calendar.now) c.requires.sound p c.requires.progress c.requires.next c.give.new.walk c.in_ok-is_given.ensures.walk
    c.give.new.given c.give.new.tables.loads c.count_open-progress.result c.rounds_for-progress.result c.in_ok-pages.pages
    (c.in_ok-is_given.ensures.same c.if-not-is_given.true) (c.in_ok-is_given.ensures.loads c.if-not-is_given.true) c.count_open-progress.ensures
    (reached_are_few batch p.given.items c.give.new.walk c.in_ok-pages.pages c.requires.next are)
    (subst (λ v. IsRaised batch (g.R.Rounds.current c.args.calendar.now) (g.R.Rounds.closed c.args.calendar.now) v p.rounds c.rounds_for-progress.result) c.as_slice-then-not-is_given.ensures c.rounds_for-progress.ensures)

pub returns-else-not-is_given-clause-progress : goal.returns-else-not-is_given-clause-progress
returns-else-not-is_given-clause-progress g c =
    given_one c.args.batch.now (g.R.Rounds.current c.args.calendar.now) (g.R.Rounds.closed c.args.calendar.now) c.requires.sound c.args.progress.now c.requires.progress c.requires.next c.give.new.walk c.in_ok-is_given.ensures.walk
    c.give.new.given c.give.new.tables (c.in_ok-is_given.ensures.given c.if-not-is_given.false) (c.in_ok-is_given.ensures.longer c.if-not-is_given.false) c.in_ok-is_given.ensures.open_counts
