use Rattle.std.proofs.Common.{not, [], sym, ◌∙◌, arith}
use Rattle.std.proofs.lemmas.Bool.{and_parts}
use Rattle.fa_closed.specs.Runs.{closed_by as spans_close}
use Rattle.fa_calendar.specs.Dies.{closed_by, window_by, is_at}
use Rattle.fa_types.specs.Windows.{is_in_window}
use Rattle.fa_calendar.proofs.Cases.{without_is}
use Rattle.fa_calendar.proofs.Places.{rounds_that-le}
use Rattle.fa_calendar.proofs.Sound.{apart_old}
use Rattle.fa_calendar.proofs.calendar.Calendar.closed.Goals as goal

pub of_spans-requires-clause-few : goal.of_spans-requires-clause-few
of_spans-requires-clause-few g c = λ die n.
    let part = rounds_that-le (spans_close c.in_ok-all.all.items die) (closed_by c.args.self.now.dies.items die)
    (λ r has. (and_parts (closed_by c.args.self.now.dies.items die r) (not (is_at c.args.without.now die r)) (sym (c.in_ok-all.ensures.closed die r) ∙ has)).0) c.args.self.now.current n in
    let few = (c.args.self.now.sound.roomy die).few c.args.self.now.current n in
    omega (arith, part, few)

pub returns-clause-closed : goal.returns-clause-closed
returns-clause-closed g c = λ die round late.
    c.of_spans.ensures.closed die round ∙ c.in_ok-all.ensures.closed die round
    ∙ without_is (closed_by c.args.self.now.dies.items die round) (is_in_window (window_by c.args.self.now.dies.items die) round) (is_at c.args.without.now die round)
    (c.args.self.now.sound.held die round late)
    (apart_old c.args.self.now.current c.args.self.now.dies.items c.args.self.now.sound c.args.without.now [] c.requires tt die round)
