use Rattle.std.proofs.Common.{sym, ap, ◌∙◌, arith}
use Rattle.std.proofs.lemmas.List.{get_or_default}
use Rattle.fa_types.specs.Open.{rounds_that}
use Rattle.fa_closed.specs.Runs.{is_covered}
use Rattle.fa_closed.proofs.Windows.{rounds_that-not}
use Rattle.fa_calendar.specs.DieState.{DieState}
use Rattle.fa_calendar.specs.Dies.{closed_by, no_rounds}
use Rattle.fa_calendar.proofs.Sound.{open_same}
use Rattle.fa_calendar.proofs.calendar.CalendarRounds.open_count.Goals as goal

pub overflow_sub-result : goal.overflow_sub-result
overflow_sub-result g c =
    let all = rounds_that-not (is_covered c.index.result.now.spans) c.args.self.now.current c.args.rounds in
    omega (arith, all, c.count.ensures)

pub returns : goal.returns
returns g c =
    let here = ap (λ (s : DieState). rounds_that (is_covered s.spans) c.args.self.now.current c.args.rounds)
    (get_or_default c.args.self.now.dies.items c.args.die.0 no_rounds c.index.result.now (omega (arith, c.args.self.now.sound.long)) ∙ sym c.index.ensures) in
    let all = rounds_that-not (closed_by c.args.self.now.dies.items c.args.die.0) c.args.self.now.current c.args.rounds in
    let same = open_same c.args.self.now.current c.args.self.now.dies.items c.args.self.now.sound c.args.die.0 c.args.rounds in
    omega (arith, here, all, same, c.count.ensures)
