use Rattle.std.proofs.Common.{sym, ap, subst, ◌∙◌, arith}
use Rattle.std.proofs.lemmas.List.{get_or_default}
use Rattle.fa_closed.specs.Runs.{IsNthFree}
use Rattle.fa_calendar.specs.DieState.{DieState}
use Rattle.fa_calendar.specs.Dies.{no_rounds}
use Rattle.fa_calendar.proofs.Sound.{open_same, taken_at}
use Rattle.fa_calendar.proofs.calendar.CalendarRounds.nth_open.Goals as goal

pub returns : goal.returns
returns g c =
    let here = ap (λ (s : DieState). s.spans) (get_or_default c.args.self.now.dies.items c.args.die.0 no_rounds c.index.result.now (omega (arith, c.args.self.now.sound.long)) ∙ sym c.index.ensures) in
    let is = subst (λ v. IsNthFree v c.args.self.now.current c.args.n c.nth_open.result) (sym here) c.nth_open.ensures in
    record {
      is_open = (is.late, taken_at c.args.self.now.current c.args.self.now.dies.items c.args.self.now.sound c.args.die.0 c.nth_open.result is.late ∙ is.free);
      before = λ m at. let same = open_same c.args.self.now.current c.args.self.now.dies.items c.args.self.now.sound c.args.die.0 m in let count = is.before m at in omega (arith, same, count);
    }
