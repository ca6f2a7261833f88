use Rattle.std.proofs.Common.{sym, ap, ◌∙◌, arith}
use Rattle.std.proofs.lemmas.List.{get_or_default}
use Rattle.fa_types.specs.Open.{rounds_that}
use Rattle.fa_closed.specs.Runs.{is_covered}
use Rattle.fa_calendar.specs.DieState.{DieState}
use Rattle.fa_calendar.specs.Dies.{closed_by, no_rounds}
use Rattle.fa_calendar.proofs.Sound.{counted_from, taken_same}
use Rattle.fa_calendar.proofs.calendar.Calendar.entries.Goals as goal

pub returns : goal.returns
returns g c =
    let s = c.args.self.now in
    let here = get_or_default s.dies.items c.args.die.0 no_rounds c.index.result.now (omega (arith, s.sound.long)) ∙ sym c.index.ensures in
    let all = c.entries.ensures.reached in
    record {
      most = λ n.
          let bound = c.entries.ensures.most s.current n in
          let same = ap (λ (d : DieState). rounds_that (is_covered d.spans) s.current n) here in
          let taken = taken_same s.current s.dies.items s.sound c.args.die.0 n in
          omega (arith, bound, same, taken);
      reached =
          let n = all.0 in
          let bound = c.entries.ensures.most s.current n in
          let same = ap (λ (d : DieState). rounds_that (is_covered d.spans) s.current n) here in
          let first = ap (λ (d : DieState). rounds_that (is_covered d.spans) 0 n) here in
          let from = counted_from s.current (closed_by s.dies.items c.args.die.0) n (s.sound.past c.args.die.0) in
          let taken = taken_same s.current s.dies.items s.sound c.args.die.0 n in
          let is = all.1 in
          (n, omega (arith, is, bound, same, first, from, taken));
    }
