use Rattle.std.proofs.Common.{◌+◌, ap, arith, ◌∙◌}
use Rattle.fa_closed.specs.Runs.{is_covered}
use Rattle.fa_calendar.specs.DieState.{DieState}
use Rattle.fa_calendar.proofs.Idle.{still_idle}
use Rattle.fa_calendar.proofs.Passing.{all_opened, all_windows, begun, idle_skipped, one_passed}
use Rattle.fa_calendar.proofs.dies.pass_all.Goals as goal

pub loop-die-init : goal.loop-die-init
loop-die-init g c =
    let d = c.args.dies.now.items in
    record {
      long = c.requires.long;
      roomy = c.requires.roomy;
      most = c.next_from-die.ensures.most;
      passed = idle_skipped c.args.round c.args.busy.now 0 c.next_from-die.result d d (begun c.args.round d) c.requires.idle
          c.next_from-die.ensures.behind c.next_from-die.ensures.least;
      idle = c.requires.idle;
    }

pub pass_one-requires-clause-past : goal.pass_one-requires-clause-past
pass_one-requires-clause-past g c r low =
    ap (λ (s : DieState). is_covered s.spans r) (c.loop-die.invariant.passed.same c.loop-die.die (omega arith))
    ∙ c.requires.past c.loop-die.die r low

pub leave-requires-clause-idle : goal.leave-requires-clause-idle
leave-requires-clause-idle g c =
    still_idle c.loop-die.busy c.loop-die.dies.items c.pass_one.new.dies.items c.loop-die.die c.args.round
    c.loop-die.invariant.idle c.pass_one.ensures.others c.pass_one.ensures.opened c.pass_one.ensures.window

pub loop-die-smaller : goal.loop-die-smaller
loop-die-smaller g c = omega (arith, c.next_from-die-in-loop-die.ensures.behind, c.loop-die-test.true)

pub loop-die-preserved : goal.loop-die-preserved
loop-die-preserved g c =
    let d = c.args.dies.now.items in
    let e = c.pass_one.new.dies.items in
    record {
      long = c.pass_one.ensures.long;
      roomy = c.pass_one.ensures.roomy;
      most = c.next_from-die-in-loop-die.ensures.most;
      passed = idle_skipped c.args.round c.leave.new.busy (c.loop-die.die + 1) c.next_from-die-in-loop-die.result d e
          (one_passed c.args.round c.loop-die.die d c.loop-die.dies.items e c.loop-die.invariant.passed c.pass_one.ensures.others
          c.pass_one.ensures.opened c.pass_one.ensures.window)
          c.leave.ensures c.next_from-die-in-loop-die.ensures.behind c.next_from-die-in-loop-die.ensures.least;
      idle = c.leave.ensures;
    }

pub returns-clause-opened : goal.returns-clause-opened
returns-clause-opened g c =
    all_opened c.args.round c.loop-die.die c.args.dies.now.items c.loop-die.dies.items c.loop-die.invariant.passed c.requires.long
    c.loop-die.invariant.long (omega (arith, c.loop-die-test.false))

pub returns-clause-windows : goal.returns-clause-windows
returns-clause-windows g c =
    all_windows c.args.round c.loop-die.die c.args.dies.now.items c.loop-die.dies.items c.loop-die.invariant.passed c.requires.long
    c.loop-die.invariant.long (omega (arith, c.loop-die-test.false))
