use Rattle.std.proofs.Common.{refl, sym, ap, ◌∙◌, arith}
use Rattle.fa_types.specs.Open.{rounds_that}
use Rattle.fa_closed.specs.Runs.{is_covered}
use Rattle.fa_calendar.specs.DieState.{DieState}
use Rattle.fa_calendar.specs.Dies.{closed_by}
use Rattle.fa_calendar.specs.declared.refused.CalendarRefused.TheVariants.{Full, NoMemory}
use Rattle.fa_calendar.proofs.Refusals.{err_as}
use Rattle.fa_calendar.proofs.Sound.{counted_from, state_here, taken_same, window_booked, window_sound}
use Rattle.fa_calendar.proofs.Idle.{idle_entered}
use Rattle.fa_calendar.proofs.calendar.Calendar.reserve_window.Goals as goal

pub invariant_of-self : goal.invariant_of-self
invariant_of-self g c = record {
  sound =
      window_sound c.args.self.now.current c.args.self.now.dies.items c.args.self.now.sound c.args.die.0 c.index_mut.result.now c.reserve_window.new.self (omega arith) c.index_mut.ensures.value
      c.args.rounds c.reserve_window.result c.requires.some c.reserve_window.ensures.roomy c.reserve_window.ensures.first c.reserve_window.ensures.window c.reserve_window.ensures.closed c.reserve_window.ensures.err;
  idle = idle_entered c.args.self.now.busy c.enter.new.self c.args.self.now.dies.items c.args.die.0
      c.reserve_window.new.self c.args.self.now.idle c.enter.ensures;
}

pub returns-in-Ok-clause-booked : goal.returns-in-Ok-clause-booked
returns-in-Ok-clause-booked g c =
    let here = state_here c.args.self.now.current c.args.self.now.dies.items c.args.self.now.sound c.args.die.0 c.index_mut.result.now c.reserve_window.new.self (omega arith) c.index_mut.ensures.value in
    window_booked c.args.self.now.current c.args.self.now.dies.items c.args.self.now.sound c.args.die.0 c.index_mut.result.now c.reserve_window.new.self (omega arith) c.index_mut.ensures.value
    c.args.rounds c.in-Ok.first c.requires.some (ap (λ (s : DieState). s.window) (sym here) ∙ c.requires.none) c.in-Ok.ensures.first c.in-Ok.ensures.window c.in-Ok.ensures.closed

pub returns-in-Err-clause-full : goal.returns-in-Err-clause-full
returns-in-Err-clause-full g c = λ is.
    let here = state_here c.args.self.now.current c.args.self.now.dies.items c.args.self.now.sound c.args.die.0 c.index_mut.result.now c.reserve_window.new.self (omega arith) c.index_mut.ensures.value in
    let over = c.in-Err.ensures.full (err_as c.in-Err.refused Full is) in
    let many = over.1 in
    let same = ap (λ (s : DieState). rounds_that (is_covered s.spans) 0 over.0) here in
    let from = counted_from c.args.self.now.current (closed_by c.args.self.now.dies.items c.args.die.0) over.0 (c.args.self.now.sound.past c.args.die.0) in
    let taken = taken_same c.args.self.now.current c.args.self.now.dies.items c.args.self.now.sound c.args.die.0 over.0 in
    (over.0, omega (arith, many, same, from, taken))

pub returns-in-Err-clause-no_memory : goal.returns-in-Err-clause-no_memory
returns-in-Err-clause-no_memory g c = λ is n.
    let here = state_here c.args.self.now.current c.args.self.now.dies.items c.args.self.now.sound c.args.die.0 c.index_mut.result.now c.reserve_window.new.self (omega arith) c.index_mut.ensures.value in
    let fits = c.in-Err.ensures.no_memory (err_as c.in-Err.refused NoMemory is) c.args.self.now.current n in
    let same = ap (λ (s : DieState). rounds_that (is_covered s.spans) c.args.self.now.current n) here in
    let taken = taken_same c.args.self.now.current c.args.self.now.dies.items c.args.self.now.sound c.args.die.0 n in
    omega (arith, fits, same, taken)

pub returns-in-Ok-clause-fits : goal.returns-in-Ok-clause-fits
returns-in-Ok-clause-fits g c = λ is n.
    let here = state_here c.args.self.now.current c.args.self.now.dies.items c.args.self.now.sound c.args.die.0 c.index_mut.result.now c.reserve_window.new.self (omega arith) c.index_mut.ensures.value in
    let fits = c.in-Ok.ensures.fits refl c.args.self.now.current n in
    let same = ap (λ (s : DieState). rounds_that (is_covered s.spans) c.args.self.now.current n) here in
    let taken = taken_same c.args.self.now.current c.args.self.now.dies.items c.args.self.now.sound c.args.die.0 n in
    omega (arith, fits, same, taken)
