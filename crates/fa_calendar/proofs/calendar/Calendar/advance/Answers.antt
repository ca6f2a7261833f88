use Rattle.fa_calendar.proofs.Sound.{passed_sound, passed_booked}
use Rattle.fa_calendar.proofs.calendar.Calendar.advance.Goals as goal

pub invariant_of-self : goal.invariant_of-self
invariant_of-self g c = record {
  sound =
      passed_sound c.args.self.now.current c.args.self.now.dies.items c.pass_all.new.dies.items c.args.self.now.sound c.pass_all.ensures.long c.pass_all.ensures.roomy c.pass_all.ensures.opened c.pass_all.ensures.windows;
  idle = c.pass_all.ensures.idle;
}

pub returns-clause-booked : goal.returns-clause-booked
returns-clause-booked g c =
    passed_booked c.args.self.now.current c.args.self.now.dies.items c.pass_all.new.dies.items c.args.self.now.sound c.pass_all.ensures.long c.pass_all.ensures.roomy c.pass_all.ensures.opened c.pass_all.ensures.windows
