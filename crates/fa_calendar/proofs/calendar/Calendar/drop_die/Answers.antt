use Rattle.std.proofs.Common.{sym, ap, ◌∙◌, arith}
use Rattle.fa_closed.specs.Runs.{is_covered}
use Rattle.fa_types.specs.Windows.{is_in_window}
use Rattle.fa_calendar.proofs.Sound.{set_sound}
use Rattle.fa_calendar.proofs.Idle.{idle_cleared}
use Rattle.fa_calendar.proofs.calendar.Calendar.drop_die.Goals as goal

pub invariant_of-self : goal.invariant_of-self
invariant_of-self g c = record {
  sound =
      set_sound c.args.self.now.current c.args.self.now.dies.items c.args.self.now.sound c.args.die.0 c.index_mut.result.now c.clear.new.self (omega arith) c.index_mut.ensures.value c.clear.ensures.roomy
      (λ r early. ap (λ v. is_covered v r) c.clear.ensures.spans)
      (λ r late inside. let none = ap (λ v. is_in_window v r) (sym c.clear.ensures.window) ∙ inside in let no : ⊥ = cc in absurd no);
  idle = idle_cleared c.args.self.now.busy c.args.self.now.current c.args.self.now.dies.items c.args.self.now.sound
      c.args.self.now.idle c.args.die.0 c.index_mut.result.now c.clear.new.self (omega arith) c.index_mut.ensures.value
      c.clear.ensures.spans c.clear.ensures.window;
}
