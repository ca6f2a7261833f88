use Rattle.std.proofs.Common.{◌≡◌, ◌∙◌, Bool, Err, false, refl, sym, true, ℕ}
use Rattle.fa_machine.specs.State.{Core}
use Rattle.fa_machine.specs.Step.{Step, Window}
use Rattle.fa_machine.specs.declared.refusals.WindowRefused.{WindowRefused}
use Rattle.fa_machine.specs.declared.refusals.WindowRefused.TheVariants.{Busy, HasOne, NoMemory}
use Rattle.fa_shared_lock.proofs.Holds.{join_rest, rest_same}
use Rattle.fa_workers.specs.Windows.{Given, GivesWindow, NoDie, NoWindow, OneMore, Refused, Wants}
use Rattle.fa_workers.proofs.collecting.give_windows.Goals.{then-give_window, else-give_window}
use Rattle.fa_workers.proofs.collecting.give_windows.Goals as goal

refused_keeps : (rounds : ℕ) (old : Core) (die : ℕ) (refused : WindowRefused) (new : Core) → Step old (Window die rounds (Err refused)) new → new ≡ old
refused_keeps rounds old die Busy new step = step.does.1
refused_keeps rounds old die HasOne new step = step.does.2
refused_keeps rounds old die NoMemory new step = step.does.2

none_given : (rounds : ℕ) (old : Core) (die : ℕ) (given : Bool) (new : Core) → GivesWindow rounds old die given new → given ≡ false → new ≡ old
none_given rounds old die given new (Given first step is) none = let other : true ≡ false = sym is ∙ none in cc
none_given rounds old die given new (Refused refused step is) none = refused_keeps rounds old die refused new step
none_given rounds old die given new (Wants wants same is) none = same
none_given rounds old die given new (NoWindow may same is) none = same

pub loop-die-init : goal.loop-die-init
loop-die-init g c = record { gives = NoDie; same = refl; nothing = λ _. refl; account = rest_same _ _ }

pub loop-die-preserved : goal.loop-die-preserved
loop-die-preserved g c = record {
  gives = OneMore _ _ _ c.give_window.result c.loop-die.invariant.gives c.give_window.ensures.gives;
  same = c.give_window.ensures.geometry ∙ c.loop-die.invariant.same;
  nothing = λ none. elim c.if-give_window.branch [
    | then-give_window w ↦ let other : true ≡ false = sym w.given-is ∙ none in cc
    | else-give_window w ↦ none_given _ _ _ _ _ c.give_window.ensures.gives w.if-give_window.false ∙ c.loop-die.invariant.nothing (sym w.given-is ∙ none)
  ];
  account = join_rest c.loop-die.invariant.account c.give_window.ensures.account;
}
