-- The windows that the collector gives.
use Rattle.std.specs.Prelude.{◌≡◌, ℕ, ◌+◌, ◌≤◌, Bool, true, false, Ok, Err}
use Rattle.fa_machine.specs.Looks.{wants_window}
use Rattle.fa_machine.specs.State.{Core}
use Rattle.fa_machine.specs.Step.{Step, Window}
use Rattle.fa_machine.specs.declared.refusals.WindowRefused.{WindowRefused}
use Rattle.fa_types.specs.declared.numbers.Round.{Round}

-- A die that wants a window is asked for one, and given says whether it has it.
pub data GivesWindow (rounds : ℕ) (old : Core) (die : ℕ) (given : Bool) (new : Core) : Type 0 where
  Given : (first : Round) → Step old (Window die rounds (Ok first)) new → given ≡ true → GivesWindow rounds old die given new
  Refused : (refused : WindowRefused) → Step old (Window die rounds (Err refused)) new → given ≡ false
      → GivesWindow rounds old die given new
  Wants : wants_window old.page_map die ≡ false → new ≡ old → given ≡ false → GivesWindow rounds old die given new
  NoWindow : ((1 ≤ rounds) × (rounds ≤ 64) → ⊥) → new ≡ old → given ≡ false → GivesWindow rounds old die given new

-- each die below a number, one after the other
pub data GivesWindows (rounds : ℕ) (old : Core) : ℕ → Core → Type 0 where
  NoDie : GivesWindows rounds old 0 old
  OneMore : (dies : ℕ) (between new : Core) (given : Bool) → GivesWindows rounds old dies between
      → GivesWindow rounds between dies given new → GivesWindows rounds old (dies + 1) new
