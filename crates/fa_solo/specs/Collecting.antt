-- What came of giving windows to the dies that want one.
use Rattle.std.specs.Prelude.{◌≡◌, ℕ, Bool, true, false, Result, Ok, Err}
use Rattle.fa_image.specs.Image.{ImageAnswer, ImageCall}
use Rattle.fa_machine.specs.Looks.{wants_window}
use Rattle.fa_machine.specs.State.{Core}
use Rattle.fa_machine.specs.Step.{is_die}
use Rattle.fa_solo.specs.declared.collecting.Windows.{Windows}
use Rattle.fa_solo.specs.declared.collecting.Windows.TheVariants.{Given, Refused, Unwanted}
use Rattle.fa_solo_job.specs.Inner.{Halts, TidiesBy}
use Rattle.fa_solo_job.specs.Orders.{WantsNoWindow}
use Rattle.fa_solo_job.specs.declared.inner.Inner.{Inner}
use Rattle.fa_machine.specs.declared.refusals.WindowRefused.{WindowRefused}
use Rattle.fa_machine.specs.declared.refusals.WindowRefused.TheVariants.{HasOne}
use Rattle.fa_types.specs.declared.numbers.Round.{Round}

-- of two dies: a refusal is told, and else whether one has a window
abbrev pub both_of : Windows → Windows → Windows
both_of Unwanted other = other
both_of Given (Refused refused) = Refused refused
both_of Given other = Given
both_of (Refused refused) other = Refused refused

-- of one die, by what a Window answered
abbrev pub of_window : Result Round WindowRefused → Windows
of_window (Ok first) = Given
of_window (Err HasOne) = Given
of_window (Err refused) = Refused refused

-- Where none wanted one the array is as it was. Where dies have windows one was asked for, and where one was refused that stops the array's
-- order.
module _ {L M I A : Type 0} (made : I → ImageCall → ImageAnswer → I → Type 0) (unwanted : Core → Type 0) where
  abbrev pub Gives : Windows → Inner L M I A → Inner L M I A → Type 0
  Gives Unwanted old new = (new.locked.core ≡ old.locked.core) × unwanted old.locked.core
  Gives Given old new = TidiesBy made 1 old new
  Gives (Refused refused) old new = Halts made old new

-- The die, if it is one of the array, wants none. Where a write waits for room this is not told.
abbrev pub WantsNone : Bool → ℕ → Core → Type 0
WantsNone for_room die core = for_room ≡ false → is_die core die ≡ true → wants_window core.page_map die ≡ false

-- No die does.
abbrev pub WantNone : Bool → Core → Type 0
WantNone for_room core = for_room ≡ false → WantsNoWindow core

module _ {L M I A : Type 0} (made : I → ImageCall → ImageAnswer → I → Type 0) where
  -- The same with the steps of windows, behind which none is wanted.
  abbrev pub Collects : Windows → Inner L M I A → Inner L M I A → Type 0
  Collects Unwanted old new = WantsNoWindow new.locked.core
  Collects Given old new = TidiesBy made 1 old new
  Collects (Refused refused) old new = Halts made old new

  -- The same, where none was wanted before.
  abbrev pub Steps : Windows → Inner L M I A → Inner L M I A → Type 0
  Steps Unwanted old new = WantsNoWindow old.locked.core
  Steps Given old new = TidiesBy made 1 old new
  Steps (Refused refused) old new = Halts made old new
