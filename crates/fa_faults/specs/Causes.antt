-- Why a die went out, and the number of that.
use Rattle.std.specs.Prelude.{ℕ, Bool, ◌&&◌, not, if◌then◌else◌, Option, Some, None}
use Rattle.fa_core_outcome.specs.declared.outcome.Outcome.{Outcome}
use Rattle.fa_core_outcome.specs.declared.outcome.Outcome.TheVariants.{Fault as WasFault}
use Rattle.fa_image.specs.Image.{fault_number}
use Rattle.fa_faults.specs.declared.faults.Cause.{Cause}
use Rattle.fa_faults.specs.declared.faults.Cause.TheVariants.{Image, Wrong}
use Rattle.fa_faults.specs.declared.faults.Fault.{Fault}
use Rattle.fa_types.specs.declared.numbers.Die.{Die}
use Rattle.fa_types.specs.declared.numbers.Round.{Round}

abbrev pub cause_number : Cause → ℕ
cause_number (Image fault) = fault_number fault
cause_number Wrong = 7

-- why a die went out whose job ended so
abbrev pub cause_of : Outcome → Cause
cause_of (WasFault fault) = Image fault
cause_of outcome = Wrong

-- what is noted of a die whose job ended so: it was live and is out
abbrev pub fault_of : Bool → Bool → Die → Outcome → Round → Option Fault
fault_of was_live is_live die outcome round =
    if was_live && not is_live then Some (record { die = die; cause = cause_of outcome; round = round }) else None
