-- How an array is closed as its use ends, and what is printed then, of a server and else.
use Rattle.std.specs.Prelude.{◌≡◌, ◌⊎◌, ℕ, List, [], ◌∷◌, ◌++◌, codes, length, Option, Result, Ok, Err}
use Rattle.std.specs.Fmt.{decimal}
use Rattle.std.specs.List.{flat_map}
use Rattle.fa_image.specs.Image.{ImageAnswer, ImageCall}
use Rattle.fa_machine.specs.State.{Core, is_live}
use Rattle.fa_mount.specs.Closing.{Closes, close_fault_number}
use Rattle.fa_mount.specs.Standings.{AreApart, HaveImages}
use Rattle.fa_mount_headers.specs.declared.judging.Standing.{Standing}
use Rattle.fa_mount.specs.declared.closing.CloseFault.TheVariants.{Busy}
use Rattle.fa_mount.specs.declared.closing.CloseFault.{CloseFault}
use Rattle.fa_faults.specs.Causes.{cause_number}
use Rattle.fa_faults.specs.declared.faults.Fault.{Fault}
use Rattle.fa_prog_host.specs.Printing.{Prints, TellsNoMemory}

-- What closing an array over images comes to: where each live die has an image of its own, that of the mounting's, and else no image is
-- called, and the array is said to be busy.
abbrev pub ClosesOver : {I : Type 0} → (I → ImageCall → ImageAnswer → I → Type 0) → Core → List ℕ → List Standing → List I → List I
    → Result ℕ CloseFault → Type 0
ClosesOver made core array dies before after closed =
    (AreApart dies × HaveImages dies (is_live core.page_map) (length before) × Closes made core array dies before after closed)
    ⊎ ((closed ≡ Err Busy) × (after ≡ before))

-- a die that went out
abbrev pub fault_line : Fault → List ℕ
fault_line fault =
    codes "fault die " ++ decimal fault.die.0 ++ codes " cause " ++ decimal (cause_number fault.cause) ++ codes " round "
    ++ decimal fault.round.0 ++ 10 ∷ []

abbrev pub fault_lines : List Fault → List ℕ
fault_lines faults = flat_map fault_line faults

-- how the array was closed, and the status with which that ends
abbrev pub closed_line : Result ℕ CloseFault → List ℕ
closed_line (Ok mask) = codes "closed clean" ++ 10 ∷ []
closed_line (Err fault) = codes "closed unclean: " ++ decimal (close_fault_number fault) ++ 10 ∷ []

abbrev pub closed_status : Result ℕ CloseFault → ℕ
closed_status (Ok mask) = 0
closed_status (Err fault) = 1

-- What a server prints at its end: the faults that were kept, the oldest first, and how the array was closed. Or memory was refused.
abbrev pub TellsEnd : Option (List ℕ) → Option (List ℕ) → ℕ → Type 0
TellsEnd old new status =
    ((faults : List Fault) × (closed : Result ℕ CloseFault)
    × Prints (fault_lines faults ++ closed_line closed) (closed_status closed) old new status)
    ⊎ TellsNoMemory old new status
