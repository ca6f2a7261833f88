-- What `serve` prints.
use Rattle.std.specs.Prelude.{◌⊎◌, ℕ, List, [], ◌∷◌, ◌++◌, codes, Option}
use Rattle.fa_mount_headers.specs.declared.fault.MountFault.{MountFault}
use Rattle.fa_prog_images.specs.Array.{mount_line}
use Rattle.fa_prog_host.specs.Printing.{Prints, TellsNoMemory}
use Rattle.fa_prog_listen.specs.Address.{address_line}
use Rattle.fa_prog_array.specs.Ending.{TellsEnd}
use Rattle.fa_prog_host.specs.SettingsRefused.{RefusesSettings}

-- Where clients can connect is printed.
abbrev pub Listens : Option (List ℕ) → Option (List ℕ) → Type 0
Listens old new = (address : List ℕ) × (status : ℕ) × Prints (address_line address) 0 old new status

-- Clients were served: first the address is printed, and at the end what there is to tell then, with its status.
pub record Serves (old new : Option (List ℕ)) (status : ℕ) : Type 0 where
  pub between : Option (List ℕ)
  pub listens : Listens old between
  pub ends : TellsEnd between new status

-- What is printed of an array whose settings were read: that nobody can connect; or the line of the fault for which its images are not
-- mounted; or what is printed of an array that was served. Or memory was refused.
abbrev pub TellsOn : Option (List ℕ) → Option (List ℕ) → ℕ → Type 0
TellsOn old new status =
    Prints (codes "listen: failed" ++ 10 ∷ []) 1 old new status
    ⊎ ((fault : MountFault) × Prints (mount_line fault) 1 old new status)
    ⊎ Serves old new status
    ⊎ TellsNoMemory old new status

-- What `serve` prints, whose settings are held in memory of a kind: why there are no settings, or what is printed of their array.
abbrev pub TellsServe : Type 0 → Option (List ℕ) → Option (List ℕ) → ℕ → Type 0
TellsServe A old new status = RefusesSettings A old new status ⊎ TellsOn old new status
