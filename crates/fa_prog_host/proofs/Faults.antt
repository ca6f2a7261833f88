-- Which faults of the settings are told.
use Rattle.std.proofs.Common.{◌≡◌, ℕ, List, refl}
use Rattle.fa_settings.specs.Settings.{IsFault}
use Rattle.fa_settings.specs.declared.fault.SettingsFault.{SettingsFault}
use Rattle.fa_settings.specs.declared.fault.SettingsFault.TheVariants as fault
use Rattle.fa_prog_host.specs.SettingsRefused.{HasFault}

-- a fault of the settings that is not that memory was refused
pub has_fault : {A : Type 0} (text : List ℕ) (f : SettingsFault A) → IsFault text f → (f ≡ fault.NoMemory → ⊥) → HasFault text f
has_fault text fault.NotToml is other = is
has_fault text (fault.Missing key) is other = is
has_fault text (fault.WrongType key) is other = is
has_fault text (fault.Unknown name) is other = is
has_fault text (fault.OutsideLimits key) is other = is
has_fault text (fault.Geometry f) is other = is
has_fault text fault.NoMemory is other = other refl
