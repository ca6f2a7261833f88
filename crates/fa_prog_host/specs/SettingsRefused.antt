-- What is printed where there are no settings.
use Rattle.std.specs.Prelude.{◌⊎◌, ℕ, List, [], ◌∷◌, ◌++◌, codes, Option}
use Rattle.std.specs.declared.io.ErrorKind.{ErrorKind}
use Rattle.std.specs.declared.io.ErrorKind.TheVariants.{OutOfMemory}
use Rattle.fa_settings.specs.FaultLines.{fault_line}
use Rattle.fa_settings.specs.Settings.{IsFault}
use Rattle.fa_settings.specs.declared.fault.SettingsFault.{SettingsFault}
use Rattle.fa_settings.specs.declared.fault.SettingsFault.TheVariants.{NoMemory as NoMemoryFault}
use Rattle.fa_prog_host.specs.Printing.{Prints}
use Rattle.fa_prog_host.specs.declared.settings_file.NoSettings.{NoSettings}
use Rattle.fa_prog_host.specs.declared.settings_file.NoSettings.TheVariants.{Unread, Faulty, NoMemory}

-- a fault that the text has; that memory was refused is none
abbrev pub HasFault : {A : Type 0} → List ℕ → SettingsFault A → Type 0
HasFault text NoMemoryFault = ⊥
HasFault text fault = IsFault text fault

-- why there are no settings, where their file was not read
abbrev pub no_settings_of : {A : Type 0} → ErrorKind → NoSettings A
no_settings_of OutOfMemory = NoMemory
no_settings_of kind = Unread

-- there are none: their file is not read, or their text has this fault, or memory was refused
abbrev pub IsNoSettings : {A : Type 0} → NoSettings A → Type 0
IsNoSettings Unread = Unit {0}
IsNoSettings (Faulty fault) = (text : List ℕ) × HasFault text fault
IsNoSettings NoMemory = Unit {0}

-- What is printed where there are no settings: that their file cannot be read, or the line of a fault that a text has,
-- with status 2.
abbrev pub RefusesSettings : Type 0 → Option (List ℕ) → Option (List ℕ) → ℕ → Type 0
RefusesSettings A old new status =
    Prints (codes "settings: cannot read" ++ 10 ∷ []) 2 old new status
    ⊎ ((text : List ℕ) × (fault : SettingsFault A) × HasFault text fault × Prints (fault_line fault ++ 10 ∷ []) 2 old new status)
