-- The line of a fault of the settings on standard output.
use Rattle.std.specs.Prelude.{ℕ, List, ◌++◌, codes, string_bytes}
use Rattle.std.specs.Fmt.{decimal}
use Rattle.fa_types.specs.Geometry.{geometry_fault_number}
use Rattle.fa_settings.specs.Keys.{name_of}
use Rattle.fa_settings.specs.declared.fault.SettingsFault.{SettingsFault}
use Rattle.fa_settings.specs.declared.fault.SettingsFault.TheVariants.{NotToml, Missing, WrongType, Unknown, OutsideLimits}
use Rattle.fa_settings.specs.declared.fault.SettingsFault.TheVariants.{Geometry, NoMemory}

-- the fault's number, and the key or the number of the geometry's fault that it names
abbrev pub fault_line : {A : Type 0} → SettingsFault A → List ℕ
fault_line NotToml = codes "settings: 1"
fault_line (Missing key) = codes "settings: 2 " ++ name_of key
fault_line (WrongType key) = codes "settings: 3 " ++ name_of key
fault_line (Unknown name) = codes "settings: 4 " ++ string_bytes name
fault_line (OutsideLimits key) = codes "settings: 5 " ++ name_of key
fault_line (Geometry fault) = codes "settings: 6 " ++ decimal (geometry_fault_number fault)
fault_line NoMemory = codes "settings: 7"
