-- A fault of a document is a fault of the text that it is the document of.
use Rattle.std.proofs.Common.{ℕ, List, [], ◌∷◌, inl, inr}
use Rattle.toml.specs.Data.{Members}
use Rattle.fa_settings.specs.Keys.{keys}
use Rattle.fa_settings.specs.Faults.{IsFirstFault}
use Rattle.fa_settings.specs.Settings.{IsDocument, IsFaultOf, IsFault}
use Rattle.fa_settings.specs.declared.key.Key.{Key}
use Rattle.fa_settings.specs.declared.fault.SettingsFault.{SettingsFault}
use Rattle.fa_settings.specs.declared.fault.SettingsFault.TheVariants.{NotToml, Missing, WrongType, Unknown, OutsideLimits, Geometry, NoMemory}

-- no key makes a text no TOML
never : (A : Type 0) (document : Members) (rest : List Key) → IsFirstFault {A = A} document rest NotToml → ⊥
never A document [] first = first
never A document (key ∷ rest) (inl at) = at
never A document (key ∷ rest) (inr later) = never A document rest later.1

pub of_text : (A : Type 0) (text : List ℕ) (document : Members) (fault : SettingsFault A) → IsDocument text document → IsFaultOf document fault → IsFault text fault
of_text A text document NotToml is of = absurd (never A document keys of.1)
of_text A text document (Missing key) is of = (document, is, of)
of_text A text document (WrongType key) is of = (document, is, of)
of_text A text document (Unknown name) is of = (document, is, of)
of_text A text document (OutsideLimits key) is of = (document, is, of)
of_text A text document (Geometry fault) is of = (document, is, of)
of_text A text document NoMemory is of = tt
