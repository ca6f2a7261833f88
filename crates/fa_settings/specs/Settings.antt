-- The settings that a text stands for, or the first thing wrong with it.
use Rattle.std.specs.Prelude.{◌≡◌, ℕ, pos, List, [], Option, Some, None, map, string_bytes, Ok}
use Rattle.std.specs.List.{AllByRecursion}
use Rattle.std.specs.Str.{IsUtf8}
use Rattle.hex.specs.Hex.{decode_of}
use Rattle.toml.specs.Data.{Data, string, integer, Members}
use Rattle.toml.specs.Parse.{parse_document}
use Rattle.fa_types.specs.Geometry.{IsGeometry, AreCopies, IsFirstFault as IsGeometryFault}
use Rattle.fa_types.specs.declared.geometry.GeometryFault.{GeometryFault}
use Rattle.fa_types.specs.declared.geometry.GeometryFault.TheVariants as geometry
use Rattle.fa_settings.specs.Keys.{keys}
use Rattle.fa_settings.specs.Meanings.{as_texts, IsAddressText}
use Rattle.fa_settings.specs.Faults.{held, IsFine, IsFirstFault, AllKnown, IsFirstUnknown}
use Rattle.fa_settings.specs.declared.key.Key.{Key}
use Rattle.fa_settings.specs.declared.key.Key.TheVariants.{Array, Images, Dies, Spares, Blocks, Slots, PageBytes, Pages}
use Rattle.fa_settings.specs.declared.key.Key.TheVariants.{WindowRounds, Listen, Export, Sessions, Copies}
use Rattle.fa_settings.specs.declared.settings.Settings.{Settings}
use Rattle.fa_settings.specs.declared.fault.SettingsFault.{SettingsFault}
use Rattle.fa_settings.specs.declared.fault.SettingsFault.TheVariants.{NotToml, Unknown, Geometry, NoMemory}

-- the text is this TOML document
abbrev pub IsDocument : List ℕ → Members → Type 0
IsDocument text document = IsUtf8 text × (parse_document text ≡ Some document)

-- the number, the text and the texts that a key has; of use where it is fine
abbrev pub number_in : Option Data → ℕ
number_in (Some (integer (pos n))) = n
number_in _ = 0

abbrev pub number_at : Members → Key → ℕ
number_at document key = number_in (held document key)

abbrev pub text_in : Option Data → List ℕ
text_in (Some (string text)) = text
text_in _ = []

abbrev pub text_at : Members → Key → List ℕ
text_at document key = text_in (held document key)

abbrev pub texts_in : Option Data → Option (List (List ℕ))
texts_in None = None
texts_in (Some value) = as_texts value

-- two copies where the key is missing
abbrev pub copies_in : Option Data → ℕ
copies_in None = 2
copies_in (Some value) = number_in (Some value)

abbrev pub copies_at : Members → ℕ
copies_at document = copies_in (held document Copies)

-- each key is as it should be, and there is no other
pub record AllFine (document : Members) : Type 0 where
  pub known : AllKnown document
  pub fine : AllByRecursion (IsFine document) keys

-- the numbers do not go together: not as a geometry, or the copies not with it
abbrev pub IsUnfit : Members → GeometryFault → Type 0
IsUnfit document geometry.Copies =
    IsGeometry (number_at document Dies) (number_at document Spares) (number_at document Blocks) (number_at document Slots)
    (number_at document PageBytes) (number_at document Pages)
    × (¬ (AreCopies (copies_at document) (number_at document Dies) (number_at document Spares) (number_at document Blocks)
    (number_at document Slots) (number_at document Pages)))
IsUnfit document fault =
    IsGeometryFault (number_at document Dies) (number_at document Spares) (number_at document Blocks) (number_at document Slots)
    (number_at document PageBytes) (number_at document Pages) fault

-- what is wrong with a document: an unknown key, else the first fault along the keys, else the numbers together
abbrev pub IsFaultOf : {A : Type 0} → Members → SettingsFault A → Type 0
IsFaultOf document (Unknown name) = IsFirstUnknown document (string_bytes name)
IsFaultOf document (Geometry fault) = AllFine document × IsUnfit document fault
IsFaultOf document fault = AllKnown document × IsFirstFault document keys fault

-- why a text is refused; where memory was refused, nothing is said of it
abbrev pub IsFault : {A : Type 0} → List ℕ → SettingsFault A → Type 0
IsFault text NotToml = (document : Members) → ¬ (IsDocument text document)
IsFault text NoMemory = Unit {0}
IsFault text fault = (document : Members) × IsDocument text document × IsFaultOf document fault

-- the settings that a document stands for
pub record AreSettings {A : Type 0} (document : Members) (settings : Settings A) : Type 0 where
  pub all_fine : AllFine document
  pub array : decode_of (text_at document Array) ≡ Ok settings.array
  pub images : texts_in (held document Images) ≡ Some (map string_bytes settings.images.items)
  pub dies : settings.geometry.dies ≡ number_at document Dies
  pub spares : settings.geometry.spares ≡ number_at document Spares
  pub blocks : settings.geometry.blocks ≡ number_at document Blocks
  pub slots : settings.geometry.slots ≡ number_at document Slots
  pub page_bytes : settings.geometry.page_bytes ≡ number_at document PageBytes
  pub pages : settings.geometry.pages ≡ number_at document Pages
  pub window_rounds : settings.window_rounds ≡ number_at document WindowRounds
  pub listen : IsAddressText (text_at document Listen) settings.listen
  pub export : string_bytes settings.export ≡ text_at document Export
  pub sessions : settings.sessions ≡ number_at document Sessions
  pub copies : settings.copies.number ≡ copies_at document
  pub fit : AreCopies settings.copies.number settings.geometry.dies settings.geometry.spares settings.geometry.blocks
      settings.geometry.slots settings.geometry.pages

-- the settings that a text stands for
abbrev pub IsSettingsText : {A : Type 0} → List ℕ → Settings A → Type 0
IsSettingsText text settings = (document : Members) × IsDocument text document × AreSettings document settings
