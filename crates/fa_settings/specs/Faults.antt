-- What a document has at a key, and what can be wrong with it.
use Rattle.std.specs.Prelude.{◌≡◌, ◌≢◌, ℕ, ◌⊎◌, true, false, List, [], ◌∷◌, Option, Some, None, MatchOption, Contains}
use Rattle.std.specs.List.{AllByRecursion}
use Rattle.std.specs.Ordering.{nat_cmp}
use Rattle.std.specs.Cmp.Lexicographic.{slice_cmp}
use Rattle.std.specs.declared.cmp.Ordering.TheVariants.{Less}
use Rattle.toml.specs.Data.{Data, Members, no_members, member, get_member}
use Rattle.fa_settings.specs.Keys.{name_of, is_required, is_known}
use Rattle.fa_settings.specs.Meanings.{meaning, has_type, IsWithin}
use Rattle.fa_settings.specs.declared.key.Key.{Key}
use Rattle.fa_settings.specs.declared.fault.SettingsFault.{SettingsFault}
use Rattle.fa_settings.specs.declared.fault.SettingsFault.TheVariants.{Missing, WrongType, OutsideLimits, NoMemory}

-- what a document has at a key
abbrev pub held : Members → Key → Option Data
held document key = get_member (name_of key) document

-- the key is as it should be
abbrev pub IsFine : Members → Key → Type 0
IsFine document key = MatchOption (held document key) (is_required key ≡ false) (IsWithin (meaning key))

-- the three things that can be wrong with it
abbrev pub IsMissing : Members → Key → Type 0
IsMissing document key = (held document key ≡ None) × (is_required key ≡ true)

abbrev pub HasWrongType : Members → Key → Type 0
HasWrongType document key = (value : Data) × (held document key ≡ Some value) × (has_type (meaning key) value ≡ false)

abbrev pub IsOutside : Members → Key → Type 0
IsOutside document key =
    (value : Data) × (held document key ≡ Some value) × (has_type (meaning key) value ≡ true) × (¬ (IsWithin (meaning key) value))

-- a fault of the key; that memory was refused says nothing of it
abbrev pub IsFaultAt : {A : Type 0} → Members → Key → SettingsFault A → Type 0
IsFaultAt document key (Missing named) = (named ≡ key) × IsMissing document key
IsFaultAt document key (WrongType named) = (named ≡ key) × HasWrongType document key
IsFaultAt document key (OutsideLimits named) = (named ≡ key) × IsOutside document key
IsFaultAt document key NoMemory = Unit {0}
IsFaultAt document key _ = ⊥

-- the first fault along these keys: at the first of them, or this one is fine and it is the first along the rest
abbrev pub IsFirstFault : {A : Type 0} → Members → List Key → SettingsFault A → Type 0
IsFirstFault document [] fault = ⊥
IsFirstFault document (key ∷ rest) fault =
    IsFaultAt document key fault ⊎ (IsFine document key × IsFirstFault document rest fault)

-- the names in a document
abbrev pub names_of : Members → List (List ℕ)
names_of no_members = []
names_of (member name value rest) = name ∷ names_of rest

-- each name is that of a key
abbrev pub AllKnown : Members → Type 0
AllKnown document = AllByRecursion (λ name. is_known name ≡ true) (names_of document)

-- of the names that are those of no key, the first by its bytes
pub record IsFirstUnknown (document : Members) (name : List ℕ) : Type 0 where
  pub there : Contains (names_of document) name
  pub unknown : is_known name ≡ false
  pub first : AllByRecursion (λ other. is_known other ≡ false → slice_cmp nat_cmp other name ≢ Less) (names_of document)
