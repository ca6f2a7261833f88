-- What has settings has no fault.
use Rattle.std.proofs.Common.{◌≡◌, ℕ, true, false, List, [], ◌∷◌, Option, Some, None, is_some, MatchOption, string_bytes, refl, sym, ap, ◌∙◌, subst, inl, inr}
use Rattle.std.proofs.lemmas.List.Elements.{All-contains, All-from_recursion}
use Rattle.std.specs.List.{AllByRecursion}
use Rattle.toml.specs.Data.{Data, Members}
use Rattle.fa_types.specs.declared.geometry.GeometryFault.{GeometryFault}
use Rattle.fa_types.specs.declared.geometry.GeometryFault.TheVariants as geometry
use Rattle.fa_settings.specs.Keys.{keys, is_known, is_required}
use Rattle.fa_settings.specs.Meanings.{Meaning, Identity, Paths, Number, PageSize, Address, Name, meaning, has_type, IsWithin}
use Rattle.fa_settings.specs.Faults.{held, IsFine, IsFaultAt, IsFirstFault, IsFirstUnknown, AllKnown, names_of}
use Rattle.fa_settings.specs.Settings.{IsDocument, IsFaultOf, IsFault, IsUnfit, AreSettings, IsSettingsText}
use Rattle.fa_settings.specs.declared.key.Key.{Key}
use Rattle.fa_settings.specs.declared.settings.Settings.{Settings}
use Rattle.fa_settings.specs.declared.fault.SettingsFault.{SettingsFault}
use Rattle.fa_settings.specs.declared.fault.SettingsFault.TheVariants.{NotToml, Missing, WrongType, Unknown, OutsideLimits, Geometry, NoMemory}

-- what is within the limits has the type
typed : (m : Meaning) (value : Data) → IsWithin m value → has_type m value ≡ true
typed Identity value within = ap is_some within.1
typed Paths value within = ap is_some within.1
typed (Number least most) value within = ap is_some within.1
typed PageSize value within = ap is_some within.1
typed Address value within = ap is_some within.1
typed Name value within = ap is_some within.1

-- what a fine key says of what it has
fine_is : (document : Members) (key : Key) (there : Option Data) → held document key ≡ there → IsFine document key → MatchOption there (is_required key ≡ false) (IsWithin (meaning key))
fine_is document key there is fine = subst (λ (h : Option Data). MatchOption h (is_required key ≡ false) (IsWithin (meaning key))) is fine

fine_at : (A : Type 0) (document : Members) (key : Key) (fault : SettingsFault A) → IsFine document key → IsFaultAt document key fault → fault ≡ NoMemory
fine_at A document key NotToml fine at = absurd at
fine_at A document key (Missing named) fine at =
    let free = fine_is document key None at.1.0 fine in
    let both : false ≡ true = sym free ∙ at.1.1 in
    absurd (cc)
fine_at A document key (WrongType named) fine at =
    let both : false ≡ true = sym at.1.2 ∙ typed (meaning key) at.1.0 (fine_is document key (Some at.1.0) at.1.1 fine) in
    absurd (cc)
fine_at A document key (Unknown name) fine at = absurd at
fine_at A document key (OutsideLimits named) fine at = absurd (at.1.3 (fine_is document key (Some at.1.0) at.1.1 fine))
fine_at A document key (Geometry fault) fine at = absurd at
fine_at A document key NoMemory fine at = refl

all_fine : (A : Type 0) (document : Members) (rest : List Key) (fault : SettingsFault A) → AllByRecursion (IsFine document) rest → IsFirstFault document rest fault → fault ≡ NoMemory
all_fine A document [] fault fine first = absurd first
all_fine A document (key ∷ rest) fault fine (inl at) = fine_at A document key fault fine.0 at
all_fine A document (key ∷ rest) fault fine (inr later) = all_fine A document rest fault fine.1 later.1

all_known : (document : Members) (name : List ℕ) → AllKnown document → IsFirstUnknown document name → ⊥
all_known document name known unknown =
    let passes : is_known name ≡ true = All-contains (λ other. is_known other ≡ true) (names_of document) name (All-from_recursion _ _ known) unknown.there in
    let both : false ≡ true = sym unknown.unknown ∙ passes in
    cc

fits : (A : Type 0) (document : Members) (settings : Settings A) (fault : GeometryFault) → AreSettings document settings → IsUnfit document fault → ⊥
fits A document settings geometry.Dies are unfit = unfit (rw (← are.dies, ← are.spares) settings.geometry.within.dies_fit)
fits A document settings geometry.Blocks are unfit = unfit.1 (rw (← are.blocks) settings.geometry.within.blocks_fit)
fits A document settings geometry.Slots are unfit = unfit.2 (rw (← are.slots) settings.geometry.within.slots_fit)
fits A document settings geometry.PageBytes are unfit = unfit.3 (rw (← are.page_bytes) settings.geometry.within.page_fits)
fits A document settings geometry.Pages are unfit =
    unfit.4 (rw (← are.dies, ← are.spares, ← are.blocks, ← are.slots, ← are.pages) settings.geometry.within.pages_fit)
fits A document settings geometry.Copies are unfit =
    unfit.1 (rw (← are.copies, ← are.dies, ← are.spares, ← are.blocks, ← are.slots, ← are.pages) are.fit)

of_document : (A : Type 0) (document : Members) (settings : Settings A) (fault : SettingsFault A) → AreSettings document settings → IsFaultOf document fault → fault ≡ NoMemory
of_document A document settings (Unknown name) are of = absurd (all_known document (string_bytes name) are.all_fine.known of)
of_document A document settings (Geometry fault) are of = absurd (fits A document settings fault are of.1)
of_document A document settings NotToml are of = all_fine A document keys NotToml are.all_fine.fine of.1
of_document A document settings (Missing key) are of = all_fine A document keys (Missing key) are.all_fine.fine of.1
of_document A document settings (WrongType key) are of = all_fine A document keys (WrongType key) are.all_fine.fine of.1
of_document A document settings (OutsideLimits key) are of = all_fine A document keys (OutsideLimits key) are.all_fine.fine of.1
of_document A document settings NoMemory are of = refl

-- a text is one document
one : (text : List ℕ) (first second : Members) → IsDocument text first → IsDocument text second → first ≡ second
one text first second a b =
    let both : Some first ≡ Some second = sym a.1 ∙ b.1 in
    cc

found : (A : Type 0) (text : List ℕ) (settings : Settings A) (fault : SettingsFault A) (says : IsSettingsText text settings) → (document : Members) × IsDocument text document × IsFaultOf document fault → fault ≡ NoMemory
found A text settings fault says of =
    of_document A of.0 settings fault (subst (λ (d : Members). AreSettings d settings) (one text says.0 of.0 says.1 of.1) says.2) of.2

pub verdict : (A : Type 0) (text : List ℕ) (settings : Settings A) (fault : SettingsFault A) → IsSettingsText text settings → IsFault text fault → fault ≡ NoMemory
verdict A text settings NotToml says of = absurd (of says.0 says.1)
verdict A text settings (Missing key) says of = found A text settings (Missing key) says of
verdict A text settings (WrongType key) says of = found A text settings (WrongType key) says of
verdict A text settings (Unknown name) says of = found A text settings (Unknown name) says of
verdict A text settings (OutsideLimits key) says of = found A text settings (OutsideLimits key) says of
verdict A text settings (Geometry fault) says of = found A text settings (Geometry fault) says of
verdict A text settings NoMemory says of = refl
