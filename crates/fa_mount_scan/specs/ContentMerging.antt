-- How the contents of dies are made one map: first the last write of each page, then die by die what its slots hold.
use Rattle.std.specs.Prelude.{◌≡◌, ◌≢◌, ℕ, ◌<◌, ◌≤◌, Bool, true, nat_lt, if◌then◌else◌, List, Option, Some, None}
use Rattle.std.specs.Prelude.{slice_get, slice_index_or, slice_set}
use Rattle.std.specs.FinMap.{get}
use Rattle.fa_types.specs.declared.numbers.Page.{Page}
use Rattle.fa_machine.specs.declared.places.Used.TheVariants.{Held}
use Rattle.fa_machine.specs.declared.places.Version.{Version}
use Rattle.fa_machine.specs.State.{MapState, is_live, used_at}
use Rattle.fa_mount_scan.specs.declared.slots.content.SlotContent.{SlotContent}
use Rattle.fa_mount_scan.specs.declared.slots.content.SlotContent.TheVariants.{Erased, Copy, Stale}
use Rattle.fa_mount_scan.specs.Content.{Contents, HasCopy, IsBefore, IsLastOf, IsStateOf}

-- the last write of a page, by a list of them
abbrev pub last_in : List (Option Version) → ℕ → Option Version
last_in last page = slice_index_or last page None

-- a copy of the page, at a place before another
abbrev pub HasCopyBefore : Contents → ℕ → ℕ → Page → Version → ℕ → ℕ → Type 0
HasCopyBefore contents die slot page version d s = HasCopy contents page version d s × IsBefore d s die slot

-- the last write of each page, of the copies at places before one
abbrev pub AreLastBefore : Contents → ℕ → ℕ → List (Option Version) → Type 0
AreLastBefore contents die slot last = (page : Page) → IsLastOf (HasCopyBefore contents die slot page) (last_in last page.0)

-- whether a write is newer than the last one so far
abbrev pub is_newer : Version → Option Version → Bool
is_newer version None = true
is_newer version (Some newest) = nat_lt newest.seq.0 version.seq.0

-- the last writes once one more slot was looked at
abbrev pub noted : SlotContent → List (Option Version) → List (Option Version)
noted Erased last = last
noted (Copy page version) last = if is_newer version (last_in last page.0) then slice_set last page.0 (Some version) else last
noted Stale last = last

-- what was found on a die names no pages but those below a number
abbrev pub NamesPages : List SlotContent → ℕ → Type 0
NamesPages slots pages = (slot : ℕ) (page : Page) (version : Version) → slice_get slots slot ≡ Some (Copy page version) → page.0 < pages

-- The slots of a live die before one have the states of what was found in them, and the others are erased.
pub record IsMountedBefore (last : List (Option Version)) (slots : List SlotContent) (die slot : ℕ) (m : MapState) : Type 0 where
  pub live : is_live m die ≡ true
  -- the map has no other number of a page
  pub numbers : (page : ℕ) (version : Version) → get m.versions page ≡ Some version → last_in last page ≡ Some version
  pub states : (s : ℕ) (content : SlotContent) → s < slot → slice_get slots s ≡ Some content
      → IsStateOf slots (last_in last) s content (used_at m die s)
  -- of the last write of a page a copy is held
  pub held : (s : ℕ) (page : Page) (version : Version) → s < slot → slice_get slots s ≡ Some (Copy page version)
      → last_in last page.0 ≡ Some version → (t : ℕ) × (used_at m die t ≡ Some (Held page version))
  pub others : (s : ℕ) → slot ≤ s → used_at m die s ≡ None

-- nothing changed but numbers of pages and slots of this die
pub record ChangesDie (die : ℕ) (m n : MapState) : Type 0 where
  pub shape : n.geometry ≡ m.geometry
  pub live : n.live ≡ m.live
  pub used : (d s : ℕ) → d ≢ die → used_at n d s ≡ used_at m d s
