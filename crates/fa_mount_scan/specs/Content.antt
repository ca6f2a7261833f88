-- What images stand for once their slots were read: the mounted content of an array.
use Rattle.std.specs.Prelude.{◌≡◌, ℕ, ◌*◌, ◌<◌, ◌≤◌, ◌⊎◌, ◌==◌, ◌&&◌, nat_lt, if◌then◌else◌, List, length}
use Rattle.std.specs.Prelude.{Option, Some, None, is_some, option_and_then, slice_get, slice_index_or}
use Rattle.std.specs.FinMap.{get}
use Rattle.fa_types.specs.declared.geometry.Geometry.{Geometry}
use Rattle.fa_types.specs.declared.numbers.Page.{Page}
use Rattle.fa_tag.specs.declared.tag.Opened.{Opened}
use Rattle.fa_tag.specs.declared.tag.Opened.TheVariants.{Erased as ErasedBytes, Good, Bad}
use Rattle.fa_machine.specs.declared.places.Used.{Used}
use Rattle.fa_machine.specs.declared.places.Used.TheVariants.{Held, Stale as StaleSlot}
use Rattle.fa_machine.specs.declared.places.Version.{Version}
use Rattle.fa_machine.specs.State.{MapState, is_live, used_at}
use Rattle.fa_mount_scan.specs.declared.slots.content.SlotContent.{SlotContent}
use Rattle.fa_mount_scan.specs.declared.slots.content.SlotContent.TheVariants.{Erased, Copy, Stale}

-- What the bytes of a slot are to an array of so many pages: a copy of a page where their tag is good, names this die
-- and this slot, and a page of the array.
abbrev pub content_of : ℕ → ℕ → ℕ → Opened → SlotContent
content_of pages die slot ErasedBytes = Erased
content_of pages die slot (Good tag) =
    if nat_lt tag.page.0 pages && tag.die.0 == die && tag.slot.0 == slot
    then Copy tag.page (record { seq = tag.seq; kind = tag.kind }) else Stale
content_of pages die slot Bad = Stale

-- What was found in the slots of each die in use, from die 0 on and in the order of the slots. Nothing is known of a
-- die without an image, of one that is not in use, and of one whose image refused a read.
abbrev pub Contents : Type 0
Contents = List (Option (List SlotContent))

abbrev pub slots_on : Contents → ℕ → Option (List SlotContent)
slots_on contents die = slice_index_or contents die None

abbrev pub found_at : Contents → ℕ → ℕ → Option SlotContent
found_at contents die slot = option_and_then (λ slots. slice_get slots slot) (slots_on contents die)

-- what was found names no pages but those below a number
abbrev pub NamePages : Contents → ℕ → Type 0
NamePages contents pages =
    (die slot : ℕ) (page : Page) (version : Version) → found_at contents die slot ≡ Some (Copy page version) → page.0 < pages

-- such contents of an array: of each die that was read all slots, and in them pages of the array
pub record AreContents (geometry : Geometry) (contents : Contents) : Type 0 where
  pub dies : length contents ≡ geometry.dies
  pub slots : (die : ℕ) (slots : List SlotContent) → slots_on contents die ≡ Some slots
      → length slots ≡ geometry.blocks * geometry.slots
  pub pages : NamePages contents geometry.pages

-- a slot of a die has a copy of this write of the page
abbrev pub HasCopy : Contents → Page → Version → ℕ → ℕ → Type 0
HasCopy contents page version die slot = found_at contents die slot ≡ Some (Copy page version)

-- a place comes before another: on a lower die, or in a lower slot of the same one
abbrev pub IsBefore : ℕ → ℕ → ℕ → ℕ → Type 0
IsBefore d s die slot = (d < die) ⊎ ((d ≡ die) × (s < slot))

-- The last write of a page, of such copies of it: none has a greater number, and where those with this number are of two
-- kinds, its kind is that of the lowest slot on the lowest die.
pub record IsLastWrite (IsCopy : Version → ℕ → ℕ → Type 0) (version : Version) : Type 0 where
  pub die : ℕ
  pub slot : ℕ
  pub copied : IsCopy version die slot
  pub greatest : (v : Version) (d s : ℕ) → IsCopy v d s → v.seq.0 ≤ version.seq.0
  pub lowest : (v : Version) (d s : ℕ) → IsCopy v d s → v.seq.0 ≡ version.seq.0 → ¬ (IsBefore d s die slot)

-- a page with no such copy was never written
abbrev pub IsLastOf : (Version → ℕ → ℕ → Type 0) → Option Version → Type 0
IsLastOf IsCopy None = (version : Version) (die slot : ℕ) → ¬ (IsCopy version die slot)
IsLastOf IsCopy (Some version) = IsLastWrite IsCopy version

-- a slot is the lowest of its die that has a copy of this write, and the write is the page's last
pub record IsHolder (slots : List SlotContent) (last : Option Version) (page : Page) (version : Version) (slot : ℕ) : Type 0 where
  pub is_last : last ≡ Some version
  pub lowest : (s : ℕ) → s < slot → ¬ (slice_get slots s ≡ Some (Copy page version))

-- The state of a slot in which this was found, on a die with these slots. Of the copies of a page's last write a die holds
-- the lowest. Whatever else is not erased is stale.
abbrev pub IsStateOf : List SlotContent → (ℕ → Option Version) → ℕ → SlotContent → Option Used → Type 0
IsStateOf slots last slot Erased used = used ≡ None
IsStateOf slots last slot Stale used = used ≡ Some StaleSlot
IsStateOf slots last slot (Copy page version) used =
    ((used ≡ Some (Held page version)) × IsHolder slots (last page.0) page version slot)
    ⊎ ((used ≡ Some StaleSlot) × (¬ (IsHolder slots (last page.0) page version slot)))

-- The mounted content: the map of what was found. The dies that were read are live, each page has its last write, and
-- each slot its state.
pub record IsMountedContent (geometry : Geometry) (contents : Contents) (m : MapState) : Type 0 where
  pub shape : m.geometry ≡ geometry
  pub live : (die : ℕ) → is_live m die ≡ is_some (slots_on contents die)
  pub numbers : (page : Page) → IsLastOf (HasCopy contents page) (get m.versions page.0)
  pub used : (die slot : ℕ) (slots : List SlotContent) (content : SlotContent) → slots_on contents die ≡ Some slots
      → slice_get slots slot ≡ Some content → IsStateOf slots (get m.versions) slot content (used_at m die slot)
  pub others : (die slot : ℕ) → found_at contents die slot ≡ None → used_at m die slot ≡ None
