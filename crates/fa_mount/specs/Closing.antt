-- What closing an array comes to.
use Rattle.std.specs.Prelude.{◌≡◌, ◌⊎◌, ℕ, ◌+◌, ◌<◌, Bool, true, false, not, ◌&&◌, MatchBool, List, [], ◌∷◌, ◌++◌, Option, Some, None}
use Rattle.std.specs.Prelude.{is_some, find}
use Rattle.std.specs.Prelude.{Result, Ok, Err}
use Rattle.std.specs.FinMap.{get}
use Rattle.std.specs.List.{AllByRecursion, count_by, list_any}
use Rattle.fa_mount_headers.specs.declared.judging.Standing.{Standing}
use Rattle.fa_mount_headers.specs.Rules.{is_in}
use Rattle.fa_image.specs.Image.{ImageCall, WritingHeader, Syncing, ImageAnswer, Done, Refused}
use Rattle.fa_image.specs.declared.fault.ImageFault.{ImageFault}
use Rattle.fa_machine.specs.Copies.{holds_page}
use Rattle.fa_machine.specs.Looks.{is_busy}
use Rattle.fa_machine.specs.Maps.{below}
use Rattle.fa_machine.specs.State.{Core, MapState, dies_of, is_live}
use Rattle.fa_mount.specs.Phases.{ByDie}
use Rattle.fa_mount.specs.declared.closing.CloseFault.{CloseFault}
use Rattle.fa_mount.specs.declared.closing.CloseFault.TheVariants.{Busy, Lost, NoDieLive}
use Rattle.fa_tag.specs.HeaderGrammar.{header_bytes}
use Rattle.fa_tag.specs.declared.header.Header.{Header}
use Rattle.fa_types.specs.declared.geometry.Geometry.{Geometry}

-- the faults are numbered in that order
abbrev pub close_fault_number : CloseFault → ℕ
close_fault_number Busy = 1
close_fault_number (Lost page) = 2
close_fault_number NoDieLive = 3

-- a die of the mask holds a current copy of the page
abbrev pub is_held_in : MapState → ℕ → ℕ → Bool
is_held_in m mask page = list_any (λ die. is_in mask die && holds_page m page die) (dies_of m)

-- the page was written, and no die of the mask holds it
abbrev pub is_lost_in : MapState → ℕ → ℕ → Bool
is_lost_in m mask page = is_some (get m.versions page) && not (is_held_in m mask page)

-- the lowest such page
abbrev pub lowest_lost : MapState → ℕ → Option ℕ
lowest_lost m mask = find (is_lost_in m mask) (below m.geometry.pages)

-- how many of so many dies pass
abbrev pub how_many : ℕ → (ℕ → Bool) → ℕ
how_many dies test = count_by test (below dies)

-- the header of a live die of the array with this number, clean or not, where these dies are live in this epoch
abbrev pub header_in : Geometry → List ℕ → ℕ → ℕ → Bool → ℕ → Header
header_in geometry array epoch mask clean die = record {
  die = record { 0 = die };
  geometry = geometry;
  clean = clean;
  spare = false;
  epoch = epoch;
  mask = mask;
  array = array;
}

-- the call that writes it
abbrev pub writing_in : Geometry → List ℕ → ℕ → ℕ → Bool → ℕ → ImageCall
writing_in geometry array epoch mask clean die = WritingHeader (header_bytes 2 (header_in geometry array epoch mask clean die))

-- A call of a die's image before an epoch: a sync, or the write of a clean header of an earlier epoch.
abbrev pub IsEarlier : Geometry → List ℕ → ℕ → ℕ → ImageCall → Type 0
IsEarlier geometry array epoch die call =
    (call ≡ Syncing) ⊎ ((earlier mask : ℕ) × (earlier < epoch) × (call ≡ writing_in geometry array earlier mask true die))

-- The dies that are left are live ones, and the epoch rose by one for each that is not.
pub record AreLeft (core : Core) (epoch mask : ℕ) : Type 0 where
  pub live : (die : ℕ) → is_in mask die ≡ true → is_live core.page_map die ≡ true
  pub rose : let dies = core.page_map.geometry.dies in
      epoch + how_many dies (is_in mask) ≡ core.epoch + how_many dies (is_live core.page_map)

module _ {I : Type 0} (made : I → ImageCall → ImageAnswer → I → Type 0) where
  -- These calls of an image were accepted, one after the other, and it was not called otherwise.
  abbrev pub AreAccepted : List ImageCall → I → I → Type 0
  AreAccepted [] before after = after ≡ before
  AreAccepted (call ∷ calls) before after = (between : I) × made before call Done between × AreAccepted calls between after

  -- calls of this kind alone were made, and were accepted
  abbrev pub Took : (ImageCall → Type 0) → I → I → Type 0
  Took kind before after = (calls : List ImageCall) × AllByRecursion kind calls × AreAccepted calls before after

  -- An image refused a call, and that was its last one.
  pub record IsOut (kind : ImageCall → Type 0) (before after : I) : Type 0 where
    pub start : I
    pub earlier : Took kind before start
    pub call : ImageCall
    pub is_kind : kind call
    pub fault : ImageFault
    pub refused : made start call (Refused fault) after

  -- After what came before an image was synced, told clean, and synced again.
  pub record IsClosed (kind : ImageCall → Type 0) (mark : ImageCall) (before after : I) : Type 0 where
    pub earlier : List ImageCall
    pub are_earlier : AllByRecursion kind earlier
    pub accepted : AreAccepted (earlier ++ Syncing ∷ mark ∷ Syncing ∷ []) before after

  -- An image was only synced, or the last call of it was the write of a header without the mark, however that ended.
  abbrev pub IsUnmarked : (ImageCall → Type 0) → ImageCall → I → I → Type 0
  IsUnmarked kind unmark before after =
      Took (λ call. call ≡ Syncing) before after
      ⊎ ((start : I) × (answer : ImageAnswer) × Took kind before start × made start unmark answer after)

  module _ (core : Core) (array : List ℕ) (dies : List Standing) (before after : List I) where
    -- What has become of the image of a die: it was not called where the die was not live, it refused a call where the die is not
    -- left, and is as is said where the die is left.
    abbrev pub HasBecome : ℕ → ℕ → ((ImageCall → Type 0) → ℕ → I → I → Type 0) → ℕ → I → I → Type 0
    HasBecome epoch mask is_left die x y =
        let kind = IsEarlier core.page_map.geometry array epoch die in
        MatchBool (is_live core.page_map die) (MatchBool (is_in mask die) (is_left kind die x y) (IsOut kind x y)) (y ≡ x)

    -- the same of all images
    abbrev pub HaveBecome : ℕ → ℕ → ((ImageCall → Type 0) → ℕ → I → I → Type 0) → Type 0
    HaveBecome epoch mask is_left = ByDie dies (HasBecome epoch mask is_left) before after

    -- The array was closed: its pages are on the dies that are left, and each of these was told so.
    pub record IsClosedClean (mask : ℕ) : Type 0 where
      pub epoch : ℕ
      pub left : AreLeft core epoch mask
      pub some : 0 < mask
      pub none_lost : lowest_lost core.page_map mask ≡ None
      pub images : HaveBecome epoch mask (λ kind die. IsClosed kind (writing_in core.page_map.geometry array epoch mask true die))

    -- A page is lost, and no mark stands on the dies that are left.
    pub record IsLostAt (page : ℕ) : Type 0 where
      pub epoch : ℕ
      pub mask : ℕ
      pub left : AreLeft core epoch mask
      pub lowest : lowest_lost core.page_map mask ≡ Some page
      pub images : HaveBecome epoch mask (λ kind die. IsUnmarked kind (writing_in core.page_map.geometry array epoch mask false die))

    -- No page was written, and each live die refused a call.
    pub record IsNoneLive : Type 0 where
      pub epoch : ℕ
      pub left : AreLeft core epoch 0
      pub none_lost : lowest_lost core.page_map 0 ≡ None
      pub images : HaveBecome epoch 0 (λ kind die x y. ⊥)

    -- what closing comes to where nothing is open
    abbrev pub Ends : Result ℕ CloseFault → Type 0
    Ends (Ok mask) = IsClosedClean mask
    Ends (Err Busy) = ⊥
    Ends (Err (Lost page)) = IsLostAt page.0
    Ends (Err NoDieLive) = IsNoneLive

    -- what closing comes to: where something is open no image is called
    abbrev pub Closes : Result ℕ CloseFault → Type 0
    Closes result = MatchBool (is_busy core) ((result ≡ Err Busy) × (after ≡ before)) (Ends result)
