-- A conversation of one client with the store that a mounted array is to one thread, up to the closing of the array.
use Rattle.std.specs.Prelude.{◌≡◌, ℕ, ◌+◌, ◌*◌, ◌^◌, ◌≤◌, Bool, List, [], map, IfOk, Result}
use Rattle.std.specs.FinMap.{len}
use Rattle.std.specs.declared.alloc.Global.{Global}
use Rattle.fa_image.specs.Image.{ImageAnswer, ImageCall, ImageState}
use Rattle.fa_machine.specs.State.{Core}
use Rattle.fa_mount.specs.declared.closing.CloseFault.{CloseFault}
use Rattle.fa_mount_headers.specs.declared.judging.Standing.{Standing}
use Rattle.fa_prog_array.specs.Ending.{ClosesOver}
use Rattle.flasharr.specs.declared.conversation.Said.{Said}
use Rattle.fa_prog_text.specs.Talk.{known}
use Rattle.fa_session.specs.Session.{Session}
use Rattle.fa_session.specs.declared.session_end.SessionEnd.{SessionEnd}
use Rattle.fa_faults.specs.Faults.{faults_of}
use Rattle.fa_faults.specs.declared.faults.Fault.{Fault}
use Rattle.fa_solo.specs.Stores.{StoreMakes, StoreState}

-- The store over an array that was mounted of these images, before its first call: it has the array's state and the images, and it is as
-- large as the array.
pub record BeginsOver {L M I : Type 0} (array : List ℕ) (dies : List Standing) (core : Core) (images : List I) (store : StoreState L M I Global)
    : Type 0 where
  pub core_is : store.inner.locked.core ≡ core
  pub number : store.inner.locked.number ≡ array
  pub dies_are : store.inner.dies.items ≡ dies
  pub images_are : store.inner.images.items ≡ images
  pub bytes : store.bytes ≡ core.page_map.geometry.pages * core.page_map.geometry.page_bytes
  pub page_bytes : store.page_bytes ≡ core.page_map.geometry.page_bytes

module _ {I : Type 0} (view : I → ImageState) (honest : I → Bool) (made : I → ImageCall → ImageAnswer → I → Type 0) (L M : Type 0) where
  -- From an array that was mounted, with its images as they are then, to what the server has said and how the connection ended, to the
  -- faults that took dies out meanwhile, and to how the array was closed, and its images as that leaves them. The calls of the store are
  -- those that the client's bytes ask for, and each was made of the array and of the images of its dies.
  pub record Converses (export bytes : List ℕ) (array : List ℕ) (dies : List Standing) (core : Core) (mounted : List I) (written : List ℕ)
      (end : SessionEnd) (faults : List Fault) (closed : Result ℕ CloseFault) : Type 0 where
    pub left : List ℕ
    pub first : StoreState L M I Global
    pub last : StoreState L M I Global
    pub images : List I
    pub begins : BeginsOver array dies core mounted first
    pub session : Session (StoreMakes made) export first.bytes (known bytes left [] written) first last end
    pub kept : faults ≡ faults_of last.inner.faults
    pub epoch : (1 ≤ last.inner.locked.core.epoch) × (last.inner.locked.core.epoch + len last.inner.locked.core.page_map.live ≤ 2 ^ 62)
    pub closes : ClosesOver made last.inner.locked.core last.inner.locked.number last.inner.dies.items last.inner.images.items images closed
    pub slots : map (λ image. (view image).slots) images ≡ map (λ image. (view image).slots) last.inner.images.items
    pub as_honest : map honest images ≡ map honest last.inner.images.items

  -- the same, as it is handed on: there may be no memory for the list of the faults
  abbrev pub HasSaid : {A : Type 0} (export bytes array : List ℕ) → List Standing → Core → List I → Said A → Type 0
  HasSaid export bytes array dies core mounted said =
      (faults : List Fault) × Converses export bytes array dies core mounted said.written.items said.end faults said.closed
      × IfOk said.faults (λ kept. kept.items ≡ faults)
