-- What a conversation over an array comes to over a plain array, where its images return what was written.
use Rattle.std.specs.Prelude.{◌≡◌, ◌⊎◌, Bool, IsTrue, List, map, ℕ}
use Rattle.std.specs.List.{AllByRecursion}
use Rattle.std.specs.declared.alloc.Global.{Global}
use Rattle.fa_image.specs.Image.{ImageAnswer, ImageCall, ImageState}
use Rattle.fa_io.specs.Streams.{Streams}
use Rattle.fa_machine.specs.Beginning.{IsBeginning}
use Rattle.fa_machine.specs.State.{Core}
use Rattle.fa_machine.specs.World.{World}
use Rattle.fa_mount_close_laws.specs.Drives.{AreHonest}
use Rattle.fa_mount_headers.specs.declared.judging.Standing.{Standing}
use Rattle.fa_mount_scan.specs.MountedWorld.{CopiesAgree, IsMountedWorld, bytes_of, is_spare_of}
use Rattle.fa_session.specs.Session.{Session}
use Rattle.fa_session.specs.declared.session_end.SessionEnd.{SessionEnd}
use Rattle.fa_solo.specs.Stores.{StoreMakes, StoreState}
use Rattle.fa_solo_laws.specs.Driving.{image_on}
use Rattle.fa_solo_laws.specs.Sessions.{IsSessionGivenUp, IsStoreOf}
use Rattle.fa_solo_laws.specs.Shown.{store_of}
use Rattle.fa_solo_laws.specs.Standing.{IsWorldOf}
use Rattle.fa_types.specs.Store.{Meets}

module _ {I : Type 0} (view : I → ImageState) (honest : I → Bool) (made : I → ImageCall → ImageAnswer → I → Type 0) {L M : Type 0} where
  -- A world stands for the array as it was mounted, and its plain array is what stood in the slots of the images then. Another one stands
  -- for the array at the end, and sees what stands in the slots of the images then. The connection is one over a store that nobody else
  -- calls: its content is the one plain array as it begins and the other as it ends, and the lost pages are those of the two worlds. Or a
  -- call of the store was given up.
  pub record AnswersRight (export : List ℕ) (streams : Streams) (end : SessionEnd) (dies : List Standing) (core : Core) (mounted : List I)
      (first last : StoreState L M I Global) (session : Session (StoreMakes made) export first.bytes streams first last end) : Type 0 where
    pub before : World
    pub after : World
    pub core_is : before.core ≡ core
    pub beginning : IsBeginning before
    pub mounted_is : IsMountedWorld (bytes_of (map view mounted) dies) (is_spare_of dies) before
    pub of_last : IsWorldOf view last.inner after
    pub answers : (IsStoreOf view last after
        × Session (λ b call answer a. Meets b call answer a) export first.bytes streams (store_of before) (store_of after) end)
        ⊎ IsSessionGivenUp made export first.bytes streams first last end session

  -- So it is where the current copies of one page agree as the images are mounted, and where these returned what was written up to the end.
  abbrev pub IsRight : (export : List ℕ) (streams : Streams) (end : SessionEnd) (dies : List Standing) (core : Core) (mounted : List I)
      (first last : StoreState L M I Global) → Session (StoreMakes made) export first.bytes streams first last end → Type 0
  IsRight export streams end dies core mounted first last session =
      CopiesAgree (bytes_of (map view mounted) dies) core.page_map → AllByRecursion (λ image. IsTrue (honest image)) mounted
      → AreHonest honest (image_on last.inner.dies.items last.inner.images.items)
      → AnswersRight export streams end dies core mounted first last session
