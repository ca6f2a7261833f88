-- The images that are recovered behind a crash or a close, and the life that begins with what is recovered of them.
use Rattle.std.specs.Prelude.{◌≡◌, ℕ, ◌<◌, ◌≤◌, Bool, true, false, List, None, Option, Some}
use Rattle.std.specs.FinMap.{contains_key, get}
use Rattle.fa_crash.specs.Flushed.{AreOfLast, IsPromised, is_of_array, slots_of}
use Rattle.fa_crash.specs.Headers.{AreToldAlike, names, tells}
use Rattle.fa_crash.specs.Unsynced.{Unsynced, nothing_unsynced}
use Rattle.fa_crash.specs.Whole.{RunWhole}
use Rattle.fa_crash.specs.HeadersLeft.{AreHeadersLeft}
use Rattle.fa_crash.specs.Life.{IsLife}
use Rattle.fa_crash.specs.Left.{HasOutlasted}
use Rattle.fa_machine.specs.Among.{Among}
use Rattle.fa_machine.specs.Beginning.{IsBeginning}
use Rattle.fa_machine.specs.Cells.{Cell}
use Rattle.fa_machine.specs.Copies.{holds_page}
use Rattle.fa_machine.specs.Run.{Happening}
use Rattle.fa_machine.specs.State.{Core, is_live}
use Rattle.fa_machine.specs.World.{HeaderTells, World}
use Rattle.fa_machine.specs.declared.places.Version.{Version}
use Rattle.fa_mount_headers.specs.Judged.{standing_of}
use Rattle.fa_mount_headers.specs.Rules.{greatest_epoch, is_in, mask_in}
use Rattle.fa_mount_headers.specs.declared.judging.Standing.TheVariants.{Live}
use Rattle.fa_mount_headers.specs.declared.seen.Seen.{Seen}
use Rattle.fa_mount_scan.specs.ContentCells.{IsCellOf}
use Rattle.fa_mount_scan.specs.MountedWorld.{IsMountedWorld, SlotBytes}

-- the mask of the greatest epoch has the die
abbrev pub is_named : List Seen → ℕ → Bool
is_named seen die = is_in (mask_in (greatest_epoch seen) seen) die

-- Images with these headers, and with these bytes in the slots of each die, are those of an array of which each die's header tells this:
-- the newest header is among them, and the slots of each die that it names have these cells.
pub record AreThere (first : World) (told : ℕ → HeaderTells) (cells : ℕ → ℕ → Cell) (seen : List Seen) (bytes : SlotBytes) : Type 0 where
  pub epochs : (x : Seen) → Among x seen → x.header.epoch ≡ (told x.header.die.0).epoch
  pub masks : (x : Seen) → Among x seen → x.header.mask ≡ (told x.header.die.0).live
  pub shape : (x : Seen) → Among x seen → x.header.geometry ≡ first.core.page_map.geometry
  pub newest : (die : ℕ) → (told die).epoch ≤ greatest_epoch seen
  pub slots : (x : Seen) (slot : ℕ) → Among x seen → is_named seen x.header.die.0 ≡ true → slot < slots_of first.core
      → IsCellOf (bytes x.header.die.0 slot) (cells x.header.die.0 slot)

-- a die that holds a page, and whose image is there, is named and stands as live
abbrev pub HoldersStand : World → List Seen → Type 0
HoldersStand w seen = (page : ℕ) (x : Seen) → Among x seen → holds_page w.core.page_map page x.header.die.0 ≡ true
    → (is_named seen x.header.die.0 ≡ true)
    × (index : ℕ) × (standing_of (mask_in (greatest_epoch seen) seen) seen x.header.die.0 ≡ Live index)

-- No page was lost: each that was written as the array was mounted has a holder, whose image is there.
abbrev pub HaveHolders : World → World → List Seen → Type 0
HaveHolders first w seen = (page : ℕ) (version : Version) → get first.core.page_map.versions page ≡ Some version
    → (x : Seen) × Among x seen × (holds_page w.core.page_map page x.header.die.0 ≡ true)

-- A live die of the array that was recovered: its image is there, without the mark of a spare, and it is named.
pub record IsLiveSeen (seen : List Seen) (die : ℕ) : Type 0 where
  pub x : Seen
  pub among : Among x seen
  pub die_is : x.header.die.0 ≡ die
  pub named : is_named seen die ≡ true
  pub plain : x.header.spare ≡ false

-- What was recovered of such images is such as runs begin with. A page that was promised, of which the image of a holder is there, has at
-- least the number that was promised, with the bytes that were reserved for the number that it has.
pub record BeginsAgain (first w : World) (told : ℕ → HeaderTells) (u : Unsynced) (seen : List Seen) (bytes : SlotBytes)
    (is_spare : ℕ → Bool) (core : Core) : Type 0 where
  pub next : World
  pub state : next.core ≡ core
  pub unwritten : (die : ℕ) → (next.images die).header ≡ None
  pub mounted : IsMountedWorld bytes is_spare next
  pub beginning : IsBeginning next
  pub cells : AreOfLast next
  pub live : (die : ℕ) → is_live next.core.page_map die ≡ true → IsLiveSeen seen die
  pub there : (die : ℕ) → is_named seen die ≡ true → is_of_array next die ≡ true
  pub older : (die : ℕ) → (told die).epoch < next.core.epoch
  pub outlasts : (page number : ℕ) (x : Seen) → IsPromised first page number w u → Among x seen
      → holds_page w.core.page_map page x.header.die.0 ≡ true → HasOutlasted w bytes core.page_map page number
  -- and it is promised again, in each run from there
  pub again : (page number : ℕ) (x : Seen) (happenings : List Happening) (last : World) (v : Unsynced) → IsPromised first page number w u
      → Among x seen → holds_page w.core.page_map page x.header.die.0 ≡ true → RunWhole next (nothing_unsynced next) happenings last v
      → (version : Version) × (number ≤ version.seq.0) × IsPromised next page version.seq.0 last v

-- Images with these headers and bytes are what a cut left of an array. The newest header that any die of the array has is among them.
pub record AreImagesLeft (first : World) (told : ℕ → HeaderTells) (cells : ℕ → ℕ → Cell) (heads : ℕ → Option HeaderTells) (seen : List Seen)
    (bytes : SlotBytes) : Type 0 where
  pub there : AreThere first (tells told heads) cells seen bytes
  pub headers : AreHeadersLeft first told heads seen
  -- a spare that no job wrote a header to has the mark of one still
  pub marked : (x : Seen) → Among x seen → heads x.header.die.0 ≡ None → contains_key first.core.spares x.header.die.0 ≡ true
      → x.header.spare ≡ true

-- Images with these headers and bytes are those of an array that was closed in this world, with all its live dies: these have one header,
-- which names them, no mark of a spare, and what the world has in their slots. All other headers are older.
pub record AreImagesClosed (first w : World) (told : ℕ → HeaderTells) (seen : List Seen) (bytes : SlotBytes) : Type 0 where
  pub there : AreThere first told (λ die slot. (w.images die).seen slot) seen bytes
  pub alike : AreToldAlike told
  pub written : HeaderTells
  pub closed : (die : ℕ) → is_live w.core.page_map die ≡ true → told die ≡ written
  pub names_live : (die : ℕ) → names written.live die ≡ is_live w.core.page_map die
  pub older : (die : ℕ) → is_live w.core.page_map die ≡ false → (told die).epoch < written.epoch
  pub plain : (x : Seen) → Among x seen → is_live w.core.page_map x.header.die.0 ≡ true → x.header.spare ≡ false
  pub some : (x : Seen) × Among x seen × (is_live w.core.page_map x.header.die.0 ≡ true)

-- A life begins with the array that was recovered, with what its images hold and what their headers tell; and of each page that was
-- promised before the same is promised in it.
pub record BeginsLife (first w : World) (told : ℕ → HeaderTells) (u : Unsynced) (seen : List Seen) (bytes : SlotBytes) (is_spare : ℕ → Bool)
    (core : Core) : Type 0 where
  pub begins : BeginsAgain first w told u seen bytes is_spare core
  pub life : IsLife begins.next told begins.next (nothing_unsynced begins.next)
