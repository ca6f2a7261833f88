-- What contracts see of what the store of one thread owns, and what is done with it besides its requests.
use Rattle.std.specs.Prelude.{◌≡◌, ℕ, ◌+◌, ◌<◌, ◌≤◌, List, [], ◌∷◌, ◌++◌, Some, length, slice_get, slice_set, Result}
use Rattle.fa_image.specs.Image.{ImageAnswer, ImageCall, ImageState}
use Rattle.fa_machine.specs.Cells.{Outcome}
use Rattle.fa_machine.specs.State.{Core}
use Rattle.fa_machine.specs.declared.refusals.ReserveCopyRefused.{ReserveCopyRefused}
use Rattle.fa_machine.specs.Step.{Act, Done, ReserveCopy, Step}
use Rattle.fa_machine.specs.Taking.{Handed}
use Rattle.fa_mount.specs.Standings.{place_on}
use Rattle.fa_shared_lock.specs.Seats.{number_of}
use Rattle.fa_solo_job.specs.Deeds.{Goes}
use Rattle.fa_solo_job.specs.House.{House}
use Rattle.fa_solo_job.specs.Orders.{Awaits, IsDone, IsHalted, Orders, Settles, tries_in}
use Rattle.fa_solo_job.specs.declared.inner.Parts.{Parts}
use Rattle.fa_solo_job.specs.declared.inner.Inner.{Inner}
use Rattle.fa_shared_lock.specs.Rest.{LeavesRest}
use Rattle.fa_jobs.specs.Made.{Ran}

-- an array with its images that is not in use
abbrev pub house_in : {E I A : Type 0} → (E → Core) → Parts E I A → House I
house_in core parts = record { core = core parts.array; images = parts.images.items }

module _ {L E I A : Type 0} where
  -- one in use
  abbrev pub house_of : Inner L E I A → House I
  house_of inner = record { core = inner.locked.core; images = inner.images.items }

  -- The die has this image, at this place of the list, and it is of the array's geometry.
  pub record IsPlaced (view : I → ImageState) (inner : Inner L E I A) (die place : ℕ) : Type 0 where
    pub place_is : place_on inner.dies.items die ≡ Some place
    pub inside : place < length inner.images.items
    pub image : I
    pub image_is : slice_get inner.images.items place ≡ Some image
    pub shape : (view image).geometry ≡ inner.locked.core.page_map.geometry

  -- There is memory for a slot's bytes and for a page's.
  pub record HasMemory (inner : Inner L E I A) : Type 0 where
    pub scratch : length inner.scratch.items ≡ inner.locked.core.page_map.geometry.page_bytes + 64
    pub buffer : length inner.buffer.items ≡ inner.locked.core.page_map.geometry.page_bytes

  -- An event was made. Nothing else of the array under its lock has changed, no Commit was made, and the images are the same.
  pub record DoesOne (act : Act) (old new : Inner L E I A) : Type 0 where
    pub step : Step old.locked.core act new.locked.core
    pub left : LeavesRest old.locked old.seat new.locked new.seat
    pub images : new.images.items ≡ old.images.items
    pub dies : new.dies.items ≡ old.dies.items

  -- A slot was asked for, for one more copy of the page's write with this number, of the bytes that were answered last.
  pub record AsksCopy (page seq : ℕ) (answers : List (ℕ × List ℕ)) (answer : Result (Unit {0}) ReserveCopyRefused) (old new : Inner L E I A) : Type 0 where
    pub others : List (ℕ × List ℕ)
    pub given : ℕ
    pub bytes : List ℕ
    pub last : answers ≡ others ++ (given, bytes) ∷ []
    pub asks : DoesOne (ReserveCopy page seq bytes answer) old new

  module _ (made : I → ImageCall → ImageAnswer → I → Type 0) where
    -- The calls of a job were made of the image at a place, and the job ends so by what they gave.
    pub record RanAt (old : Inner L E I A) (die place : ℕ) (job : Handed) (outcome : Outcome) (images : List I) : Type 0 where
      pub before : I
      pub after : I
      pub image_is : slice_get old.images.items place ≡ Some before
      pub ran : Ran made old.locked.core.page_map.geometry old.locked.number die job outcome before after
      pub images_are : images ≡ slice_set old.images.items place after

    -- They were made, and the job has ended so.
    pub record EndsAt (old : Inner L E I A) (die place : ℕ) (job : Handed) (new : Inner L E I A) : Type 0 where
      pub outcome : Outcome
      pub ran : RanAt old die place job outcome new.images.items
      pub ends : Step old.locked.core (Done die outcome) new.locked.core
      pub left : LeavesRest old.locked old.seat new.locked new.seat
      pub dies : new.dies.items ≡ old.dies.items

    -- Deeds were done, of which the events are some of these. Nothing else of the array under its lock has changed, no Commit was made, and
    -- the images are those of the same dies.
    pub record Does (P : Act → Type 0) (old new : Inner L E I A) : Type 0 where
      pub goes : Goes made old.locked.number old.dies.items (number_of old.seat) P (house_of old) (house_of new)
      pub left : LeavesRest old.locked old.seat new.locked new.seat
      pub dies : new.dies.items ≡ old.dies.items

    -- The same of what is done for the array's order.
    pub record Tidies (old new : Inner L E I A) : Type 0 where
      pub orders : Orders made old.locked.number old.dies.items (number_of old.seat) (house_of old) (house_of new)
      pub left : LeavesRest old.locked old.seat new.locked new.seat
      pub dies : new.dies.items ≡ old.dies.items

    -- The same, and something was tried so often at least.
    pub record TidiesBy (tries : ℕ) (old new : Inner L E I A) : Type 0 where
      pub tidies : Tidies old new
      pub many : tries ≤ tries_in made old.locked.number old.dies.items (number_of old.seat) (house_of old) (house_of new) tidies.orders

    -- The same until something stopped it.
    pub record Halts (old new : Inner L E I A) : Type 0 where
      pub tidies : Tidies old new
      pub halted : IsHalted made old.locked.number old.dies.items (number_of old.seat) (house_of old) (house_of new)

    -- The same until nothing was left to be done, something stopped it, or something was tried 2^64 - 1 times.
    pub record PutsInOrder (old new : Inner L E I A) : Type 0 where
      pub tidies : Tidies old new
      pub done : IsDone made old.locked.number old.dies.items (number_of old.seat) (house_of old) (house_of new) tidies.orders

    -- A batch was looked at so often while it had not all of its answers, and behind each look deeds for dies were done.
    pub record AwaitsBatch (batch looks : ℕ) (old new : Inner L E I A) : Type 0 where
      pub waits : Awaits made old.locked.number old.dies.items (number_of old.seat) batch (house_of old) looks (house_of new)
      pub left : LeavesRest old.locked old.seat new.locked new.seat
      pub dies : new.dies.items ≡ old.dies.items

    -- The same of the copy under way.
    pub record SettlesCopy (old new : Inner L E I A) : Type 0 where
      pub settles : Settles made old.locked.number old.dies.items (number_of old.seat) (house_of old) (house_of new)
      pub left : LeavesRest old.locked old.seat new.locked new.seat
      pub dies : new.dies.items ≡ old.dies.items
