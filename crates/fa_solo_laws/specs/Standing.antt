-- A world that the store of one thread stands for, and which of its requests and copies are given up.
use Rattle.std.specs.Prelude.{◌≡◌, ◌⊎◌, ℕ, ◌-◌, ◌^◌, ◌≤◌, List, None}
use Rattle.fa_solo_laws.specs.Driving.{image_on}
use Rattle.fa_image.specs.Image.{ImageAnswer, ImageCall, ImageState}
use Rattle.fa_laws.specs.Reached.{IsReached}
use Rattle.fa_machine.specs.World.{World}
use Rattle.fa_shared_steps.specs.declared.request.Task.{Task}
use Rattle.fa_mount_close_laws.specs.Drives.{AreImages}
use Rattle.fa_shared_lock.specs.Seats.{number_of}
use Rattle.fa_solo.specs.Calls.{Made, MakesRequest, MakesWhole, NoMemory}
use Rattle.fa_solo_job.specs.Orders.{looks_in}
use Rattle.fa_solo_job.specs.Inner.{house_of}
use Rattle.fa_solo_job.specs.declared.inner.Inner.{Inner}
use Rattle.fa_types.specs.Store.{Answer, Refused}
use Rattle.fa_types.specs.declared.blocks.BlockFault.TheVariants.{Lost}

module _ {L M I A : Type 0} where
  -- Runs lead to the world, its state is the store's, it sees what stands in the slots of the store's images, and no job is in flight.
  pub record IsWorldOf (view : I → ImageState) (inner : Inner L M I A) (w : World) : Type 0 where
    pub reached : IsReached w
    pub core : w.core ≡ inner.locked.core
    pub images : AreImages view w (image_on inner.dies.items inner.images.items)
    pub idle : (die : ℕ) → w.works die ≡ None

  module _ (made : I → ImageCall → ImageAnswer → I → Type 0) (task : Task) (bytes : List ℕ) (answer : Answer) (old new : Inner L M I A) where
    abbrev pub turns_in : MakesRequest made task bytes answer old new → ℕ
    turns_in (NoMemory is some same) = 0
    turns_in (Made op next its_task stage none runs end) = runs.turns

    -- The request was given up: it took 2^64 - 1 turns and had not ended, and it was refused as lost.
    abbrev pub IsRequestGivenUp : MakesRequest made task bytes answer old new → Type 0
    IsRequestGivenUp makes = (2 ^ 64 - 1 ≤ turns_in makes) × (answer ≡ Refused Lost)

  module _ (made : I → ImageCall → ImageAnswer → I → Type 0) (task : Task) (bytes : List ℕ) (answer : Answer) (old new : Inner L M I A)
      (call : MakesWhole made task bytes answer old new) where
    -- how often copies of pages were looked at in vain behind its request
    abbrev pub vain_looks : ℕ
    vain_looks =
        looks_in made call.done.locked.number call.done.dies.items (number_of call.done.seat) (house_of call.done) (house_of new)
        call.behind.orders

    -- A copy of a page was given up: behind the request copies were looked at 2^64 - 1 times in vain.
    abbrev pub IsCopyGivenUp : Type 0
    IsCopyGivenUp = 2 ^ 64 - 1 ≤ vain_looks

    -- The request of the call was given up, or a copy of a page behind it.
    abbrev pub IsGivenUp : Type 0
    IsGivenUp = IsRequestGivenUp made task bytes answer call.begun call.done call.request ⊎ IsCopyGivenUp
