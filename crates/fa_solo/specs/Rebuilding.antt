-- What came of a thin page that was to get one more copy.
use Rattle.std.specs.Prelude.{◌≡◌, ◌⊎◌, ℕ, ◌-◌, ◌^◌, ◌≤◌, Bool, true, false, List, [], None, Err, Ok}
use Rattle.fa_image.specs.Image.{ImageAnswer, ImageCall}
use Rattle.fa_machine.specs.Looks.{next_thin}
use Rattle.fa_machine.specs.Step.{Advance, ReserveCopy, Step}
use Rattle.fa_machine.specs.State.{Core}
use Rattle.fa_machine.specs.declared.refusals.AdvanceRefused.{AdvanceRefused}
use Rattle.fa_machine.specs.declared.refusals.ReserveCopyRefused.{ReserveCopyRefused}
use Rattle.fa_machine.specs.declared.refusals.ReserveCopyRefused.TheVariants.{Gone}
use Rattle.fa_solo.specs.declared.rebuilding.Rebuilt.{Rebuilt}
use Rattle.fa_solo.specs.declared.rebuilding.Rebuilt.TheVariants.{Nothing, Tried, Stopped}
use Rattle.fa_shared_lock.specs.Seats.{number_of}
use Rattle.fa_solo_job.specs.Deeds.{IsForOrder}
use Rattle.fa_solo_job.specs.Inner.{AsksCopy, Does, Halts, SettlesCopy, TidiesBy, house_of}
use Rattle.fa_solo_job.specs.Orders.{IsRefusal, looks_of}
use Rattle.fa_solo_job.specs.declared.inner.Inner.{Inner}

-- the round is refused to pass
abbrev pub IsStuck : Core → Type 0
IsStuck core = (refused : AdvanceRefused) × Step core (Advance (Err refused)) core

-- of a copy that was seen through, or was given up
abbrev pub of_copy : Bool → Rebuilt
of_copy true = Tried
of_copy false = Stopped

-- of one that was refused: the page is lost or whole by now, or has another number, or something stopped it
abbrev pub of_refusal : ReserveCopyRefused → Rebuilt
of_refusal Gone = Tried
of_refusal refused = Stopped

module _ {L E I A : Type 0} (made : I → ImageCall → ImageAnswer → I → Type 0) where
  -- There is no thin page that has a place to go; or one was read; or something stopped this, or a copy was looked at in vain 2^64 - 1
  -- times.
  abbrev pub Rebuilds : Rebuilt → Inner L E I A → Inner L E I A → Type 0
  Rebuilds Nothing old new = (new ≡ old) × (next_thin old.locked.core.copies old.locked.core.page_map ≡ None)
  Rebuilds Tried old new = TidiesBy made 1 old new
  Rebuilds Stopped old new = Halts made old new ⊎ TidiesBy made (2 ^ 64 - 1) old new

  -- One more copy of a page was reserved of what was answered, and is seen through.
  pub record TriesCopy (page seq : ℕ) (answers : List (ℕ × List ℕ)) (old new : Inner L E I A) : Type 0 where
    pub middle : Inner L E I A
    pub asked : AsksCopy page seq answers (Ok tt) old middle
    pub settled : SettlesCopy made middle new

  -- how often it was looked at in vain
  abbrev pub vain_looks : (page seq : ℕ) (answers : List (ℕ × List ℕ)) (old new : Inner L E I A) → TriesCopy page seq answers old new → ℕ
  vain_looks page seq answers old new tries =
      looks_of made tries.middle.locked.number tries.middle.dies.items (number_of tries.middle.seat) (house_of tries.middle) (house_of new)
      tries.settled.settles

  -- The same of a page that was read.
  abbrev pub Copies : (page seq : ℕ) → List (ℕ × List ℕ) → Rebuilt → Inner L E I A → Inner L E I A → Type 0
  Copies page seq answers Nothing old new = ⊥
  Copies page seq answers Tried old new = Does made IsForOrder old new ⊎ TriesCopy page seq answers old new
  Copies page seq answers Stopped old new =
      ((refused : ReserveCopyRefused) × IsRefusal (ReserveCopy page seq [] (Err refused)) × AsksCopy page seq answers (Err refused) old new)
      ⊎ ((tries : TriesCopy page seq answers old new) × (2 ^ 64 - 1 ≤ vain_looks page seq answers old new tries))
