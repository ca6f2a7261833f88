-- What becomes of a die in a request of the store of one thread, and in what is done for the array's order.
use Rattle.fa_solo_laws.proofs.Going.{Laws}
use Rattle.fa_solo_laws.proofs.Asking.{meanwhile_plain}
use Rattle.fa_solo_laws.proofs.DrivenDeeds.{copy_plain, dies_plain, order_plain, read_plain, reads_goes, settles_goes}
use Rattle.fa_solo_laws.proofs.Fates.{DieLaws, Fate, IsNoDone, event_fate, fate_on, same_fate}
use Rattle.fa_solo_laws.proofs.Led.{fair_before}
use Rattle.fa_solo_laws.proofs.Worlds.{HasWorld, LeavesLaw, asks_world, copies_world, event_world, goes_fate, goes_world}
use Rattle.fa_solo_laws.specs.Driving.{IsForCopy, IsForRead, IsPlain, image_on}
use Rattle.fa_mount_headers.specs.declared.judging.Standing.{Standing}
use Rattle.fa_image.specs.Image.{ImageAnswer, ImageCall, ImageMeets, ImageState, IsImage}
use Rattle.fa_machine.specs.Cells.{Outcome}
use Rattle.fa_machine.specs.Step.{Act, Admit, Done, EndBatch, Fold, ReserveCopy}
use Rattle.fa_mount.specs.Standings.{AreApart}
use Rattle.fa_shared_lock.specs.Moves.{Folded, Moved, Moves, Rested, Strayed, Turned}
use Rattle.fa_shared_request.specs.Waiting.{awaits_flush}
use Rattle.fa_shared_steps.specs.declared.request.Task.{Task}
use Rattle.fa_shared_steps.specs.declared.stage.Stage.{Stage}
use Rattle.fa_shared_steps.specs.declared.stage.Stage.TheVariants.{Reserving}
use Rattle.fa_shared_steps.specs.declared.stage.Wish.TheVariants.{Data, Fewer, Hole}
use Rattle.fa_mount_close_laws.specs.Drives.{AreHonest}
use Rattle.fa_shared_lock.specs.Seats.{number_of}
use Rattle.fa_shared_lock.specs.declared.seat.Seat.{Seat}
use Rattle.fa_solo_job.specs.Deeds.{Goes, IsForDies, IsForOrder, IsMeanwhile}
use Rattle.fa_solo_job.specs.House.{House}
use Rattle.fa_solo_job.specs.Orders.{Copies, CopiesPage, Deals, Orders, Reads, Rests}
use Rattle.fa_solo.specs.Turns.{Asking, Asks, Begins, PassesTime, Readies, Refuses, Turns, Waits}
use Rattle.std.proofs.Common.{Bool, List, Ok, [], refl, subst, sym, ℕ, ◌++◌, ◌∙◌, ◌∷◌, ◌≡◌}

-- no event of a request ends a job
no_done : {A : Type 0} (t : Task) (seat : ℕ) (stage next : Stage A) (die : ℕ) (outcome : Outcome)
    → Moves t seat stage (Done die outcome) next → ⊥
no_done t seat (Reserving held (Data bytes)) next die outcome moves = moves
no_done t seat (Reserving held (Fewer bytes)) next die outcome moves = moves
no_done t seat (Reserving held Hole) next die outcome moves = moves
no_done t seat stage next die outcome moves = moves

pub moves_end_none : {A : Type 0} (t : Task) (seat : ℕ) (stage : Stage A) (act : Act) (next : Stage A) → Moves t seat stage act next
    → IsNoDone act
moves_end_none t seat stage (Done die outcome) next moves = no_done t seat stage next die outcome moves
moves_end_none t seat stage act next moves = tt

module _ {I : Type 0} (view : I → ImageState) (dies : List Standing) (die : ℕ) (laws : DieLaws) where
  -- a turn of a request
  pub turn_fate : {L A : Type 0} (t : Task) (before after : Seat L) (stage next : Stage A) (old new : House I)
      → Turned t before after old.core stage new.core next → new.images ≡ old.images → Fate view dies die old new
  turn_fate t before after stage next old new (Rested same commits here) images = same_fate view dies die old new same images
  turn_fate t before after stage next old new (Moved act step commits moves founded) images =
      event_fate view dies die laws old new act (moves_end_none t (number_of before) stage act next moves) step images
  turn_fate t before after stage next old new (Folded between act full fold step commits moves founded) images =
      let middle : House I = record { core = between; images = old.images } in
      fate_on view dies die old middle new (event_fate view dies die laws old middle Fold tt fold refl)
      (event_fate view dies die laws middle new act (moves_end_none t (number_of before) stage act next moves) step images)
  turn_fate t before after stage next old new (Strayed same commits strays barred) images = same_fate view dies die old new same images

module _ {I : Type 0} (view : I → ImageState) (honest : I → Bool) (made : I → ImageCall → ImageAnswer → I → Type 0)
    (whole : (image : I) → IsImage (view image))
    (meets : (before after : I) (call : ImageCall) (answer : ImageAnswer) → made before call answer after
    → ImageMeets (view before) (honest before) call answer (view after) (honest after)) (array : List ℕ) (dies : List Standing) (seat : ℕ)
    (asks : Laws) (apart : AreApart dies) (laws : DieLaws) (leaves : LeavesLaw) (die : ℕ) where
  abbrev Fair : House I → Type 0
  Fair house = AreHonest honest (image_on dies house.images)

  abbrev Fated : House I → House I → Type 0
  Fated old new = Fate view dies die old new

  fair_by : (old new : House I) → new.images ≡ old.images → Fair new → Fair old
  fair_by old new same fair = subst (λ (l : List I). AreHonest honest (image_on dies l)) same fair

  deeds_fate : (P : Act → Type 0) (plain : (act : Act) → P act → IsPlain act) (old new : House I) → Goes made array dies seat P old new
      → Fair new
      → HasWorld view dies old → Fated old new
  deeds_fate P plain old new goes fair h =
      goes_fate view honest made whole meets array dies seat asks.geometry apart laws leaves die P plain old new goes fair h

  -- a request
  module _ {L A : Type 0} (task : Task) (bytes : List ℕ) where
    pub time_fate : (old new : Asking L I A) → PassesTime made array dies seat task bytes old new → Fair new.house
        → HasWorld view dies old.house
        → Fated old.house new.house
    time_fate old new time fair h =
        deeds_fate (IsMeanwhile (awaits_flush old.stage)) (meanwhile_plain (awaits_flush old.stage)) old.house new.house time.goes fair h

    pub time_fair : (old new : Asking L I A) → PassesTime made array dies seat task bytes old new → Fair new.house → Fair old.house
    time_fair old new time fair =
        fair_before view honest made whole meets array dies seat asks.geometry apart (IsMeanwhile (awaits_flush old.stage))
        (meanwhile_plain (awaits_flush old.stage)) old.house new.house time.goes fair

    pub asks_fate : (a : Asking L I A) → number_of a.seat ≡ seat → HasWorld view dies a.house → (n : ℕ) (b : Asking L I A)
        → Asks made array dies seat task bytes a n b → Fair b.house → Fated a.house b.house
    asks_fate a number h n b Begins fair = same_fate view dies die a.house a.house refl refl
    asks_fate a number h n b (Turns turns middle here before turn) fair =
        let then = fair_by middle.house b.house turn.images fair in
        fate_on view dies die a.house middle.house b.house (asks_fate a number h turns middle before then)
        (turn_fate view dies die laws task middle.seat b.seat middle.stage b.stage middle.house b.house turn.turned turn.images)
    asks_fate a number h n b (Readies turns middle here before ready) fair =
        subst (Fated a.house) (sym ready.same_house)
        (asks_fate a number h turns middle before (subst Fair ready.same_house fair))
    asks_fate a number h n b (Waits turns middle here before time) fair =
        let then = time_fair middle b time fair in
        fate_on view dies die a.house middle.house b.house (asks_fate a number h turns middle before then)
        (time_fate middle b time fair
        (asks_world view honest made whole meets array dies seat asks.geometry apart task bytes a turns middle before number then h))
    asks_fate a number h n b (Refuses turns middle here before up) fair =
        subst (Fated a.house) (sym up.same_house) (asks_fate a number h turns middle before (subst Fair up.same_house fair))

  -- what is done for the array's order
  copy_fate : (old new : House I) → CopiesPage made array dies seat old new → Fair new → HasWorld view dies old → Fated old new
  copy_fate old new c fair h =
      let fair_waited : Fair c.waited = subst (λ (l : List I). AreHonest honest (image_on dies l)) (c.images.2 ∙ c.images.1) fair in
      let admits : Act = Admit (c.page ∷ []) (Ok c.admitted) in
      let ends : Act = EndBatch c.admitted.batch.0 (c.others ++ (c.given, c.bytes) ∷ []) in
      let reserves : Act = ReserveCopy c.page c.version.seq.0 c.bytes (Ok tt) in
      let asked = event_world view dies asks.geometry old c.asked admits (λ w. tt) (λ w. refl) c.asks c.images.0 h in
      let one = event_fate view dies die laws old c.asked admits tt c.asks c.images.0 in
      let two = deeds_fate IsForDies dies_plain c.asked c.waited c.waits fair_waited asked in
      let three = event_fate view dies die laws c.waited c.ended ends tt c.ends c.images.1 in
      let four = event_fate view dies die laws c.ended new reserves tt c.reserves c.images.2 in
      fate_on view dies die old c.ended new
      (fate_on view dies die old c.waited c.ended (fate_on view dies die old c.asked c.waited one two) three) four

  copy_fair : (old new : House I) → CopiesPage made array dies seat old new → Fair new → Fair old
  copy_fair old new c fair =
      let fair_waited : Fair c.waited = subst (λ (l : List I). AreHonest honest (image_on dies l)) (c.images.2 ∙ c.images.1) fair in
      fair_by old c.asked c.images.0
      (fair_before view honest made whole meets array dies seat asks.geometry apart IsForDies dies_plain c.asked c.waited c.waits fair_waited)

  pub orders_fate : (old new : House I) → HasWorld view dies old → Orders made array dies seat old new → Fair new
      → Fated old new × HasWorld view dies new
  orders_fate old new h Rests fair = (same_fate view dies die old old refl refl, h)
  orders_fate old new h (Deals middle here before goes) fair =
      let then = fair_before view honest made whole meets array dies seat asks.geometry apart IsForOrder order_plain middle new goes fair in
      let led = orders_fate old middle h before then in (
        fate_on view dies die old middle new led.0 (deeds_fate IsForOrder order_plain middle new goes fair led.1),
        goes_world view honest made whole meets array dies seat asks.geometry apart IsForOrder order_plain middle new goes fair led.1,
      )
  orders_fate old new h (Reads middle here before reads) fair =
      let goes = reads_goes made array dies seat middle new reads in
      let then = fair_before view honest made whole meets array dies seat asks.geometry apart IsForRead read_plain middle new goes fair in
      let led = orders_fate old middle h before then in (
        fate_on view dies die old middle new led.0 (deeds_fate IsForRead read_plain middle new goes fair led.1),
        goes_world view honest made whole meets array dies seat asks.geometry apart IsForRead read_plain middle new goes fair led.1,
      )
  orders_fate old new h (Copies middle copied here before copy settles) fair =
      let goes = settles_goes made array dies seat copied new settles in
      let fair_copied =
      fair_before view honest made whole meets array dies seat asks.geometry apart IsForCopy copy_plain copied new goes fair in
      let led = orders_fate old middle h before (copy_fair middle copied copy fair_copied) in
      let there =
      copies_world view honest made whole meets array dies seat asks.geometry apart asks middle copied copy fair_copied led.1 in (
        fate_on view dies die old copied new
            (fate_on view dies die old middle copied led.0 (copy_fate middle copied copy fair_copied led.1))
            (deeds_fate IsForCopy copy_plain copied new goes fair there),
        goes_world view honest made whole meets array dies seat asks.geometry apart IsForCopy copy_plain copied new goes fair there,
      )
