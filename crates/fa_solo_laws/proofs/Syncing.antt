-- What each die in use has synced behind a request with a flush.
use Rattle.fa_solo_laws.proofs.Going.{Laws}
use Rattle.fa_solo_laws.proofs.Fates.{DieLaws, Fate, IsIn, live_kept, same_synced, spare_kept}
use Rattle.fa_solo_laws.proofs.Flushes.{HasAsked, HasSynced, IsKnown, Keeps, NoneOlderLaw, begins_asked, ends_synced, keeps_moved, keeps_ready}
use Rattle.fa_solo_laws.proofs.Flushes.{keeps_same, keeps_strayed, keeps_waiting, keeps_without_room}
use Rattle.fa_solo_laws.proofs.Walks.{asks_fate, time_fair, time_fate}
use Rattle.fa_solo_laws.proofs.Worlds.{HasWorld, LeavesLaw, asks_world}
use Rattle.fa_solo_laws.specs.Driving.{image_on}
use Rattle.fa_mount_headers.specs.declared.judging.Standing.{Standing}
use Rattle.fa_image.specs.Image.{ImageAnswer, ImageCall, ImageMeets, ImageState, IsImage}
use Rattle.fa_laws.proofs.Returning.{stays_out}
use Rattle.fa_laws.proofs.Within.{reached_inside}
use Rattle.fa_machine.specs.State.{Core, is_live}
use Rattle.fa_machine.specs.Step.{FlushBegin, FlushState, Fold, Step}
use Rattle.fa_machine.specs.declared.answers.Flush.{Flush}
use Rattle.fa_machine.specs.declared.answers.FlushState.TheVariants.{Synced}
use Rattle.fa_mount.specs.Standings.{AreApart}
use Rattle.fa_shared_lock.specs.Moves.{Folded, Moved, Rested, Strayed, Turned}
use Rattle.fa_shared_steps.specs.declared.request.Task.{Task}
use Rattle.fa_shared_steps.specs.declared.stage.Stage.{Stage}
use Rattle.fa_mount_close_laws.specs.Drives.{AreHonest}
use Rattle.fa_shared_lock.specs.Seats.{number_of}
use Rattle.fa_shared_lock.specs.declared.seat.Seat.{Seat}
use Rattle.fa_solo_job.specs.House.{House}
use Rattle.fa_solo.specs.Turns.{Asking, Asks, Begins, Readies, Refuses, Turns, Waits}
use Rattle.fa_types.specs.declared.geometry.Geometry.{Geometry}
use Rattle.std.proofs.Common.{Bool, List, Ok, ap, arith, inl, inr, subst, sym, true, ℕ, ◌<◌, ◌∙◌, ◌≡◌, ◌≤◌}

module _ (asks : Laws) (laws : DieLaws) (none_older : NoneOlderLaw) (first die : ℕ) (t : Task) (flushes : t.flush ≡ true) where
  known_on : (old new : Core) → Step old Fold new → IsKnown old die → IsKnown new die
  known_on old new step (inl (here, inside)) = inl (
    record { live = live_kept laws old new die Fold tt step here.live; no_spare = spare_kept laws old new die Fold step here.no_spare },
    subst (λ (g : Geometry). die < g.dies) (sym (asks.geometry old new Fold step)) inside,
  )
  known_on old new step (inr gone) = inr (stays_out laws.lives laws.spares old new Fold die step gone)

  begins : (old new : Core) → first ≤ old.flushes → IsKnown old die → (flush : Flush) → Step old (FlushBegin (Ok flush)) new
      → HasAsked first die new flush
  begins old new counted known flush step =
      begins_asked first die old new known flush counted (stays_out laws.lives laws.spares old new (FlushBegin (Ok flush)) die step) step

  syncs : (old new : Core) → IsKnown old die → (flush : Flush) → HasAsked first die old flush → Step old (FlushState flush Synced) new
      → HasSynced first die new
  syncs old new known flush asked step = ends_synced first die old new known none_older flush asked step

  pub turn_keeps : {L A : Type 0} (before after : Seat L) (old new : Core) (stage next : Stage A) → Turned t before after old stage new next
      → first ≤ old.flushes → IsKnown old die → Keeps first die old stage → Keeps first die new next
  turn_keeps {A = A} before after old new stage next (Rested same commits here) counted known k =
      subst (λ (c : Core). Keeps first die c next) (sym same) (subst (λ (s : Stage A). Keeps first die old s) (sym here) k)
  turn_keeps {A = A} before after old new stage next (Moved act step commits moves founded) counted known k =
      keeps_moved first die A t flushes (number_of before) old new (begins old new counted known)
      (syncs old new known) stage act next k step moves
  turn_keeps {A = A} before after old new stage next (Folded between act full fold step commits moves founded) counted known k =
      let then = known_on old between fold known in
      let up = laws.flushes old between Fold fold in
      keeps_moved first die A t flushes (number_of before) between new (begins between new (omega (arith, counted, up)) then)
      (syncs between new then)
      stage act next
      (keeps_same first die A old between stage (stays_out laws.lives laws.spares old between Fold die fold)
      (same_synced laws old between die Fold tt (laws.synced old between Fold fold)) k)
      step moves
  turn_keeps {A = A} before after old new stage next (Strayed same commits strays barred) counted known k =
      subst (λ (c : Core). Keeps first die c next) (sym same) (keeps_strayed first die A old stage next k strays)

module _ {I : Type 0} (view : I → ImageState) (honest : I → Bool) (made : I → ImageCall → ImageAnswer → I → Type 0)
    (whole : (image : I) → IsImage (view image))
    (meets : (before after : I) (call : ImageCall) (answer : ImageAnswer) → made before call answer after
    → ImageMeets (view before) (honest before) call answer (view after) (honest after)) (array : List ℕ) (dies : List Standing) (seat : ℕ)
    (asks : Laws) (apart : AreApart dies) (laws : DieLaws) (leaves : LeavesLaw) (die : ℕ) (none_older : NoneOlderLaw) {L A : Type 0}
    (task : Task)
    (bytes : List ℕ) (flushes : task.flush ≡ true) (a : Asking L I A) (number : number_of a.seat ≡ seat) (h : HasWorld view dies a.house)
    (here : IsIn a.house.core die) where
  abbrev Fair : House I → Type 0
  Fair house = AreHonest honest (image_on dies house.images)

  fate : (n : ℕ) (b : Asking L I A) → Asks made array dies seat task bytes a n b → Fair b.house → Fate view dies die a.house b.house
  fate n b asked fair =
      asks_fate view honest made whole meets array dies seat asks apart laws leaves die task bytes a number h n b asked fair

  world : (n : ℕ) (b : Asking L I A) → Asks made array dies seat task bytes a n b → Fair b.house → HasWorld view dies b.house
  world n b asked fair = asks_world view honest made whole meets array dies seat asks.geometry apart task bytes a n b asked number fair h

  known : (n : ℕ) (b : Asking L I A) → Asks made array dies seat task bytes a n b → Fair b.house → IsKnown b.house.core die
  known n b asked fair = elim ((fate n b asked fair).lives here) [
    | inl still ↦
        let then = world n b asked fair in
        inl (
          still.0,
          subst (λ (c : Core). die < c.page_map.geometry.dies) then.stands.core
              (reached_inside laws.lives asks.geometry then.world then.reached die
              (ap (λ (c : Core). is_live c.page_map die) then.stands.core ∙ still.0.live)),
        )
    | inr left ↦ inr left.0
  ]

  pub asks_keeps : Keeps a.house.core.flushes die a.house.core a.stage → (n : ℕ) (b : Asking L I A)
      → Asks made array dies seat task bytes a n b → Fair b.house → Keeps a.house.core.flushes die b.house.core b.stage
  asks_keeps k n b Begins fair = k
  asks_keeps k n b (Turns turns middle new before turn) fair =
      let then : Fair middle.house = subst (λ (l : List I). AreHonest honest (image_on dies l)) turn.images fair in
      turn_keeps asks laws none_older a.house.core.flushes die task flushes middle.seat b.seat middle.house.core b.house.core middle.stage
      b.stage turn.turned (fate turns middle before then).flushes (known turns middle before then) (asks_keeps k turns middle before then)
  asks_keeps k n b (Readies turns middle new before ready) fair =
      let then : Fair middle.house = subst Fair ready.same_house fair in
      subst (λ (x : House I). Keeps a.house.core.flushes die x.core b.stage) (sym ready.same_house)
      (keeps_ready a.house.core.flushes die A task bytes middle.answer b.answer middle.house.core middle.stage b.stage
      (asks_keeps k turns middle before then) ready.prepares)
  asks_keeps k n b (Waits turns middle new before time) fair =
      let then = time_fair view honest made whole meets array dies seat asks apart laws leaves die task bytes middle b time fair in
      let later = time_fate view honest made whole meets array dies seat asks apart laws leaves die task bytes middle b time fair
      (world turns middle before then) in
      subst (λ (s : Stage A). Keeps a.house.core.flushes die b.house.core s) (sym time.stage)
      (keeps_waiting a.house.core.flushes die A middle.house.core b.house.core middle.stage (λ gone. (later.out gone).0) time.in_time
      (asks_keeps k turns middle before then))
  asks_keeps k n b (Refuses turns middle new before up) fair =
      let then : Fair middle.house = subst Fair up.same_house fair in
      subst (λ (x : House I). Keeps a.house.core.flushes die x.core b.stage) (sym up.same_house)
      (subst (λ (s : Stage A). Keeps a.house.core.flushes die middle.house.core s) (sym up.stage)
      (keeps_without_room a.house.core.flushes die A middle.house.core up.fault middle.stage (asks_keeps k turns middle before then)))
