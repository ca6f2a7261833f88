-- A call of the store of one thread with a flush that is accepted, over a world: a run in which the flush was begun and answered as synced, and
-- from its beginning on nothing was written.
use Rattle.fa_crash.proofs.Among.{alone_flushed, before_first}
use Rattle.fa_crash.proofs.Begun.{IsSynced, synced_between}
use Rattle.fa_crash.specs.Among.{IsBeforeFlush}
use Rattle.fa_image.specs.Image.{ImageAnswer, ImageCall, ImageMeets, ImageState, IsImage}
use Rattle.fa_laws.proofs.Runs.{runs_on}
use Rattle.fa_laws.specs.Reached.{IsReached}
use Rattle.fa_machine.specs.Run.{Happening, Run}
use Rattle.fa_machine.specs.World.{World}
use Rattle.fa_mount.specs.Standings.{AreApart}
use Rattle.fa_mount_close_laws.specs.Drives.{AreHonest, AreImages}
use Rattle.fa_mount_headers.specs.declared.judging.Standing.{Standing}
use Rattle.fa_shared_lock.specs.Seats.{number_of}
use Rattle.fa_shared_request.specs.Ops.{answer_of, stage_of, task_in}
use Rattle.fa_shared_steps.specs.declared.request.Task.{Task}
use Rattle.fa_shared_steps.specs.declared.stage.Stage.{Stage}
use Rattle.fa_solo.specs.Calls.{Made, MakesRequest, MakesWhole, NoMemory}
use Rattle.fa_solo.specs.Turns.{asking_of}
use Rattle.fa_solo_job.specs.Deeds.{IsForRequests}
use Rattle.fa_solo_job.specs.Inner.{house_of}
use Rattle.fa_solo_job.specs.declared.inner.Inner.{Inner}
use Rattle.fa_solo_laws.proofs.Asking.{went}
use Rattle.fa_solo_laws.proofs.DrivenDeeds.{requests_plain}
use Rattle.fa_solo_laws.proofs.Flushed.{asked_run}
use Rattle.fa_solo_laws.proofs.Going.{Laws}
use Rattle.fa_solo_laws.proofs.Led.{Led, Stands, deeds_led}
use Rattle.fa_solo_laws.proofs.Quiet.{Quiet, orders_quiet}
use Rattle.fa_solo_laws.proofs.ReadBack.{reached_on}
use Rattle.fa_solo_laws.proofs.Served.{ended_at}
use Rattle.fa_solo_laws.proofs.Whole.{apart_begun, apart_done, fair_begun, fair_done}
use Rattle.fa_solo_laws.specs.Asked.{Moment, happenings_of}
use Rattle.fa_solo_laws.specs.Driving.{image_on}
use Rattle.fa_solo_laws.specs.Standing.{IsWorldOf}
use Rattle.fa_solo_laws.specs.Unwritten.{WritesNothing}
use Rattle.fa_types.specs.Store.{Done, Refused}
use Rattle.fa_types.specs.declared.blocks.BlockFault.TheVariants.{NoMemory as OutOfMemory}
use Rattle.std.proofs.Common.{Bool, List, None, refl, subst, sym, true, ℕ, ◌++◌, ◌≡◌}

module _ {L M I A : Type 0} (view : I → ImageState) (honest : I → Bool) (made : I → ImageCall → ImageAnswer → I → Type 0)
    (whole : (image : I) → IsImage (view image))
    (meets : (before after : I) (call : ImageCall) (answer : ImageAnswer) → made before call answer after
    → ImageMeets (view before) (honest before) call answer (view after) (honest after)) (laws : Laws) (task : Task) (bytes : List ℕ)
    (flushes : task.flush ≡ true) where
  -- the run of a request that was accepted
  record Requested (old new : Inner L M I A) (w : World) : Type 0 where
    last : World
    happenings : List Happening
    run : Run w happenings last
    stands : Stands view new.dies.items (house_of new) last
    flushed : IsSynced WritesNothing happenings

  requested : (old new : Inner L M I A) → AreApart old.dies.items → AreHonest honest (image_on new.dies.items new.images.items) → (w : World)
      → Stands view old.dies.items (house_of old) w → MakesRequest made task bytes Done old new → Requested old new w
  requested old new apart fair w stands (NoMemory is some same) = absurd (let other : Done ≡ Refused OutOfMemory = is in cc)
  requested old new apart fair w stands (Made op next its stage none runs end) =
      let one = went view honest made whole meets old.locked.number old.dies.items (number_of old.seat) laws.geometry apart (task_in op) bytes
      (asking_of old op) runs.turns (asking_of new next) runs.asks w stands refl
      (subst (λ (d : List Standing). AreHonest honest (image_on d new.images.items)) runs.dies fair) in
      let before : Moment A = record { world = w; stage = stage_of op; answer = answer_of op } in
      let after : Moment A = record { world = one.last; stage = stage_of next; answer = answer_of next } in
      record {
        last = one.last;
        happenings = happenings_of one.turns;
        run = asked_run A (task_in op) (number_of old.seat) bytes before one.turns after one.asked;
        stands = subst (λ (d : List Standing). Stands view d (house_of new) one.last) (sym runs.dies) one.stands;
        flushed = alone_flushed A (task_in op) (number_of old.seat) bytes (subst (λ (t : Task). t.flush ≡ true) (sym its) flushes) before one.turns
            after (subst (λ (s : Stage A). IsBeforeFlush s) (sym stage) (before_first A task flushes)) one.asked
            (ended_at (stage_of next) None end);
      }

  -- the run of the whole call
  pub record Called (new : Inner L M I A) (w : World) : Type 0 where
    pub last : World
    pub happenings : List Happening
    pub run : Run w happenings last
    pub of_new : IsWorldOf view new last
    pub flushed : IsSynced WritesNothing happenings

  module _ (old new : Inner L M I A) (w : World) (of_old : IsWorldOf view old w) (apart : AreApart old.dies.items)
      (call : MakesWhole made task bytes Done old new) (fair : AreHonest honest (image_on new.dies.items new.images.items)) where
    begun : Led view honest made whole meets old.locked.number old.dies.items (number_of old.seat) laws.geometry apart IsForRequests requests_plain w
        (house_of call.begun)
    begun = deeds_led view honest made whole meets old.locked.number old.dies.items (number_of old.seat) laws.geometry apart IsForRequests
        requests_plain (house_of old) (house_of call.begun) call.before.goes
        (subst (λ (d : List Standing). AreHonest honest (image_on d call.begun.images.items)) call.before.dies
        (fair_begun view honest made whole meets laws task bytes Done old new call apart fair)) w
        (record { core = of_old.core; images = of_old.images; idle = of_old.idle })

    asked : Requested call.begun call.done begun.last
    asked = requested call.begun call.done (apart_begun view honest made whole meets laws task bytes Done old new call apart fair)
        (fair_done view honest made whole meets laws task bytes Done old new call apart fair) begun.last
        (subst (λ (d : List Standing). Stands view d (house_of call.begun) begun.last) (sym call.before.dies) begun.stands) call.request

    reached_done : IsReached asked.last
    reached_done = reached_on begun.last (reached_on w of_old.reached begun.happenings begun.last begun.run) asked.happenings asked.last asked.run

    behind : Quiet view call.done.dies.items asked.last (house_of new)
    behind = orders_quiet view honest made whole meets call.done.locked.number call.done.dies.items (number_of call.done.seat) laws
        (apart_done view honest made whole meets laws task bytes Done old new call apart fair) (house_of call.done) asked.last reached_done
        asked.stands (house_of new) call.behind.orders
        (subst (λ (d : List Standing). AreHonest honest (image_on d new.images.items)) call.behind.dies fair)

    pub called : Called new w
    called = record {
      last = behind.last;
      happenings = begun.happenings ++ (asked.happenings ++ behind.happenings);
      run = runs_on w begun.happenings begun.last (asked.happenings ++ behind.happenings) behind.last begun.run
          (runs_on begun.last asked.happenings asked.last behind.happenings behind.last asked.run behind.run);
      of_new = record {
        reached = reached_on asked.last reached_done behind.happenings behind.last behind.run;
        core = behind.stands.core;
        images = subst (λ (d : List Standing). AreImages view behind.last (image_on d new.images.items)) (sym call.behind.dies)
            behind.stands.images;
        idle = behind.stands.idle;
      };
      flushed = synced_between WritesNothing begun.happenings asked.happenings behind.happenings asked.flushed behind.none;
    }
