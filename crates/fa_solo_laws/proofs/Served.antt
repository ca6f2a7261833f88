-- A request of the store of one thread serves.
use Rattle.fa_solo_laws.specs.Asked.{Asked, Moment, Turn}
use Rattle.fa_solo_laws.specs.Begun.{HasBegun, IsCalm}
use Rattle.fa_solo_laws.specs.Calls.{HasBytes, answer_of as answer_at, call_of}
use Rattle.fa_solo_laws.specs.Shown.{store_of}
use Rattle.fa_solo_laws.proofs.Asking.{Went, asks_fair, went}
use Rattle.fa_solo_laws.proofs.Led.{Stands}
use Rattle.fa_solo_laws.specs.Driving.{image_on}
use Rattle.fa_solo_laws.specs.Standing.{IsRequestGivenUp, IsWorldOf}
use Rattle.fa_mount_headers.specs.declared.judging.Standing.{Standing}
use Rattle.fa_image.specs.Image.{ImageAnswer, ImageCall, ImageMeets, ImageState, IsImage}
use Rattle.fa_laws.proofs.Within.{GeometryLaw}
use Rattle.fa_laws.specs.Reached.{IsReached}
use Rattle.fa_machine.specs.World.{World}
use Rattle.fa_mount.specs.Standings.{AreApart}
use Rattle.fa_shared_request.specs.Ops.{OpView, answer_of, ended, stage_of, task_in}
use Rattle.fa_shared_steps.specs.Stages.{beginning}
use Rattle.fa_shared_steps.specs.Tasks.{answered, end_of, task_of}
use Rattle.fa_shared_steps.specs.declared.request.Request.{Request}
use Rattle.fa_shared_steps.specs.declared.request.Request.TheVariants.{Read, Write, Zero, Trim, Flush}
use Rattle.fa_shared_steps.specs.declared.request.Task.{Task}
use Rattle.fa_shared_steps.specs.declared.stage.Stage.{Stage}
use Rattle.fa_shared_steps.specs.declared.stage.Stage.TheVariants.{Ended}
use Rattle.fa_mount_close_laws.specs.Drives.{AreHonest, AreImages}
use Rattle.fa_shared_lock.specs.Seats.{number_of}
use Rattle.fa_solo.specs.Calls.{Ended as EndedSo, Endless, EndsBy, IsRefused, Made, MakesRequest, NoMemory, OfOtherLength}
use Rattle.fa_solo.specs.Calls.{WithoutMemory, WithoutRoom}
use Rattle.fa_solo_job.specs.Inner.{house_of}
use Rattle.fa_solo.specs.Turns.{RunsOn, asking_of}
use Rattle.fa_solo_job.specs.declared.inner.Inner.{Inner}
use Rattle.fa_types.specs.Store.{Answer, Done, Gave, IsAnswer, Meets, Refused, Serves, Store}
use Rattle.fa_types.specs.declared.blocks.BlockFault.{BlockFault}
use Rattle.fa_types.specs.declared.blocks.BlockFault.TheVariants.{Lost, NoMemory as OutOfMemory, NoRoom}
use Rattle.std.proofs.Common.{Bool, List, None, Option, Some, [], ap, arith, false, inl, inr, length, refl, subst, sym, true, ℕ}
use Rattle.std.proofs.Common.{◌*◌, ◌-◌, ◌^◌, ◌<◌, ◌≤◌, ◌∙◌, ◌≡◌, ◌⊎◌}
use Rattle.std.proofs.lemmas.Bool.{false≢true}
use Rattle.std.proofs.lemmas.Option.{none-some, same_Some}

-- the laws of requests that nobody else writes beside
pub record RequestLaws (A : Type 0) : Type 0 where
  pub serves : (request : Request) (seat : ℕ) (bytes : List ℕ) (before after : Moment A) (turns : List Turn) (end : Option BlockFault)
      → HasBegun request before → HasBytes request bytes
      → Asked (task_of before.world.core.page_map.geometry.page_bytes request) seat bytes before turns after → after.stage ≡ Ended end
      → Serves (store_of before.world) (call_of request bytes) (answer_at request end after.answer) (store_of after.world)
  pub meets : (request : Request) (seat : ℕ) (bytes : List ℕ) (before after : Moment A) (turns : List Turn) (end : Option BlockFault)
      → HasBegun request before → HasBytes request bytes
      → Asked (task_of before.world.core.page_map.geometry.page_bytes request) seat bytes before turns after → after.stage ≡ Ended end
      → Meets (store_of before.world) (call_of request bytes) (answer_at request end after.answer) (store_of after.world)
  pub reached : (t : Task) (seat : ℕ) (bytes : List ℕ) (before after : Moment A) (turns : List Turn) → IsReached before.world
      → Asked t seat bytes before turns after → IsReached after.world

-- a stage that is an end
pub ended_at : {A : Type 0} (stage : Stage A) (end : Option BlockFault) → ended stage ≡ Some end → stage ≡ Ended end
ended_at (Ended fault) end is = ap Ended (same_Some fault end is)
ended_at stage end is = absurd (none-some end is)

-- A refusal whose cause is no want of turns is one behind any number of them.
refused_or : {A : Type 0} (fault : BlockFault) (turns : ℕ) (op : OpView A) → IsRefused fault turns op
    → IsRefused fault 0 op ⊎ ((2 ^ 64 - 1 ≤ turns) × (Refused fault ≡ Refused Lost))
refused_or fault turns op (EndedSo is) = inl (EndedSo is)
refused_or fault turns op (OfOtherLength is fill flush end other) = inl (OfOtherLength is fill flush end other)
refused_or fault turns op (WithoutRoom is fill end) = inl (WithoutRoom is fill end)
refused_or fault turns op (WithoutMemory is fill flush end) = inl (WithoutMemory is fill flush end)
refused_or fault turns op (Endless is most) = inr (most, ap Refused is)

-- The same of how a request ends.
ends_or : {A : Type 0} (answer : Answer) (turns : ℕ) (op : OpView A) → EndsBy answer turns op
    → EndsBy answer 0 op ⊎ ((2 ^ 64 - 1 ≤ turns) × (answer ≡ Refused Lost))
ends_or (Gave bytes) turns op end = inl end
ends_or Done turns op end = inl end
ends_or (Refused fault) turns op end = refused_or fault turns op end

-- what a request that has ended is answered
by_answer : (request : Request) (bytes given : List ℕ) (before after : Store) (answer : Answer) → IsAnswer (call_of request bytes) answer
    → (done : answer ≡ Done → Serves before (call_of request bytes) (answer_at request None given) after)
    → (gave : (it : List ℕ) → answer ≡ Gave it → (given ≡ it) × Serves before (call_of request bytes) (answer_at request None given) after)
    → (refused : (fault : BlockFault) → answer ≡ Refused fault → Serves before (call_of request bytes) (Refused fault) after)
    → Serves before (call_of request bytes) answer after
by_answer (Read offset len) bytes given before after Done fits done gave refused = absurd fits
by_answer (Write offset len fua) bytes given before after Done fits done gave refused = done refl
by_answer (Zero offset len fua hole) bytes given before after Done fits done gave refused = done refl
by_answer (Trim offset len fua) bytes given before after Done fits done gave refused = done refl
by_answer Flush bytes given before after Done fits done gave refused = done refl
by_answer (Read offset len) bytes given before after (Gave it) fits done gave refused =
    let one = gave it refl in
    subst (λ (l : List ℕ). Serves before (call_of (Read offset len) bytes) (Gave l) after) one.0 one.1
by_answer (Write offset len fua) bytes given before after (Gave it) fits done gave refused = absurd fits
by_answer (Zero offset len fua hole) bytes given before after (Gave it) fits done gave refused = absurd fits
by_answer (Trim offset len fua) bytes given before after (Gave it) fits done gave refused = absurd fits
by_answer Flush bytes given before after (Gave it) fits done gave refused = absurd fits
by_answer request bytes given before after (Refused fault) fits done gave refused = refused fault refl

-- a request that answers some bytes is a read
unmade : (request : Request) (page_bytes : ℕ) (bytes : List ℕ) (store : Store) → 0 < answered (task_of page_bytes request)
    → Serves store (call_of request bytes) (Refused OutOfMemory) store
unmade (Read offset len) page_bytes bytes store some = (tt, record { content = λ i within here. refl; lost = λ page is. is })
unmade (Write offset len fua) page_bytes bytes store some = absurd (omega (arith, some))
unmade (Zero offset len fua hole) page_bytes bytes store some = absurd (omega (arith, some))
unmade (Trim offset len fua) page_bytes bytes store some = absurd (omega (arith, some))
unmade Flush page_bytes bytes store some = absurd (omega (arith, some))

-- no read and no flush ends for want of room, and no flush for want of memory
no_room : (request : Request) (page_bytes : ℕ) (bytes : List ℕ) → (task_of page_bytes request).fill ≡ None
    → IsAnswer (call_of request bytes) (Refused NoRoom) → ⊥
no_room (Read offset len) page_bytes bytes fill fits = fits
no_room (Write offset len fua) page_bytes bytes fill fits = none-some _ (sym fill)
no_room (Zero offset len fua hole) page_bytes bytes fill fits = none-some _ (sym fill)
no_room (Trim offset len fua) page_bytes bytes fill fits = none-some _ (sym fill)
no_room Flush page_bytes bytes fill fits = fits

no_memory : (request : Request) (page_bytes : ℕ) (bytes : List ℕ) → (task_of page_bytes request).fill ≡ None
    → (task_of page_bytes request).flush ≡ true → IsAnswer (call_of request bytes) (Refused OutOfMemory) → ⊥
no_memory (Read offset len) page_bytes bytes fill flush fits = false≢true flush
no_memory (Write offset len fua) page_bytes bytes fill flush fits = none-some _ (sym fill)
no_memory (Zero offset len fua hole) page_bytes bytes fill flush fits = none-some _ (sym fill)
no_memory (Trim offset len fua) page_bytes bytes fill flush fits = none-some _ (sym fill)
no_memory Flush page_bytes bytes fill flush fits = fits

-- a read that has ended with no fault has an answer of its length
its_length : (request : Request) (page_bytes : ℕ) (bytes given : List ℕ) → (task_of page_bytes request).fill ≡ None
    → (task_of page_bytes request).flush ≡ false → IsAnswer (call_of request bytes) (answer_at request None given)
    → length given ≡ answered (task_of page_bytes request)
its_length (Read offset len) page_bytes bytes given fill flush fits = omega (arith, fits)
its_length (Write offset len fua) page_bytes bytes given fill flush fits = absurd (none-some _ (sym fill))
its_length (Zero offset len fua hole) page_bytes bytes given fill flush fits = absurd (none-some _ (sym fill))
its_length (Trim offset len fua) page_bytes bytes given fill flush fits = absurd (none-some _ (sym fill))
its_length Flush page_bytes bytes given fill flush fits = absurd (false≢true (sym flush))

module _ {L M I A : Type 0} (view : I → ImageState) (honest : I → Bool) (made : I → ImageCall → ImageAnswer → I → Type 0)
    (whole : (image : I) → IsImage (view image))
    (meets : (before after : I) (call : ImageCall) (answer : ImageAnswer) → made before call answer after
    → ImageMeets (view before) (honest before) call answer (view after) (honest after)) (law : GeometryLaw) (laws : RequestLaws A)
    (old new : Inner L M I A) (request : Request) (bytes : List ℕ) (answer : Answer) (w : World) (of_old : IsWorldOf view old w) (calm : IsCalm w)
    (apart : AreApart old.dies.items)
    (inside : end_of request ≤ w.core.page_map.geometry.pages * w.core.page_map.geometry.page_bytes) (has : HasBytes request bytes)
    (fits : IsAnswer (call_of request bytes) answer) (fair : AreHonest honest (image_on new.dies.items new.images.items)) where
  abbrev size : ℕ
  size = w.core.page_map.geometry.page_bytes

  -- how a request that went to its end serves
  module _ (op next : OpView A) (task : task_in op ≡ task_of size request) (stage : stage_of op ≡ beginning (task_of size request))
      (none : answer_of op ≡ []) (runs : RunsOn made bytes old op new next) where
    stands : Stands view old.dies.items (house_of old) w
    stands = record { core = of_old.core; images = of_old.images; idle = of_old.idle }

    one : Went view honest made whole meets old.locked.number old.dies.items (number_of old.seat) law apart (task_in op) bytes (asking_of old op) w
        (asking_of new next)
    one = went view honest made whole meets old.locked.number old.dies.items (number_of old.seat) law apart (task_in op) bytes
        (asking_of old op) runs.turns (asking_of new next) runs.asks w stands refl
        (subst (λ (d : List Standing). AreHonest honest (image_on d new.images.items)) runs.dies fair)

    abbrev before : Moment A
    before = record { world = w; stage = stage_of op; answer = answer_of op }

    abbrev after : Moment A
    after = record { world = one.last; stage = stage_of next; answer = answer_of next }

    asked : Asked (task_of size request) (number_of old.seat) bytes before one.turns after
    asked = subst (λ (t : Task). Asked t (number_of old.seat) bytes before one.turns after) task one.asked

    begun : HasBegun request before
    begun = record { reached = of_old.reached; calm = calm; inside = inside; stage = stage; answer = none }

    its_task : task_in next ≡ task_of size request
    its_task = runs.counts.task ∙ task

    world_of : IsWorldOf view new one.last
    world_of = record {
      reached = laws.reached (task_of size request) (number_of old.seat) bytes before after one.turns of_old.reached asked;
      core = one.stands.core;
      images = subst (λ (d : List Standing). AreImages view one.last (image_on d new.images.items)) (sym runs.dies) one.stands.images;
      idle = one.stands.idle;
    }

    serves_so : (end : Option BlockFault) → ended (stage_of next) ≡ Some end
        → Serves (store_of w) (call_of request bytes) (answer_at request end (answer_of next)) (store_of one.last)
    serves_so end is = laws.serves request (number_of old.seat) bytes before after one.turns end begun has asked (ended_at (stage_of next) end is)

    gives_so : (end : Option BlockFault) → ended (stage_of next) ≡ Some end
        → IsAnswer (call_of request bytes) (answer_at request end (answer_of next))
    gives_so end is =
        (laws.meets request (number_of old.seat) bytes before after one.turns end begun has asked (ended_at (stage_of next) end is)).gives

    refused : (fault : BlockFault) → IsRefused fault 0 next
        → Serves (store_of w) (call_of request bytes) (Refused fault) (store_of one.last)
    refused fault (EndedSo is) = serves_so (Some fault) is
    refused fault (OfOtherLength is fill flush end other) =
        absurd (other (its_length request size bytes (answer_of next) (subst (λ (t : Task). t.fill ≡ None) its_task fill)
        (subst (λ (t : Task). t.flush ≡ false) its_task flush) (gives_so None end) ∙ ap answered (sym its_task)))
    refused fault (WithoutRoom is fill end) =
        absurd (no_room request size bytes (subst (λ (t : Task). t.fill ≡ None) its_task fill) (gives_so (Some NoRoom) end))
    refused fault (WithoutMemory is fill flush end) =
        absurd (no_memory request size bytes (subst (λ (t : Task). t.fill ≡ None) its_task fill)
        (subst (λ (t : Task). t.flush ≡ true) its_task flush) (gives_so (Some OutOfMemory) end))
    refused fault (Endless is most) = absurd (omega (arith, most))

    serves_by : EndsBy answer 0 next → Serves (store_of w) (call_of request bytes) answer (store_of one.last)
    serves_by end =
        by_answer request bytes (answer_of next) (store_of w) (store_of one.last) answer fits
        (λ is. serves_so None (subst (λ (a : Answer). EndsBy a 0 next) is end))
        (λ it is. let gave = subst (λ (a : Answer). EndsBy a 0 next) is end in (gave.1, serves_so None gave.0))
        (λ fault is. refused fault (subst (λ (a : Answer). EndsBy a 0 next) is end))

  pub request_served : (makes : MakesRequest made (task_of size request) bytes answer old new)
      → (v : World) × IsWorldOf view new v × (Serves (store_of w) (call_of request bytes) answer (store_of v)
      ⊎ IsRequestGivenUp made (task_of size request) bytes answer old new makes)
      × (w.core.copying ≡ None → v.core.copying ≡ None) × (v.core.page_map.geometry ≡ w.core.page_map.geometry)
  request_served (NoMemory is some same) = (
    w,
    subst (λ (r : Inner L M I A). IsWorldOf view r w) (sym same) of_old,
    inl (subst (λ (a : Answer). Serves (store_of w) (call_of request bytes) a (store_of w)) (sym is) (unmade request size bytes (store_of w) some)),
    λ free. free,
    refl,
  )
  request_served (Made op next task stage none runs end) = (
    (one op next task stage none runs).last,
    world_of op next task stage none runs,
    elim (ends_or answer runs.turns next end) [
      | inl ends ↦ inl (serves_by op next task stage none runs ends)
      | inr given_up ↦ inr given_up
    ],
    (one op next task stage none runs).free,
    (one op next task stage none runs).shape,
  )

-- A world that runs lead to, behind a request, whatever became of it. A lost page may be copied meanwhile.
pub request_leads : {L M I A : Type 0} (view : I → ImageState) (honest : I → Bool) (made : I → ImageCall → ImageAnswer → I → Type 0)
    (whole : (image : I) → IsImage (view image))
    (meets : (before after : I) (call : ImageCall) (answer : ImageAnswer) → made before call answer after
    → ImageMeets (view before) (honest before) call answer (view after) (honest after)) (law : GeometryLaw) (laws : RequestLaws A)
    (old new : Inner L M I A) (task : Task) (bytes : List ℕ) (answer : Answer) (w : World) → IsWorldOf view old w → AreApart old.dies.items
    → AreHonest honest (image_on new.dies.items new.images.items) → MakesRequest made task bytes answer old new
    → (v : World) × IsWorldOf view new v
request_leads {L} {M} {I} {A} view honest made whole meets law laws old new task bytes answer w of_old apart fair (NoMemory is some same) =
    (w, subst (λ (r : Inner L M I A). IsWorldOf view r w) (sym same) of_old)
request_leads view honest made whole meets law laws old new task bytes answer w of_old apart fair (Made op next same_task stage none runs end) =
    let one = went view honest made whole meets old.locked.number old.dies.items (number_of old.seat) law apart (task_in op) bytes
    (asking_of old op) runs.turns (asking_of new next) runs.asks w
    (record { core = of_old.core; images = of_old.images; idle = of_old.idle }) refl
    (subst (λ (d : List Standing). AreHonest honest (image_on d new.images.items)) runs.dies fair) in (
      one.last,
      record {
        reached = laws.reached (task_in op) (number_of old.seat) bytes (record { world = w; stage = stage_of op; answer = answer_of op })
            (record { world = one.last; stage = stage_of next; answer = answer_of next }) one.turns of_old.reached one.asked;
        core = one.stands.core;
        images = subst (λ (d : List Standing). AreImages view one.last (image_on d new.images.items)) (sym runs.dies) one.stands.images;
        idle = one.stands.idle;
      },
    )

-- images that return what was written at a request's end did so at its beginning
pub request_fair : {L M I A : Type 0} (view : I → ImageState) (honest : I → Bool) (made : I → ImageCall → ImageAnswer → I → Type 0)
    (whole : (image : I) → IsImage (view image))
    (meets : (before after : I) (call : ImageCall) (answer : ImageAnswer) → made before call answer after
    → ImageMeets (view before) (honest before) call answer (view after) (honest after)) (law : GeometryLaw) (old new : Inner L M I A) (task : Task)
    (bytes : List ℕ) (answer : Answer) → AreApart old.dies.items → AreHonest honest (image_on new.dies.items new.images.items)
    → MakesRequest made task bytes answer old new → AreHonest honest (image_on old.dies.items old.images.items)
request_fair {L} {M} {I} {A} view honest made whole meets law old new task bytes answer apart fair (NoMemory is some same) =
    subst (λ (r : Inner L M I A). AreHonest honest (image_on r.dies.items r.images.items)) same fair
request_fair view honest made whole meets law old new task bytes answer apart fair (Made op next same_task stage none runs end) =
    asks_fair view honest made whole meets old.locked.number old.dies.items (number_of old.seat) law apart (task_in op) bytes (asking_of old op)
    runs.turns (asking_of new next) runs.asks (subst (λ (d : List Standing). AreHonest honest (image_on d new.images.items)) runs.dies fair)
