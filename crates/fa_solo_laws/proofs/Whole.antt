-- A whole call of the store of one thread.
use Rattle.fa_solo_laws.specs.Begun.{IsCalm}
use Rattle.fa_solo_laws.specs.Calls.{HasBytes, call_of}
use Rattle.fa_solo_laws.specs.Shown.{store_of}
use Rattle.fa_solo_laws.proofs.Around.{IsKept, kept_same, serves_around}
use Rattle.fa_solo_laws.proofs.Behind.{IsBehind, StepLaws, cause_behind, order_behind, orders_free}
use Rattle.fa_solo_laws.proofs.DrivenDeeds.{requests_plain}
use Rattle.fa_solo_laws.proofs.Led.{fair_before}
use Rattle.fa_solo_laws.proofs.Quiet.{begun_inner, behind_inner, leads_before, leads_behind, orders_fair}
use Rattle.fa_solo_laws.proofs.Going.{Laws}
use Rattle.fa_solo_job.specs.Deeds.{IsForRequests}
use Rattle.fa_solo_laws.proofs.Served.{RequestLaws, request_fair, request_leads, request_served}
use Rattle.fa_solo_laws.specs.Driving.{image_on}
use Rattle.fa_solo_laws.specs.Standing.{IsCopyGivenUp, IsRequestGivenUp, IsWorldOf}
use Rattle.fa_mount_headers.specs.declared.judging.Standing.{Standing}
use Rattle.fa_image.specs.Image.{ImageAnswer, ImageCall, ImageMeets, ImageState, IsImage}
use Rattle.fa_machine.specs.State.{Core}
use Rattle.fa_machine.specs.World.{World}
use Rattle.fa_mount.specs.Standings.{AreApart}
use Rattle.fa_shared_steps.specs.Tasks.{end_of, task_of}
use Rattle.fa_shared_steps.specs.declared.request.Request.{Request}
use Rattle.fa_shared_steps.specs.declared.request.Task.{Task}
use Rattle.fa_mount_close_laws.specs.Drives.{AreHonest}
use Rattle.fa_shared_lock.specs.Seats.{number_of}
use Rattle.fa_solo.specs.Calls.{Made, MakesRequest, MakesWhole, NoMemory}
use Rattle.fa_solo_job.specs.Inner.{house_of}
use Rattle.fa_solo_job.specs.declared.inner.Inner.{Inner}
use Rattle.fa_types.specs.Store.{Answer, Done, Gave, HasCause, IsAnswer, Meets, Refused, Serves}
use Rattle.fa_types.specs.declared.blocks.BlockFault.{BlockFault}
use Rattle.fa_types.specs.declared.blocks.BlockFault.TheVariants.{Lost, NoMemory as OutOfMemory, NoRoom, Spent}
use Rattle.fa_types.specs.declared.geometry.Geometry.{Geometry}
use Rattle.std.proofs.Common.{Bool, List, None, ap, inl, inr, refl, subst, sym, ℕ, ◌*◌, ◌∙◌, ◌≡◌, ◌≤◌, ◌⊎◌}
use Rattle.std.proofs.lemmas.Option.{none-some}

calm_free : (w : World) → w.core.copying ≡ None → IsCalm w
calm_free w free copying is lost = none-some copying (sym free ∙ is)

-- the images of a call are those of the same dies
request_dies : {L M I A : Type 0} (made : I → ImageCall → ImageAnswer → I → Type 0) (task : Task) (bytes : List ℕ) (answer : Answer)
    (old new : Inner L M I A) → MakesRequest made task bytes answer old new → new.dies.items ≡ old.dies.items
request_dies {L} {M} {I} {A} made task bytes answer old new (NoMemory is some same) = ap (λ (r : Inner L M I A). r.dies.items) same
request_dies made task bytes answer old new (Made op next its_task stage none runs end) = runs.dies

pub call_dies : {L M I A : Type 0} (made : I → ImageCall → ImageAnswer → I → Type 0) (task : Task) (bytes : List ℕ) (answer : Answer)
    (old new : Inner L M I A) → MakesWhole made task bytes answer old new → new.dies.items ≡ old.dies.items
call_dies made task bytes answer old new call =
    call.behind.dies ∙ request_dies made task bytes answer call.begun call.done call.request ∙ call.before.dies

-- images that return what was written at a call's end did so before
module _ {L M I A : Type 0} (view : I → ImageState) (honest : I → Bool) (made : I → ImageCall → ImageAnswer → I → Type 0)
    (whole : (image : I) → IsImage (view image))
    (meets : (before after : I) (call : ImageCall) (answer : ImageAnswer) → made before call answer after
    → ImageMeets (view before) (honest before) call answer (view after) (honest after)) (laws : Laws) (task : Task) (bytes : List ℕ)
    (answer : Answer) (old new : Inner L M I A) (call : MakesWhole made task bytes answer old new) (apart : AreApart old.dies.items)
    (fair : AreHonest honest (image_on new.dies.items new.images.items)) where
  pub apart_begun : AreApart call.begun.dies.items
  apart_begun = subst (λ (d : List Standing). AreApart d) (sym call.before.dies) apart

  pub apart_done : AreApart call.done.dies.items
  apart_done = subst (λ (d : List Standing). AreApart d)
      (sym (request_dies made task bytes answer call.begun call.done call.request)) apart_begun

  pub fair_done : AreHonest honest (image_on call.done.dies.items call.done.images.items)
  fair_done = orders_fair view honest made whole meets call.done.locked.number call.done.dies.items (number_of call.done.seat) laws apart_done
      (house_of call.done) (house_of new) call.behind.orders
      (subst (λ (d : List Standing). AreHonest honest (image_on d new.images.items)) call.behind.dies fair)

  pub fair_begun : AreHonest honest (image_on call.begun.dies.items call.begun.images.items)
  fair_begun = request_fair view honest made whole meets laws.geometry call.begun call.done task bytes answer apart_begun fair_done call.request

  pub whole_fair : AreHonest honest (image_on old.dies.items old.images.items)
  whole_fair = fair_before view honest made whole meets old.locked.number old.dies.items (number_of old.seat) laws.geometry apart IsForRequests requests_plain
      (house_of old) (house_of call.begun) call.before.goes
      (subst (λ (d : List Standing). AreHonest honest (image_on d call.begun.images.items)) call.before.dies fair_begun)

-- whether there was no room
full_or : (answer : Answer) → (answer ≡ Refused NoRoom) ⊎ (answer ≡ Refused NoRoom → ⊥)
full_or (Refused NoRoom) = inl refl
full_or (Refused Lost) = inr (λ is. let e : Refused Lost ≡ Refused NoRoom = is in cc)
full_or (Refused OutOfMemory) = inr (λ is. let e : Refused OutOfMemory ≡ Refused NoRoom = is in cc)
full_or (Refused Spent) = inr (λ is. let e : Refused Spent ≡ Refused NoRoom = is in cc)
full_or Done = inr (λ is. let e : Done ≡ Refused NoRoom = is in cc)
full_or (Gave bytes) = inr (λ is. let e : Gave bytes ≡ Refused NoRoom = is in cc)

module _ {L M I A : Type 0} (view : I → ImageState) (honest : I → Bool) (made : I → ImageCall → ImageAnswer → I → Type 0)
    (whole : (image : I) → IsImage (view image))
    (meets : (before after : I) (call : ImageCall) (answer : ImageAnswer) → made before call answer after
    → ImageMeets (view before) (honest before) call answer (view after) (honest after)) (laws : StepLaws) (its : RequestLaws A) (old : Inner L M I A)
    (request : Request) (bytes : List ℕ) (answer : Answer) (w : World) (of_old : IsWorldOf view old w) (free : old.locked.core.copying ≡ None)
    (apart : AreApart old.dies.items)
    (inside : end_of request ≤ w.core.page_map.geometry.pages * w.core.page_map.geometry.page_bytes) (has : HasBytes request bytes)
    (fits : IsAnswer (call_of request bytes) answer) where
  abbrev shape : Geometry
  shape = w.core.page_map.geometry

  -- a request, by the array's shape
  abbrev Asked : Inner L M I A → Inner L M I A → Geometry → Type 0
  Asked begun done g = MakesRequest made (task_of g.page_bytes request) bytes answer begun done

  abbrev GivenUp : (begun done : Inner L M I A) → (g : Geometry) → Asked begun done g → Type 0
  GivenUp begun done g makes = IsRequestGivenUp made (task_of g.page_bytes request) bytes answer begun done makes

  abbrev task : Task
  task = task_of shape.page_bytes request

  -- a call that meets the store, or was given up
  pub record Met (new : Inner L M I A) (call : MakesWhole made task bytes answer old new) : Type 0 where
    pub last : World
    pub of_new : IsWorldOf view new last
    pub meets_it : Meets (store_of w) (call_of request bytes) answer (store_of last)
        ⊎ IsRequestGivenUp made task bytes answer call.begun call.done call.request
    pub free_new : (new.locked.core.copying ≡ None) ⊎ IsCopyGivenUp made task bytes answer old new call

  module _ (new : Inner L M I A) (call : MakesWhole made task bytes answer old new)
      (fair : AreHonest honest (image_on new.dies.items new.images.items)) where
    free_first : w.core.copying ≡ None
    free_first = ap (λ (c : Core). c.copying) of_old.core ∙ free

    apart_at : AreApart call.begun.dies.items
    apart_at = apart_begun view honest made whole meets laws.asks task bytes answer old new call apart fair

    fair_at : AreHonest honest (image_on call.done.dies.items call.done.images.items)
    fair_at = fair_done view honest made whole meets laws.asks task bytes answer old new call apart fair

    begun : (v : World) × IsWorldOf view call.begun v × IsKept (store_of w) (store_of v) × (v.core.copying ≡ None)
        × (v.core.page_map.geometry ≡ w.core.page_map.geometry)
    begun = begun_inner view honest made whole meets laws.asks old call.begun w of_old (calm_free w free_first) apart call.before
        (fair_begun view honest made whole meets laws.asks task bytes answer old new call apart fair) free_first

    -- the request, by the shape of the array as it begins
    abbrev Its : Geometry → Type 0
    Its g = (makes : Asked call.begun call.done g) × (GivenUp call.begun call.done g makes
        → IsRequestGivenUp made task bytes answer call.begun call.done call.request)

    asked : Its begun.0.core.page_map.geometry
    asked = subst Its (sym begun.4) (call.request, λ given_up. given_up)

    done : (v : World) × IsWorldOf view call.done v × (Serves (store_of begun.0) (call_of request bytes) answer (store_of v)
        ⊎ GivenUp call.begun call.done begun.0.core.page_map.geometry asked.0)
        × (begun.0.core.copying ≡ None → v.core.copying ≡ None) × (v.core.page_map.geometry ≡ begun.0.core.page_map.geometry)
    done = request_served view honest made whole meets laws.asks.geometry its call.begun call.done request bytes answer begun.0 begun.1
        (calm_free begun.0 begun.3) apart_at
        (subst (λ (g : Geometry). end_of request ≤ g.pages * g.page_bytes) (sym begun.4) inside) has fits fair_at asked.0

    free_done : done.0.core.copying ≡ None
    free_done = done.3 begun.3

    met_by : (v : World) → IsWorldOf view new v → IsKept (store_of done.0) (store_of v)
        → ((fault : BlockFault) → answer ≡ Refused fault → (offset len : ℕ) → HasCause (store_of done.0) offset len fault
        → HasCause (store_of v) offset len fault)
        → Met new call
    met_by v of_new kept causes = record {
      last = v;
      of_new = of_new;
      meets_it = elim done.2 [
        | inl serves ↦ inl (record {
          size = kept.size ∙ ap (λ (g : Geometry). g.pages * g.page_bytes) (done.4 ∙ begun.4);
          page_bytes = kept.page_bytes ∙ ap (λ (g : Geometry). g.page_bytes) (done.4 ∙ begun.4);
          alone = refl;
          gives = fits;
          served = λ alone. serves_around (store_of w) (store_of begun.0) (store_of done.0) (store_of v) begun.2 kept (call_of request bytes) answer causes
              serves;
        })
        | inr given_up ↦ inr (asked.1 given_up)
      ];
      free_new = orders_free made call.done.locked.number call.done.dies.items (number_of call.done.seat) (house_of call.done) (house_of new)
          call.behind.orders (ap (λ (c : Core). c.copying) (sym done.1.core) ∙ free_done);
    }

    pub call_meets : Met new call
    call_meets = elim (full_or answer) [
      | inl full ↦
          met_by done.0 (subst (λ (r : Inner L M I A). IsWorldOf view r done.0) (sym (call.full full)) done.1) (kept_same (store_of done.0))
          (λ fault is offset len cause. cause)
      | inr other ↦
          let l = behind_inner view honest made whole meets laws.asks call.done new done.0 done.1 (calm_free done.0 free_done)
          (apart_done view honest made whole meets laws.asks task bytes answer old new call apart fair) call.behind fair in
          met_by l.0 l.1 l.2
          (λ fault is offset len. cause_behind done.0 l.0 l.2
          (subst (λ (c : Core). IsBehind done.0.core c) (sym l.1.core)
          (subst (λ (c : Core). IsBehind c new.locked.core) (sym done.1.core)
          (order_behind laws made call.done.locked.number call.done.dies.items (number_of call.done.seat) (house_of call.done) (house_of new)
          call.behind.orders)))
          fault (λ room. other (is ∙ ap Refused room)) offset len)
    ]

-- A world that runs lead to, behind a whole call, whatever became of it.
pub call_leads : {L M I A : Type 0} (view : I → ImageState) (honest : I → Bool) (made : I → ImageCall → ImageAnswer → I → Type 0)
    (whole : (image : I) → IsImage (view image))
    (meets : (before after : I) (call : ImageCall) (answer : ImageAnswer) → made before call answer after
    → ImageMeets (view before) (honest before) call answer (view after) (honest after)) (laws : Laws) (its : RequestLaws A) (task : Task)
    (bytes : List ℕ) (answer : Answer) (old new : Inner L M I A) (call : MakesWhole made task bytes answer old new) (w : World)
    → IsWorldOf view old w → AreApart old.dies.items → AreHonest honest (image_on new.dies.items new.images.items)
    → (v : World) × IsWorldOf view new v
call_leads view honest made whole meets laws its task bytes answer old new call w of_old apart fair =
    let begun = leads_before view honest made whole meets laws old call.begun w of_old apart call.before
    (fair_begun view honest made whole meets laws task bytes answer old new call apart fair) in
    let done = request_leads view honest made whole meets laws.geometry its call.begun call.done task bytes answer begun.0 begun.1
    (apart_begun view honest made whole meets laws task bytes answer old new call apart fair)
    (fair_done view honest made whole meets laws task bytes answer old new call apart fair) call.request in
    leads_behind view honest made whole meets laws call.done new done.0 done.1
    (apart_done view honest made whole meets laws task bytes answer old new call apart fair) call.behind fair
