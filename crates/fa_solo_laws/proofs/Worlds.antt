-- What becomes of a die in the deeds of a store of one thread, over a world that runs lead to.
use Rattle.fa_solo_laws.proofs.ReadBack.{reached_on}
use Rattle.fa_solo_laws.proofs.Flushed.{asked_run}
use Rattle.fa_solo_laws.proofs.Going.{Laws}
use Rattle.fa_solo_laws.specs.Asked.{Moment, happenings_of}
use Rattle.fa_solo_laws.proofs.Asking.{went}
use Rattle.fa_solo_laws.proofs.Fates.{DieLaws, Fate, IsNoDone, event_fate, fate_on, its_first, its_image, job_fate, same_fate}
use Rattle.fa_solo_laws.proofs.Led.{Stands, deeds_led, fair_before, happens, images_kept, next, stands_next}
use Rattle.fa_solo_laws.proofs.Quiet.{copies_quiet}
use Rattle.fa_solo_laws.specs.Driving.{IsPlain, image_on}
use Rattle.fa_mount_headers.specs.declared.judging.Standing.{Standing}
use Rattle.fa_image.specs.Image.{ImageAnswer, ImageCall, ImageMeets, ImageState, IsImage}
use Rattle.fa_laws.proofs.Within.{GeometryLaw}
use Rattle.fa_laws.specs.Reached.{IsReached}
use Rattle.fa_machine.specs.Cells.{Fault}
use Rattle.fa_machine.specs.Run.{Event, HappensEvent, ImageCall as Calling}
use Rattle.fa_machine.specs.State.{Core, is_live}
use Rattle.fa_machine.specs.Step.{Act, Done, Step, Take}
use Rattle.fa_machine.specs.World.{IsTold, World, followed}
use Rattle.fa_mount.specs.Standings.{AreApart}
use Rattle.fa_shared_steps.specs.declared.request.Task.{Task}
use Rattle.fa_mount_close_laws.proofs.Following.{images_follow}
use Rattle.fa_mount_close_laws.proofs.JobCalls.{job_runs, value_here}
use Rattle.fa_mount_close_laws.specs.Drives.{AreHonest}
use Rattle.fa_mount_close_laws.specs.Images.{IsImageOf}
use Rattle.fa_shared_lock.specs.Seats.{number_of}
use Rattle.fa_solo_job.specs.Deeds.{Goes, Makes, MakesJob, Runs, Stays}
use Rattle.fa_solo_job.specs.House.{House}
use Rattle.fa_solo_job.specs.Orders.{CopiesPage}
use Rattle.fa_solo.specs.Turns.{Asking, Asks}
use Rattle.fa_core_outcome.specs.Fits.{IsJobFor}
use Rattle.fa_types.specs.declared.geometry.Geometry.{Geometry}
use Rattle.fa_jobs.specs.Made.{Ran}
use Rattle.std.proofs.Common.{Bool, IsTrue, List, Some, [], ap, false, map, refl, subst, suc, sym, true, ℕ, ◌∙◌, ◌∷◌, ◌≡◌}

-- a die that goes out does so as a job of it ends with a fault
abbrev pub LeavesLaw : Type 0
LeavesLaw = (w after : World) (act : Act) (die : ℕ) → IsReached w → HappensEvent w act after → is_live w.core.page_map die ≡ true
    → is_live after.core.page_map die ≡ false → (call : ℕ) × (act ≡ Done die (Fault call))

pub ends_none : (act : Act) → IsPlain act → IsNoDone act
ends_none (Done die outcome) plain = absurd plain
ends_none act plain = tt

-- a world that runs lead to, of an array with its images
pub record HasWorld {I : Type 0} (view : I → ImageState) (dies : List Standing) (house : House I) : Type 0 where
  pub world : World
  pub reached : IsReached world
  pub stands : Stands view dies house world

-- behind an event that takes no part in jobs
pub event_world : {I : Type 0} (view : I → ImageState) (dies : List Standing) → GeometryLaw → (old new : House I) (act : Act)
    → ((w : World) → IsTold w act) → ((w : World) → (followed act w).works ≡ w.works) → Step old.core act new.core → new.images ≡ old.images
    → HasWorld view dies old → HasWorld view dies new
event_world view dies law old new act told works step images h =
    let w = h.world in
    let v : World = next view dies law w old new act h.stands step images (told w) (works w) in
    record {
      world = v;
      reached = reached_on w h.reached (Event act ∷ []) v (v, happens view dies law w old new act h.stands step images (told w) (works w), refl);
      stands = stands_next view dies law w old new act h.stands step images (told w) (works w);
    }

module _ {I : Type 0} (view : I → ImageState) (honest : I → Bool) (made : I → ImageCall → ImageAnswer → I → Type 0)
    (whole : (image : I) → IsImage (view image))
    (meets : (before after : I) (call : ImageCall) (answer : ImageAnswer) → made before call answer after
    → ImageMeets (view before) (honest before) call answer (view after) (honest after)) (array : List ℕ) (dies : List Standing) (seat : ℕ)
    (geometry : GeometryLaw) (apart : AreApart dies) where
  abbrev pub IsFair : House I → Type 0
  IsFair house = AreHonest honest (image_on dies house.images)

  pub goes_world : (P : Act → Type 0) (plain : (act : Act) → P act → IsPlain act) (old new : House I) → Goes made array dies seat P old new
      → IsFair new → HasWorld view dies old → HasWorld view dies new
  goes_world P plain old new goes fair h =
      let one = deeds_led view honest made whole meets array dies seat geometry apart P plain old new goes fair h.world h.stands in
      record { world = one.last; reached = reached_on h.world h.reached one.happenings one.last one.run; stands = one.stands }

  -- behind a request
  pub asks_world : {L A : Type 0} (task : Task) (bytes : List ℕ) (a : Asking L I A) (n : ℕ) (b : Asking L I A)
      → Asks made array dies seat task bytes a n b → number_of a.seat ≡ seat → IsFair b.house → HasWorld view dies a.house
      → HasWorld view dies b.house
  asks_world {A = A} task bytes a n b asks number fair h =
      let one = went view honest made whole meets array dies seat geometry apart task bytes a n b asks h.world h.stands number fair in
      let before : Moment A = record { world = h.world; stage = a.stage; answer = a.answer } in
      let after : Moment A = record { world = one.last; stage = b.stage; answer = b.answer } in
      record {
        world = one.last;
        reached = reached_on h.world h.reached (happenings_of one.turns) one.last
            (asked_run A task seat bytes before one.turns after one.asked);
        stands = one.stands;
      }

  -- behind a page that is copied
  pub copies_world : Laws → (old new : House I) → CopiesPage made array dies seat old new → IsFair new → HasWorld view dies old
      → HasWorld view dies new
  copies_world laws old new c fair h =
      let one = copies_quiet view honest made whole meets array dies seat laws apart old new c fair h.world h.reached h.stands in
      record { world = one.last; reached = reached_on h.world h.reached one.happenings one.last one.run; stands = one.stands }

  -- A die that goes out as a job ends is the job's, and the job ends with a fault.
  job_leaves : LeavesLaw → (die d : ℕ) (old new : House I) (job : MakesJob made array dies seat d old new) → IsFair new
      → HasWorld view dies old
      → is_live job.taken.page_map die ≡ true → is_live new.core.page_map die ≡ false
      → (call : ℕ) × (Done d job.outcome ≡ Done die (Fault call))
  job_leaves law die d old new job fair h live gone =
      let w = h.world in
      let take : Act = Take d seat (Some job.job) in
      let v : World = record (followed take w) { core = job.taken; moment = suc w.moment } in
      let takes : HappensEvent w take v =
      record { step = subst (λ (c : Core). Step c take job.taken) (sym h.stands.core) job.takes; told = tt; follows = refl } in
      let shape : old.core.page_map.geometry ≡ job.taken.page_map.geometry = sym (geometry old.core job.taken take job.takes) in
      let here : image_on dies old.images d ≡ Some job.before =
      its_first dies old.images d job.index job.before job.after job.place job.image in
      let image : IsImageOf view v d job.before =
      images_kept view w v (image_on dies old.images) (images_follow take w)
      (sym shape ∙ sym (ap (λ (c : Core). c.page_map.geometry) h.stands.core)) h.stands.images d job.before here in
      let ran : Ran made job.taken.page_map.geometry array d job.job job.outcome job.before job.after =
      subst (λ (g : Geometry). Ran made g array d job.job job.outcome job.before job.after) shape job.ran in
      let fair_after : IsTrue (honest job.after) =
      fair d job.after (ap (λ (l : List I). image_on dies l d) job.images
      ∙ its_image dies old.images d job.index job.before job.after job.place job.image) in
      let calls = job_runs view honest made whole meets array d job.job v job.outcome job.before job.after
      (value_here d (Some (record { job = job.job; gave = [] })) w.works)
      (subst (λ (g : Geometry). IsJobFor g array d job.job) shape job.fits) image ran fair_after in
      let u = calls.0 in
      let same : u.core ≡ job.taken = ap (λ (x : World). x.core) calls.2.rest in
      let done : Act = Done d job.outcome in
      let x : World = record (followed done u) { core = new.core; moment = suc u.moment } in
      let ends : HappensEvent u done x =
      record { step = subst (λ (c : Core). Step c done new.core) (sym same) job.ends; told = calls.4; follows = refl } in
      law u x done die (reached_on w h.reached (Event take ∷ map (Calling d) ran.gave) u (v, takes, calls.1)) ends
      (ap (λ (c : Core). is_live c.page_map die) same ∙ live) gone

  -- what becomes of a die in some deeds
  module _ (laws : DieLaws) (leaves : LeavesLaw) (die : ℕ) (P : Act → Type 0) (plain : (act : Act) → P act → IsPlain act) where
    pub goes_fate : (old new : House I) → Goes made array dies seat P old new → IsFair new → HasWorld view dies old
        → Fate view dies die old new
    goes_fate old new Stays fair h = same_fate view dies die old old refl refl
    goes_fate old new (Makes middle here act goes may due step same) fair h =
        let fair_then : IsFair middle = subst (λ (l : List I). AreHonest honest (image_on dies l)) same fair in
        fate_on view dies die old middle new (goes_fate old middle goes fair_then h)
        (event_fate view dies die laws middle new act (ends_none act (plain act may)) step same)
    goes_fate old new (Runs middle here d goes job) fair h =
        let fair_then : IsFair middle = fair_before view honest made whole meets array dies seat geometry apart P plain middle new
        (Runs middle new d Stays job) fair in
        fate_on view dies die old middle new (goes_fate old middle goes fair_then h)
        (job_fate view honest made meets array dies seat laws apart die d middle new job
        (job_leaves leaves die d middle new job fair (goes_world P plain old middle goes fair_then h)))
