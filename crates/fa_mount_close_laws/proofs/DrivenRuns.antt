-- What drives an array over images is a run of its machine.
use Rattle.fa_image.specs.Image.{ImageAnswer, ImageCall, ImageMeets, ImageState, IsImage, slot_at}
use Rattle.fa_laws.proofs.Within.{GeometryLaw}
use Rattle.fa_machine.specs.Beginning.{IsBeginning}
use Rattle.fa_machine.specs.Cells.{Cell, Outcome}
use Rattle.fa_machine.specs.Collecting.{is_in_block}
use Rattle.fa_machine.specs.Run.{CallsNext, Event, Happening, Happens, HappensEvent, ImageCall as Calling, Run}
use Rattle.fa_machine.specs.State.{Core}
use Rattle.fa_machine.specs.Step.{Act, Done, Step}
use Rattle.fa_machine.specs.Taking.{Handed}
use Rattle.fa_machine.specs.World.{Calls, DieImage, ErasesBlock, Gave, JobCall, ProgramsSlot, ReadsSlot, Refused, Syncs, Work, World}
use Rattle.fa_machine.specs.World.{WritesHeader, followed, next_call, outcome_of, with_cell, with_value}
use Rattle.fa_mount_close_laws.proofs.Following.{AreWorks, IsGiven, changed_given, given_follow, images_follow, is_told, told_follows, works_follow}
use Rattle.fa_mount_close_laws.proofs.JobCalls.{all_and, one_runs, value_here, value_other, was_honest}
use Rattle.fa_mount_close_laws.proofs.OneCall.{IsSomeCell}
use Rattle.fa_mount_close_laws.specs.Drives.{AreHonest, AreImages, Drive, Driven, Drives, HasEvent, IsOwed, Makes, MakesCall, MakesEvent}
use Rattle.fa_mount_close_laws.specs.Drives.{MakesNext, OnlyMade, RefusesCall, RefusesNext}
use Rattle.fa_mount_close_laws.specs.Drives.{acts_of, beginning, events_of, told_by, works_after}
use Rattle.fa_mount_close_laws.specs.Images.{IsImageOf, OnlyCalled}
use Rattle.fa_mount_scan.specs.ContentCells.{IsCellOf}
use Rattle.fa_core_outcome.specs.Fits.{IsJobFor}
use Rattle.fa_types.specs.declared.geometry.Geometry.{Geometry}
use Rattle.fa_jobs.specs.Made.{MakesCall as MakesJobCall, MakesCalls, Ran}
use Rattle.std.proofs.Common.{Bool, IsTrue, List, Option, Some, [], ap, false, inl, inr, map, refl, subst, suc, sym, true, ℕ, ◌*◌, ◌++◌, ◌<◌}
use Rattle.std.proofs.Common.{append_assoc, ◌==◌, ◌∙◌, ◌∷◌, ◌≡◌}
use Rattle.std.proofs.lemmas.Bool.{cases_eq, eqb-true}
use Rattle.std.proofs.lemmas.List.{append-nil}
use Rattle.std.proofs.lemmas.Option.{same_Some}
use Rattle.std.specs.List.{AllByRecursion}
use Rattle.std.specs.Prelude.{if◌then◌else◌, option_and_then, option_map}

-- a refused call that changed nothing
record Unmade (is_of : ℕ → ℕ → Bool) (call : JobCall) (image : DieImage) : Type 0 where
  pub next : DieImage
  pub calls : Calls is_of call Refused image next
  pub seen : (slot : ℕ) → next.seen slot ≡ image.seen slot
  pub header : next.header ≡ image.header

either_way : (b : Bool) (x y : Cell) → (b ≡ true → x ≡ y) → (if b then x else y) ≡ y
either_way true x y same = same refl
either_way false x y same = refl

unmade : (is_of : ℕ → ℕ → Bool) (call : JobCall) (image : DieImage) → Unmade is_of call image
unmade is_of (ReadsSlot slot) image = record { next = image; calls = refl; seen = λ s. refl; header = refl }
unmade is_of (ProgramsSlot slot cell) image = record {
  next = with_cell slot (image.seen slot) image;
  calls = (image.seen slot, refl);
  seen = λ s. either_way (s == slot) (image.seen slot) (image.seen s) (λ e. ap image.seen (sym (eqb-true s slot e)));
  header = refl;
}
unmade is_of (ErasesBlock block) image = record {
  next = record image { seen = λ slot. if is_of block slot then image.seen slot else image.seen slot };
  calls = (image.seen, refl);
  seen = λ s. either_way (is_of block s) (image.seen s) (image.seen s) (λ e. refl);
  header = refl;
}
unmade is_of (WritesHeader epoch live) image = record { next = record image { header = image.header }; calls = (image.header, refl); seen = λ s. refl; header = refl }
unmade is_of Syncs image = record { next = image; calls = refl; seen = λ s. refl; header = refl }

module _ {I : Type 0} (view : I → ImageState) (honest : I → Bool) (made : I → ImageCall → ImageAnswer → I → Type 0)
    (whole : (image : I) → IsImage (view image))
    (meets : (before after : I) (call : ImageCall) (answer : ImageAnswer) → made before call answer after
    → ImageMeets (view before) (honest before) call answer (view after) (honest after)) (array : List ℕ) where
  -- what drives an array, and its world
  pub record Follows (w : World) (s : Driven I) : Type 0 where
    pub core : w.core ≡ s.core
    pub told : w.told ≡ s.told
    pub works : AreWorks s.works w
    pub given : (die : ℕ) → IsGiven (s.works die)
    pub images : AreImages view w s.images

  pub image_kept : (w v : World) (die : ℕ) (image : I) → v.core.page_map.geometry ≡ w.core.page_map.geometry
      → ((slot : ℕ) → (v.images die).seen slot ≡ (w.images die).seen slot) → IsImageOf view w die image → IsImageOf view v die image
  image_kept w v die image shape seen is = record {
    shape = is.shape ∙ sym shape;
    cells = λ slot within. subst (λ (c : Cell). IsCellOf (slot_at slot (view image)) c) (sym (seen slot))
        (is.cells slot (subst (λ (g : Geometry). slot < g.blocks * g.slots) shape within));
  }

  pub event_follows : GeometryLaw → (w : World) (s middle : Driven I) (act : Act) → Follows w s → HasEvent s act middle
      → (v : World) × HappensEvent w act v × Follows v middle
  event_follows law w s middle act f e =
      let v : World = record (followed act w) { core = middle.core; moment = suc w.moment } in
      let seen : (followed act w).images ≡ w.images = images_follow act w in
      let shape : middle.core.page_map.geometry ≡ w.core.page_map.geometry =
      law s.core middle.core act e.step ∙ sym (ap (λ (c : Core). c.page_map.geometry) f.core) in
      let there : Follows v (record s { core = middle.core; works = works_after act s.works; told = s.told ++ told_by s.core act }) = record {
        core = refl;
        told = told_follows act w ∙ ap (λ l. l ++ told_by w.core act) f.told ∙ ap (λ (c : Core). s.told ++ told_by c act) f.core;
        works = works_follow act w s.works f.works;
        given = given_follow act s.works f.given;
        images = λ die image is. image_kept w v die image shape (λ slot. ap (λ (i : ℕ → DieImage). (i die).seen slot) seen) (f.images die image is);
      } in (
        v,
        record {
          step = subst (λ (c : Core). Step c act middle.core) (sym f.core) e.step;
          told = is_told act w s f.works f.told e.owed;
          follows = refl;
        },
        subst (Follows v) (sym e.follows) there,
      )

  -- the images after a job's calls
  images_then : (w v : World) (s : Driven I) (die : ℕ) (after : I) → Follows w s → OnlyCalled w die v → IsImageOf view v die after
      → AreImages view v (with_value die (Some after) s.images)
  images_then w v s die after f only is d image at = elim (cases_eq d die) [
    | inl same ↦
        let it : after ≡ image = same_Some after image (sym (value_here die (Some after) s.images)
        ∙ subst (λ k. with_value die (Some after) s.images k ≡ Some image) same at) in
        subst (λ k. IsImageOf view v k image) (sym same) (subst (IsImageOf view v die) it is)
    | inr apart ↦
        image_kept w v d image (ap (λ (x : World). x.core.page_map.geometry) only.rest)
        (λ slot. ap (λ (i : DieImage). i.seen slot) (only.images d apart))
        (f.images d image (sym (value_other die (Some after) s.images d apart) ∙ at))
  ]

  works_then : (w v : World) (s : Driven I) (die : ℕ) (work : Work) → Follows w s → OnlyCalled w die v → v.works die ≡ Some work
      → AreWorks (with_value die (Some work) s.works) v
  works_then w v s die work f only is d = elim (cases_eq d die) [
    | inl same ↦
        subst (λ k. v.works k ≡ with_value die (Some work) s.works k) (sym same) (is ∙ sym (value_here die (Some work) s.works))
    | inr apart ↦ only.works d apart ∙ f.works d ∙ sym (value_other die (Some work) s.works d apart)
  ]

  given_so : (w : World) (s : Driven I) (die : ℕ) (work : Work) → Follows w s → s.works die ≡ Some work → AllByRecursion IsSomeCell work.gave
  given_so w s die work f is = subst IsGiven is (f.given die)

  -- a world to which one call leads
  abbrev pub Called : World → ℕ → Gave → Driven I → Type 0
  Called w die gave middle = (v : World) × Happens w (Calling die gave) v × Follows v middle

  -- a refused call leaves the header
  abbrev pub LeavesHeader : World → ℕ → Gave → World → Type 0
  LeavesHeader w die gave v = gave ≡ Refused → (v.images die).header ≡ (w.images die).header

  -- a call that was not made leaves all slots
  abbrev pub LeavesSlots : World → ℕ → World → Type 0
  LeavesSlots w die v = (slot : ℕ) → (v.images die).seen slot ≡ (w.images die).seen slot

  pub call_follows : (w : World) (s middle : Driven I) (die : ℕ) → Follows w s → (makes : MakesNext made array s die middle)
      → IsTrue (honest makes.after) → (one : Called w die makes.gave middle) × LeavesHeader w die makes.gave one.0
  call_follows w s middle die f makes fair =
      let core = sym f.core in
      let work = makes.work in
      let some = given_so w s die work f makes.has.works in
      let one = one_runs view honest made whole meets array die work.job w work.gave makes.call makes.gave makes.before makes.after
      (f.works die ∙ makes.has.works) (subst (λ (c : Core). IsJobFor c.page_map.geometry array die work.job) core makes.fits) some
      (f.images die makes.before makes.image) makes.has.next
      (subst (λ (c : Core). MakesJobCall made c.page_map.geometry array die makes.call makes.gave makes.before makes.after) core makes.makes)
      fair in
      let only = one.only in
      let next : Work = record work { gave = work.gave ++ makes.gave ∷ [] } in
      let there : Follows one.last (record s { images = with_value die (Some makes.after) s.images; works = with_value die (Some next) s.works }) =
      record {
        core = ap (λ (x : World). x.core) only.rest ∙ f.core;
        told = ap (λ (x : World). x.told) only.rest ∙ f.told;
        works = works_then w one.last s die next f only one.works;
        given = changed_given die (Some next) s.works (all_and work.gave makes.gave some one.given) f.given;
        images = images_then w one.last s die makes.after f only one.image;
      } in ((one.last, one.happens, subst (Follows one.last) (sym makes.follows) there), one.header)

  seen_still : (w : World) (die : ℕ) (next : DieImage) → ((slot : ℕ) → next.seen slot ≡ (w.images die).seen slot) → (d slot : ℕ)
      → (with_value die next w.images d).seen slot ≡ (w.images d).seen slot
  seen_still w die next seen d slot = elim (cases_eq d die) [
    | inl same ↦
        subst (λ k. (with_value die next w.images k).seen slot ≡ (w.images k).seen slot) (sym same)
        (ap (λ (i : DieImage). i.seen slot) (value_here die next w.images) ∙ seen slot)
    | inr apart ↦ ap (λ (i : DieImage). i.seen slot) (value_other die next w.images d apart)
  ]

  pub refused_follows : (w : World) (s middle : Driven I) (die : ℕ) → Follows w s → RefusesNext s die middle
      → (one : Called w die Refused middle) × LeavesHeader w die Refused one.0 × LeavesSlots w die one.0
  refused_follows w s middle die f refuses =
      let work = refuses.work in
      let works = f.works die ∙ refuses.has.works in
      let left = unmade (is_in_block w.core.page_map) refuses.call (w.images die) in
      let so : Option Work = option_map {T = Work} (λ k. record k { gave = k.gave ++ Refused ∷ [] }) (w.works die) in
      let v : World = record w { images = with_value die left.next w.images; works = with_value die so w.works } in
      let next : option_and_then (λ k. next_call die k.job k.gave) (w.works die) ≡ Some refuses.call =
      ap (option_and_then (λ (k : Work). next_call die k.job k.gave)) works ∙ refuses.has.next in
      let happens : Happens w (Calling die Refused) v =
      subst (λ (o : Option JobCall). CallsNext w die (w.works die) o Refused v) (sym next) (left.next, left.calls, refl) in
      let after : Work = record work { gave = work.gave ++ Refused ∷ [] } in
      let is_work : v.works die ≡ Some after = value_here die so w.works
      ∙ ap (option_map {T = Work} (λ k. record k { gave = k.gave ++ Refused ∷ [] })) works in
      let only : OnlyCalled w die v = record {
        images = λ d apart. value_other die left.next w.images d apart;
        works = λ d apart. value_other die so w.works d apart;
        rest = refl;
      } in
      let there : Follows v (record s { works = with_value die (Some after) s.works }) = record {
        core = f.core;
        told = f.told;
        works = works_then w v s die after f only is_work;
        given = changed_given die (Some after) s.works (all_and work.gave Refused (given_so w s die work f refuses.has.works) tt) f.given;
        images = λ d image at. image_kept w v d image refl (seen_still w die left.next left.seen d) (f.images d image at);
      } in (
        (v, happens, subst (Follows v) (sym refuses.follows) there),
        λ refused. ap (λ (i : DieImage). i.header) (value_here die left.next w.images) ∙ left.header,
        λ slot. ap (λ (i : DieImage). i.seen slot) (value_here die left.next w.images) ∙ left.seen slot,
      )

  -- images that are honest at the end were so before
  honest_one : (s middle : Driven I) (drive : Drive) → Makes made array s drive middle → AreHonest honest middle.images → AreHonest honest s.images
  honest_one s middle (MakesEvent act) makes fair die image at = fair die image (ap (λ (x : Driven I). x.images die) makes.follows ∙ at)
  honest_one s middle (RefusesCall die) makes fair d image at = fair d image (ap (λ (x : Driven I). x.images d) makes.follows ∙ at)
  honest_one s middle (MakesCall die) makes fair d image at = elim (cases_eq d die) [
    | inl same ↦
        let one = makes.makes in
        let it : makes.before ≡ image = same_Some makes.before image (sym makes.image ∙ subst (λ k. s.images k ≡ Some image) same at) in
        subst (λ i. IsTrue (honest i)) it (was_honest one.image_call (honest makes.before) (honest makes.after)
        (meets makes.before makes.after one.image_call one.answer one.link).honest
        (fair die makes.after (ap (λ (x : Driven I). x.images die) makes.follows ∙ value_here die (Some makes.after) s.images)))
    | inr apart ↦
        fair d image (ap (λ (x : Driven I). x.images d) makes.follows ∙ value_other die (Some makes.after) s.images d apart ∙ at)
  ]

  pub honest_before : (s last : Driven I) (drives : List Drive) → Drives made array s drives last → AreHonest honest last.images → AreHonest honest s.images
  honest_before s last [] same fair = λ die image at. fair die image (ap (λ (x : Driven I). x.images die) same ∙ at)
  honest_before s last (drive ∷ drives) goes fair =
      honest_one s goes.0 drive goes.1 (honest_before goes.0 last drives goes.2 fair)

  -- a world to which a drive leads
  abbrev pub Leads : World → List Drive → Driven I → Type 0
  Leads w drives last = (happenings : List Happening) × (v : World) × Run w happenings v × Follows v last
      × (events_of happenings ≡ acts_of drives)

  behind : (w : World) (middle last : Driven I) (die : ℕ) (gave : Gave) (drives : List Drive) → (one : Called w die gave middle)
      → Leads one.0 drives last → Leads w drives last
  behind w middle last die gave drives one later = (Calling die gave ∷ later.0, later.1, (one.0, one.1, later.2), later.3, later.4)

  pub driven : GeometryLaw → (drives : List Drive) (s last : Driven I) (w : World) → Follows w s → Drives made array s drives last
      → AreHonest honest last.images → Leads w drives last
  driven law [] s last w f same fair = ([], w, refl, subst (Follows w) (sym same) f, refl)
  driven law (MakesEvent act ∷ drives) s last w f goes fair =
      let one = event_follows law w s goes.0 act f goes.1 in
      let later = driven law drives goes.0 last one.0 one.2 goes.2 fair in
      (Event act ∷ later.0, later.1, (one.0, one.1, later.2), later.3, ap (λ (l : List Act). act ∷ l) later.4)
  driven law (MakesCall die ∷ drives) s last w f goes fair =
      let makes = goes.1 in
      let honest_after = honest_before goes.0 last drives goes.2 fair die makes.after
      (ap (λ (x : Driven I). x.images die) makes.follows ∙ value_here die (Some makes.after) s.images) in
      let one = (call_follows w s goes.0 die f makes honest_after).0 in
      behind w goes.0 last die makes.gave drives one (driven law drives goes.0 last one.0 one.2 goes.2 fair)
  driven law (RefusesCall die ∷ drives) s last w f goes fair =
      let one = (refused_follows w s goes.0 die f goes.1).0 in
      behind w goes.0 last die Refused drives one (driven law drives goes.0 last one.0 one.2 goes.2 fair)

  pub drives_run : GeometryLaw → (first : World) (images : ℕ → Option I) (drives : List Drive) (last : Driven I) → IsBeginning first
      → AreImages view first images → Drives made array (beginning first.core images) drives last → AreHonest honest last.images
      → (happenings : List Happening) × (w : World) × Run first happenings w × (events_of happenings ≡ acts_of drives)
      × (w.core ≡ last.core) × AreImages view w last.images
  drives_run law first images drives last begins are goes fair =
      let led = driven law drives (beginning first.core images) last first
      (record { core = refl; told = begins.told; works = begins.idle; given = λ die. tt; images = are }) goes fair in
      (led.0, led.1, led.2, led.4, led.3.core, led.3.images)

-- the calls of a job, one after the other
module _ {I : Type 0} (made : I → ImageCall → ImageAnswer → I → Type 0) (array : List ℕ) (die : ℕ) (job : Handed) where
  calls_drive : (gave so_far : List Gave) (s : Driven I) (before after : I) → s.works die ≡ Some (record { job = job; gave = so_far })
      → s.images die ≡ Some before → IsJobFor s.core.page_map.geometry array die job
      → MakesCalls made s.core.page_map.geometry array die job so_far gave before after
      → (new : Driven I) × Drives made array s (map (λ g. MakesCall die) gave) new
      × OnlyMade s die (record { job = job; gave = so_far ++ gave }) after new
  calls_drive [] so_far s before after works image fits same = (
    s,
    refl,
    record {
      image = image ∙ ap Some same;
      works = works ∙ ap (λ (l : List Gave). Some (record { job = job; gave = l })) (sym (append-nil so_far));
      other_images = λ d apart. refl;
      other_works = λ d apart. refl;
      rest = refl;
    },
  )
  calls_drive (gave ∷ rest) so_far s before after works image fits calls =
      let next : Work = record { job = job; gave = so_far ++ gave ∷ [] } in
      let middle : Driven I = record s { images = with_value die (Some calls.2) s.images; works = with_value die (Some next) s.works } in
      let one : MakesNext made array s die middle = record {
        work = record { job = job; gave = so_far };
        call = calls.0;
        gave = gave;
        before = before;
        after = calls.2;
        has = record { works = works; next = calls.1 };
        fits = fits;
        image = image;
        makes = calls.3;
        follows = refl;
      } in
      let later = calls_drive rest (so_far ++ gave ∷ []) middle calls.2 after (value_here die (Some next) s.works)
      (value_here die (Some calls.2) s.images) fits calls.4 in
      let only = later.2 in (
        later.0,
        (middle, one, later.1),
        record {
          image = only.image;
          works = only.works ∙ ap (λ (l : List Gave). Some (record { job = job; gave = l })) (append_assoc so_far (gave ∷ []) rest);
          other_images = λ d apart. only.other_images d apart ∙ value_other die (Some calls.2) s.images d apart;
          other_works = λ d apart. only.other_works d apart ∙ value_other die (Some next) s.works d apart;
          rest = only.rest;
        },
      )

  pub job_drives : (old : Driven I) (outcome : Outcome) (before after : I) → old.works die ≡ Some (record { job = job; gave = [] })
      → old.images die ≡ Some before → IsJobFor old.core.page_map.geometry array die job
      → (ran : Ran made old.core.page_map.geometry array die job outcome before after)
      → (new : Driven I) × Drives made array old (map (λ g. MakesCall die) ran.gave) new
      × OnlyMade old die (record { job = job; gave = ran.gave }) after new × IsOwed new (Done die outcome)
  job_drives old outcome before after works image fits ran =
      let all = calls_drive ran.gave [] old before after works image fits ran.calls in (
        all.0,
        all.1,
        all.2,
        ap (option_and_then (λ (k : Work). outcome_of die k.job k.gave)) all.2.works ∙ ran.ends,
      )
