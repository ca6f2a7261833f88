-- What drives an array over images that write whole is a whole run.
use Rattle.fa_crash.proofs.Runs.{join_runs}
use Rattle.fa_crash.specs.Flushed.{AreOfLast, IsPromised}
use Rattle.fa_crash.specs.Unsynced.{Unsynced, call_of, nothing_unsynced, number_of, unsynced_behind}
use Rattle.fa_crash.specs.Whole.{IsWhole, IsWholeCall, RunWhole}
use Rattle.fa_crash.proofs.WholeCalls.{call_whole, unmade_whole}
use Rattle.fa_crash.specs.Images.{WriteWhole}
use Rattle.fa_image.specs.Image.{ImageAnswer, ImageCall, ImageMeets, ImageState, IsImage}
use Rattle.fa_jobs.specs.Made.{MakesCall as MakesJobCall}
use Rattle.fa_core_outcome.specs.Fits.{IsJobFor}
use Rattle.fa_laws.proofs.Within.{GeometryLaw}
use Rattle.fa_machine.specs.Beginning.{IsBeginning}
use Rattle.fa_machine.specs.Collecting.{is_in_block}
use Rattle.fa_machine.specs.Run.{Event, Happening, ImageCall as Calling}
use Rattle.fa_machine.specs.State.{Core}
use Rattle.fa_machine.specs.Step.{Act, FlushBegin, FlushState}
use Rattle.fa_machine.specs.declared.answers.Flush.{Flush}
use Rattle.fa_machine.specs.declared.answers.FlushState.TheVariants.{Synced}
use Rattle.fa_machine.specs.World.{Gave, JobCall, Refused, Work, World, next_call}
use Rattle.fa_mount_close_laws.proofs.DrivenRuns.{Follows, call_follows, event_follows, honest_before, refused_follows}
use Rattle.fa_mount_close_laws.proofs.JobCalls.{value_here, writable}
use Rattle.fa_mount_close_laws.proofs.OneCall.{IsSomeCell}
use Rattle.fa_mount_close_laws.proofs.Following.{IsGiven}
use Rattle.fa_mount_close_laws.specs.Drives.{AreHonest, AreImages, Drive, Driven, Drives, MakesCall, MakesEvent, MakesNext, RefusesCall, RefusesNext, acts_of, beginning, events_of}
use Rattle.std.proofs.Common.{Bool, List, Ok, Option, Some, [], ap, inl, refl, subst, sym, ℕ, ◌*◌, ◌++◌, ◌<◌, ◌∙◌, ◌∷◌, ◌≡◌, ◌≤◌}
use Rattle.std.specs.List.{AllByRecursion}
use Rattle.std.specs.Prelude.{option_and_then}

module _ {I : Type 0} (view : I → ImageState) (honest : I → Bool) (made : I → ImageCall → ImageAnswer → I → Type 0)
    (whole : (image : I) → IsImage (view image))
    (meets : (before after : I) (call : ImageCall) (answer : ImageAnswer) → made before call answer after
    → ImageMeets (view before) (honest before) call answer (view after) (honest after)) (writes : WriteWhole view made) (array : List ℕ)
    (law : GeometryLaw) where
  abbrev IsOf : World → Driven I → Type 0
  IsOf w s = Follows view honest made whole meets array w s

  -- the call that a die makes next
  calls_next : (w : World) (s : Driven I) (die : ℕ) (work : Work) (call : JobCall) → IsOf w s → s.works die ≡ Some work
      → next_call die work.job work.gave ≡ Some call → call_of w die ≡ Some call
  calls_next w s die work call f works next = ap (option_and_then (λ (k : Work). next_call die k.job k.gave)) (f.works die ∙ works) ∙ next

  whole_by : (w : World) (die : ℕ) (gave : Gave) (v : World) (call : JobCall) → call_of w die ≡ Some call
      → IsWholeCall (is_in_block w.core.page_map) (Some call) gave (w.images die) (v.images die) → IsWhole w (Calling die gave) v
  whole_by w die gave v call is so = subst (λ (o : Option JobCall). IsWholeCall (is_in_block w.core.page_map) o gave (w.images die) (v.images die)) (sym is) so

  made_whole : (w : World) (s middle : Driven I) (die : ℕ) (f : IsOf w s) (makes : MakesNext made array s die middle) (v : World)
      → IsOf v middle → v.core ≡ w.core → (makes.gave ≡ Refused → (v.images die).header ≡ (w.images die).header)
      → IsWhole w (Calling die makes.gave) v
  made_whole w s middle die f makes v g same header =
      let m = w.core.page_map in
      let core = sym f.core in
      let before = f.images die makes.before makes.image in
      let after = g.images die makes.after (ap (λ (x : Driven I). x.images die) makes.follows ∙ value_here die (Some makes.after) s.images) in
      let some : AllByRecursion IsSomeCell makes.work.gave = subst IsGiven makes.has.works (f.given die) in
      let one = subst (λ (c : Core). MakesJobCall made c.page_map.geometry array die makes.call makes.gave makes.before makes.after) core makes.makes in
      whole_by w die makes.gave v makes.call (calls_next w s die makes.work makes.call f makes.has.works makes.has.next)
      (call_whole view honest made meets writes m array die makes.before makes.after before.shape (w.images die) (v.images die)
      (λ slot inside. before.cells slot inside)
      (λ slot inside. after.cells slot (subst (λ (c : Core). slot < c.page_map.geometry.blocks * c.page_map.geometry.slots) (sym same) inside))
      makes.call makes.gave one.image_call one.answer one.is_it one.given one.link
      (writable m.geometry array die makes.work.job makes.work.gave makes.call
      (subst (λ (c : Core). IsJobFor c.page_map.geometry array die makes.work.job) core makes.fits) some makes.has.next) header)

  refused_whole : (w : World) (s middle : Driven I) (die : ℕ) (f : IsOf w s) (refuses : RefusesNext s die middle) (v : World)
      → ((slot : ℕ) → (v.images die).seen slot ≡ (w.images die).seen slot) → (v.images die).header ≡ (w.images die).header
      → IsWhole w (Calling die Refused) v
  refused_whole w s middle die f refuses v seen header =
      whole_by w die Refused v refuses.call (calls_next w s die refuses.work refuses.call f refuses.has.works refuses.has.next)
      (unmade_whole w.core.page_map refuses.call Refused (w.images die) (v.images die) seen header)

  -- a world to which a drive leads by a whole run
  pub record LeadsWhole (w : World) (u : Unsynced) (drives : List Drive) (last : Driven I) : Type 0 where
    pub happenings : List Happening
    pub world : World
    pub unsynced : Unsynced
    pub run : RunWhole w u happenings world unsynced
    pub follows : IsOf world last
    pub events : events_of happenings ≡ acts_of drives

  call_core : (w : World) (s middle : Driven I) (die : ℕ) (f : IsOf w s) (v : World) → IsOf v middle → middle.core ≡ s.core → v.core ≡ w.core
  call_core w s middle die f v g same = g.core ∙ same ∙ sym f.core

  pub driven_whole : (drives : List Drive) (s last : Driven I) (w : World) (u : Unsynced) → IsOf w s → Drives made array s drives last
      → AreHonest honest last.images → LeadsWhole w u drives last
  driven_whole [] s last w u f same fair =
      record { happenings = []; world = w; unsynced = u; run = (refl, refl); follows = subst (IsOf w) (sym same) f; events = refl }
  driven_whole (MakesEvent act ∷ drives) s last w u f goes fair =
      let one = event_follows view honest made whole meets array law w s goes.0 act f goes.1 in
      let later = driven_whole drives goes.0 last one.0 u one.2 goes.2 fair in
      record {
        happenings = Event act ∷ later.happenings;
        world = later.world;
        unsynced = later.unsynced;
        run = (one.0, one.1, tt, later.run);
        follows = later.follows;
        events = ap (λ (l : List Act). act ∷ l) later.events;
      }
  driven_whole (MakesCall die ∷ drives) s last w u f goes fair =
      let makes = goes.1 in
      let fair_then = honest_before view honest made whole meets array goes.0 last drives goes.2 fair die makes.after
      (ap (λ (x : Driven I). x.images die) makes.follows ∙ value_here die (Some makes.after) s.images) in
      let led = call_follows view honest made whole meets array w s goes.0 die f makes fair_then in
      let one = led.0 in
      let same = call_core w s goes.0 die f one.0 one.2 (ap (λ (x : Driven I). x.core) makes.follows) in
      let later = driven_whole drives goes.0 last one.0 (unsynced_behind w (Calling die makes.gave) u) one.2 goes.2 fair in
      record {
        happenings = Calling die makes.gave ∷ later.happenings;
        world = later.world;
        unsynced = later.unsynced;
        run = (one.0, one.1, made_whole w s goes.0 die f makes one.0 one.2 same led.1, later.run);
        follows = later.follows;
        events = later.events;
      }
  driven_whole (RefusesCall die ∷ drives) s last w u f goes fair =
      let led = refused_follows view honest made whole meets array w s goes.0 die f goes.1 in
      let one = led.0 in
      let later = driven_whole drives goes.0 last one.0 (unsynced_behind w (Calling die Refused) u) one.2 goes.2 fair in
      record {
        happenings = Calling die Refused ∷ later.happenings;
        world = later.world;
        unsynced = later.unsynced;
        run = (one.0, one.1, refused_whole w s goes.0 die f goes.1 one.0 led.2 (led.1 refl), later.run);
        follows = later.follows;
        events = later.events;
      }

  -- a drive that comes to two, one after the other
  pub drives_apart : (xs ys : List Drive) (s last : Driven I) → Drives made array s (xs ++ ys) last
      → (middle : Driven I) × Drives made array s xs middle × Drives made array middle ys last
  drives_apart [] ys s last goes = (s, refl, goes)
  drives_apart (drive ∷ xs) ys s last goes =
      let rest = drives_apart xs ys goes.0 last goes.2 in (rest.0, (goes.0, goes.1, rest.1), rest.2)

  -- a page has the number that it had as a flush began, which was answered then
  pub flushed : (first : World) (images : ℕ → Option I) → IsBeginning first → AreOfLast first → AreImages view first images
      → (earlier during later : List Drive) (at last : Driven I) (flush : Flush) → Drives made array (beginning first.core images) earlier at
      → Drives made array at (MakesEvent (FlushBegin (Ok flush)) ∷ during ++ MakesEvent (FlushState flush Synced) ∷ later) last
      → AreHonest honest last.images
      → (w : World) × (u : Unsynced) × (w.core ≡ last.core) × AreImages view w last.images
      × ((page : ℕ) → 1 ≤ number_of at.core page → IsPromised first page (number_of at.core page) w u)
  flushed first images begins cells are earlier during later at last flush goes then fair =
      let begun = then.0 in
      let apart = drives_apart during (MakesEvent (FlushState flush Synced) ∷ later) begun last then.2 in
      let asked = apart.0 in
      let answered = apart.2.0 in
      let fair_answered = honest_before view honest made whole meets array answered last later apart.2.2 fair in
      let fair_asked = honest_before view honest made whole meets array asked last (MakesEvent (FlushState flush Synced) ∷ later) apart.2 fair in
      let fair_at = honest_before view honest made whole meets array at last
      (MakesEvent (FlushBegin (Ok flush)) ∷ during ++ MakesEvent (FlushState flush Synced) ∷ later) then fair in
      let one = driven_whole earlier (beginning first.core images) at first (nothing_unsynced first)
      (record { core = refl; told = begins.told; works = begins.idle; given = λ die. tt; images = are }) goes fair_at in
      let two = event_follows view honest made whole meets array law one.world at begun (FlushBegin (Ok flush)) one.follows then.1 in
      let three = driven_whole during begun asked two.0 one.unsynced two.2 apart.1 fair_asked in
      let four = event_follows view honest made whole meets array law three.world asked answered (FlushState flush Synced) three.follows apart.2.1 in
      let five = driven_whole later answered last four.0 three.unsynced four.2 apart.2.2 fair in (
        five.world,
        five.unsynced,
        five.follows.core,
        five.follows.images,
        λ page some. record {
          beginning = begins;
          cells = cells;
          written = some;
          kept = inl (record {
            before = one.happenings;
            at = one.world;
            at_unsynced = one.unsynced;
            led = one.run;
            numbered = ap (λ (c : Core). number_of c page) one.follows.core;
            flush = flush;
            during = three.happenings;
            behind = five.happenings;
            leads = (
              two.0,
              two.1,
              tt,
              join_runs two.0 one.unsynced three.happenings (Event (FlushState flush Synced) ∷ five.happenings) three.world
                  three.unsynced five.world five.unsynced three.run (four.0, four.1, tt, five.run),
            );
          });
        },
      )
