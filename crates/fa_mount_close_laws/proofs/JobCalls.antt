-- The calls of a job, one after the other, are a run of the array's machine.
use Rattle.fa_image.specs.Counted.{call_counted}
use Rattle.fa_image.specs.Image.{Erasing, ImageAnswer, ImageCall, ImageMeets, ImageState, IsImage, Programming, ReadingHeader, ReadingSlot}
use Rattle.fa_image.specs.Image.{StaysHonest, Syncing, WritingHeader, slot_at}
use Rattle.fa_machine.specs.Cells.{Broken, Cell, Empty, Outcome, Sealed, is_same_kind, moved_payload, payload_of}
use Rattle.fa_machine.specs.Run.{CallsNext, Happens, ImageCall as Calling, Run}
use Rattle.fa_machine.specs.State.{Core}
use Rattle.fa_machine.specs.Step.{Done}
use Rattle.fa_machine.specs.Taking.{Handed}
use Rattle.fa_machine.specs.World.{Accepted, DieImage, Gave, GaveCell, IsTold, JobCall, ProgramsSlot, Refused, Work, World, first_call}
use Rattle.fa_machine.specs.World.{ErasesBlock, Syncs, call_behind, next_call, outcome_of, second_call, with_value}
use Rattle.fa_machine.specs.declared.jobs.Flight.{Flight}
use Rattle.fa_machine.specs.declared.jobs.Flight.TheVariants.{Erase, Header, Move, Program, Read, Sync}
use Rattle.fa_machine.specs.declared.places.Version.{Version}
use Rattle.fa_mount_close_laws.proofs.OneCall.{IsSomeCell, IsWritable, call_leads}
use Rattle.fa_mount_close_laws.specs.Images.{IsImageOf, OnlyCalled}
use Rattle.fa_mount_scan.specs.ContentCells.{IsCellOf}
use Rattle.fa_tag.specs.SlotGrammar.{IsPayloadOf}
use Rattle.fa_core_outcome.specs.Fits.{IsFlightFor, IsJobFor}
use Rattle.fa_types.specs.declared.geometry.Geometry.{Geometry}
use Rattle.fa_types.specs.declared.kind.Kind.{Kind}
use Rattle.fa_types.specs.declared.kind.Kind.TheVariants.{Data, Hole}
use Rattle.fa_jobs.specs.Made.{MakesCall, MakesCalls, Ran}
use Rattle.std.proofs.Common.{Bool, IsTrue, List, None, Option, Some, [], ap, append_assoc, cond, false, map, refl, subst, sym, true, ℕ, ◌*◌, ◌++◌, ◌<◌}
use Rattle.std.proofs.Common.{◌&&◌, ◌==◌, ◌∙◌, ◌∷◌, ◌≡◌}
use Rattle.std.proofs.lemmas.Bool.{eq-eqb, false≢true, ne_eqb}
use Rattle.std.proofs.lemmas.List.{append-nil}
use Rattle.std.proofs.lemmas.Option.{none-some, same_Some}
use Rattle.std.specs.List.{AllByRecursion}
use Rattle.std.specs.Prelude.{if◌then◌else◌, option_and_then, option_map}

pub value_here : {X : Type 0} (n : ℕ) (x : X) (f : ℕ → X) → with_value n x f n ≡ x
value_here n x f = ap (λ b. if b then x else f n) (eq-eqb n n refl)

pub value_other : {X : Type 0} (n : ℕ) (x : X) (f : ℕ → X) (m : ℕ) → ¬ (m ≡ n) → with_value n x f m ≡ f m
value_other n x f m apart = ap (λ b. if b then x else f m) (ne_eqb m n apart)

pub was_honest : (call : ImageCall) (was is : Bool) → StaysHonest call was is → IsTrue is → IsTrue was
was_honest (ReadingSlot slot) was is stays fair = stays fair
was_honest ReadingHeader was is stays fair = stays fair
was_honest (Programming slot bytes) was is stays fair = subst IsTrue stays fair
was_honest (Erasing block) was is stays fair = subst IsTrue stays fair
was_honest (WritingHeader bytes) was is stays fair = subst IsTrue stays fair
was_honest Syncing was is stays fair = subst IsTrue stays fair

some_if : {X : Type 0} (b : Bool) (o : Option X) (x : X) → cond b o None ≡ Some x → (b ≡ true) × (o ≡ Some x)
some_if true o x e = (refl, e)
some_if false o x e = absurd (none-some x e)

one_kind : (a b : Kind) → is_same_kind a b ≡ true → a ≡ b
one_kind Data Data e = refl
one_kind Hole Hole e = refl
one_kind Data Hole e = absurd (false≢true e)
one_kind Hole Data e = absurd (false≢true e)

-- what a move copies is a payload of its kind
moved_kind : (page : ℕ) (version : Version) (die slot : ℕ) (cell : Cell) (payload : List ℕ)
    → moved_payload page version die slot cell ≡ Some payload → IsSomeCell (GaveCell cell) → IsPayloadOf version.kind payload
moved_kind page version die slot Empty payload e some = absurd (none-some payload e)
moved_kind page version die slot Broken payload e some = absurd (none-some payload e)
moved_kind page version die slot (Sealed p v d s bytes) payload e some =
    let same = some_if (is_same_kind v.kind version.kind) (payload_of page version die slot (Sealed p v d s bytes)) payload e in
    let own = some_if (p == page && v.seq.0 == version.seq.0 && d == die && s == slot) (Some bytes) payload same.1 in
    subst (λ (kind : Kind). IsPayloadOf kind payload) (one_kind v.kind version.kind same.0)
    (subst (λ (l : List ℕ). IsPayloadOf v.kind l) (same_Some bytes payload own.1) some.1.1)

module _ (geometry : Geometry) (array : List ℕ) (die : ℕ) where
  first_writable : (flight : Flight) (payload : List ℕ) → IsFlightFor geometry array die payload flight
      → IsWritable (first_call die flight payload)
  first_writable (Header epoch live) payload fits = tt
  first_writable (Move page version from to) payload fits = tt
  first_writable (Erase block) payload fits = tt
  first_writable (Read batch page version slot) payload fits = tt
  first_writable (Program page version slot) payload fits = (fits.tag, fits.kind)
  first_writable (Sync flushes) payload fits = tt

  second_writable : (flight : Flight) (payload : List ℕ) (cell : Cell) (call : JobCall)
      → IsFlightFor geometry array die payload flight → IsSomeCell (GaveCell cell)
      → second_call die flight cell ≡ Some call → IsWritable call
  second_writable (Header epoch live) payload cell call fits some e = absurd (none-some call e)
  second_writable (Erase block) payload cell call fits some e = absurd (none-some call e)
  second_writable (Read batch page version slot) payload cell call fits some e = absurd (none-some call e)
  second_writable (Program page version slot) payload cell call fits some e = absurd (none-some call e)
  second_writable (Sync flushes) payload cell call fits some e = absurd (none-some call e)
  second_writable (Move page version from to) payload cell call fits some e = copied (moved_payload page.0 version die from.0 cell) refl e
    where
      copied : (o : Option (List ℕ)) → moved_payload page.0 version die from.0 cell ≡ o
          → option_map (λ bytes. ProgramsSlot to.0 (Sealed page.0 version die to.0 bytes)) o ≡ Some call → IsWritable call
      copied None is e = absurd (none-some call e)
      copied (Some bytes) is e =
          subst IsWritable (same_Some (ProgramsSlot to.0 (Sealed page.0 version die to.0 bytes)) call e)
          (fits.0, moved_kind page.0 version die from.0 cell bytes is some)

  behind_writable : (flight : Flight) (lasting : Bool) (call : JobCall) → call_behind flight lasting ≡ Some call → IsWritable call
  behind_writable (Header epoch live) lasting call e = absurd (none-some call e)
  behind_writable (Move page version from to) lasting call e = absurd (none-some call e)
  behind_writable (Erase block) lasting call e = subst IsWritable (same_Some (ErasesBlock block.0) call e) tt
  behind_writable (Read batch page version slot) lasting call e = absurd (none-some call e)
  behind_writable (Program page version slot) true call e = subst IsWritable (same_Some Syncs call e) tt
  behind_writable (Program page version slot) false call e = absurd (none-some call e)
  behind_writable (Sync flushes) lasting call e = absurd (none-some call e)

  pub writable : (job : Handed) (gave : List Gave) (call : JobCall) → IsJobFor geometry array die job → AllByRecursion IsSomeCell gave
      → next_call die job gave ≡ Some call → IsWritable call
  writable job [] call fits some e =
      subst IsWritable (same_Some (first_call die job.flight job.payload) call e) (first_writable job.flight job.payload fits)
  writable job (GaveCell cell ∷ []) call fits some e = second_writable job.flight job.payload cell call fits some.0 e
  writable job (GaveCell cell ∷ next ∷ rest) call fits some e = absurd (none-some call e)
  writable job (Accepted ∷ []) call fits some e = behind_writable job.flight job.lasting call e
  writable job (Accepted ∷ next ∷ rest) call fits some e = absurd (none-some call e)
  writable job (Refused ∷ rest) call fits some e = absurd (none-some call e)

pub all_and : (xs : List Gave) (x : Gave) → AllByRecursion IsSomeCell xs → IsSomeCell x → AllByRecursion IsSomeCell (xs ++ x ∷ [])
all_and [] x all is = (is, tt)
all_and (y ∷ xs) x all is = (all.0, all_and xs x all.1 is)

module _ {I : Type 0} (view : I → ImageState) (honest : I → Bool) (made : I → ImageCall → ImageAnswer → I → Type 0)
    (whole : (image : I) → IsImage (view image))
    (meets : (before after : I) (call : ImageCall) (answer : ImageAnswer) → made before call answer after
    → ImageMeets (view before) (honest before) call answer (view after) (honest after)) (array : List ℕ) (die : ℕ) (job : Handed) where
  -- an image that is honest was so before a job's calls
  pub honest_then : (geometry : Geometry) (gave so_far : List Gave) (before after : I)
      → MakesCalls made geometry array die job so_far gave before after → IsTrue (honest after) → IsTrue (honest before)
  honest_then geometry [] so_far before after same fair = subst (λ x. IsTrue (honest x)) (sym same) fair
  honest_then geometry (gave ∷ rest) so_far before after calls fair =
      let one = calls.3 in
      was_honest one.image_call (honest before) (honest calls.2) (meets before calls.2 one.image_call one.answer one.link).honest
      (honest_then geometry rest (so_far ++ gave ∷ []) calls.2 after calls.4 fair)

  -- a world in which one more call was made
  pub record RunsOne (w : World) (so_far : List Gave) (gave : Gave) (after : I) : Type 0 where
    pub last : World
    pub happens : Happens w (Calling die gave) last
    pub only : OnlyCalled w die last
    pub image : IsImageOf view last die after
    pub works : last.works die ≡ Some (record { job = job; gave = so_far ++ gave ∷ [] })
    pub given : IsSomeCell gave
    pub header : gave ≡ Refused → (last.images die).header ≡ (w.images die).header

  pub one_runs : (w : World) (so_far : List Gave) (call : JobCall) (gave : Gave) (before after : I)
      → w.works die ≡ Some (record { job = job; gave = so_far }) → IsJobFor w.core.page_map.geometry array die job
      → AllByRecursion IsSomeCell so_far → IsImageOf view w die before → next_call die job so_far ≡ Some call
      → MakesCall made w.core.page_map.geometry array die call gave before after → IsTrue (honest after) → RunsOne w so_far gave after
  one_runs w so_far call gave before after works fits some image next one fair =
      let met = meets before after one.image_call one.answer one.link in
      let leads = call_leads w.core.page_map array die (view before) (view after) (honest before) (honest after) (whole before) image.shape
      (w.images die) (λ slot within. image.cells slot (subst (λ (g : Geometry). slot < g.blocks * g.slots) image.shape within)) fair
      call gave one.image_call one.answer one.is_it one.given met
      (writable w.core.page_map.geometry array die job so_far call fits some next) in
      let so : Option Work = option_map {T = Work} (λ k. record k { gave = k.gave ++ gave ∷ [] }) (w.works die) in
      let is_next : option_and_then (λ k. next_call die k.job k.gave) (w.works die) ≡ Some call =
      ap (option_and_then (λ (k : Work). next_call die k.job k.gave)) works ∙ next in
      let shape : (view after).geometry ≡ w.core.page_map.geometry =
      (call_counted (view before) (view after) (honest before) (honest after) one.image_call one.answer met).geometry ∙ image.shape in
      record {
        last = record w { images = with_value die leads.next w.images; works = with_value die so w.works };
        happens = subst (λ (o : Option JobCall). CallsNext w die (w.works die) o gave
            (record w { images = with_value die leads.next w.images; works = with_value die so w.works })) (sym is_next) (leads.next, leads.calls, refl);
        only = record {
          images = λ d apart. value_other die leads.next w.images d apart;
          works = λ d apart. value_other die so w.works d apart;
          rest = refl;
        };
        image = record {
          shape = shape;
          cells = λ slot within. subst (λ (i : DieImage). IsCellOf (slot_at slot (view after)) (i.seen slot))
              (sym (value_here die leads.next w.images))
              (leads.cells slot (subst (λ (g : Geometry). slot < g.blocks * g.slots) (sym shape) within));
        };
        works = value_here die so w.works ∙ ap (option_map {T = Work} (λ k. record k { gave = k.gave ++ gave ∷ [] })) works;
        given = leads.given;
        header = λ refused. ap (λ (i : DieImage). i.header) (value_here die leads.next w.images) ∙ leads.header refused;
      }

  -- a world in which these calls were made
  pub record Runs (w : World) (so_far gave : List Gave) (after : I) : Type 0 where
    pub last : World
    pub run : Run w (map (Calling die) gave) last
    pub only : OnlyCalled w die last
    pub image : IsImageOf view last die after
    pub works : last.works die ≡ Some (record { job = job; gave = so_far ++ gave })

  only_both : (w v u : World) → OnlyCalled w die v → OnlyCalled v die u → OnlyCalled w die u
  only_both w v u one two = record {
    images = λ d apart. two.images d apart ∙ one.images d apart;
    works = λ d apart. two.works d apart ∙ one.works d apart;
    rest = two.rest ∙ ap (λ (x : World). record x { images = u.images; works = u.works }) one.rest;
  }

  pub calls_run : (gave so_far : List Gave) (w : World) (before after : I) → w.works die ≡ Some (record { job = job; gave = so_far })
      → IsJobFor w.core.page_map.geometry array die job → AllByRecursion IsSomeCell so_far → IsImageOf view w die before
      → MakesCalls made w.core.page_map.geometry array die job so_far gave before after → IsTrue (honest after) → Runs w so_far gave after
  calls_run [] so_far w before after works fits some image same fair = record {
    last = w;
    run = refl;
    only = record { images = λ d apart. refl; works = λ d apart. refl; rest = refl };
    image = subst (IsImageOf view w die) same image;
    works = works ∙ ap (λ (l : List Gave). Some (record { job = job; gave = l })) (sym (append-nil so_far));
  }
  calls_run (gave ∷ rest) so_far w before after works fits some image calls fair =
      let fair_then = honest_then w.core.page_map.geometry rest (so_far ++ gave ∷ []) calls.2 after calls.4 fair in
      let one = one_runs w so_far calls.0 gave before calls.2 works fits some image calls.1 calls.3 fair_then in
      let same : w.core ≡ one.last.core = sym (ap (λ (x : World). x.core) one.only.rest) in
      let later = calls_run rest (so_far ++ gave ∷ []) one.last calls.2 after one.works
      (subst (λ (c : Core). IsJobFor c.page_map.geometry array die job) same fits) (all_and so_far gave some one.given) one.image
      (subst (λ (c : Core). MakesCalls made c.page_map.geometry array die job (so_far ++ gave ∷ []) rest calls.2 after) same calls.4) fair in
      record {
        last = later.last;
        run = (one.last, one.happens, later.run);
        only = only_both w one.last later.last one.only later.only;
        image = later.image;
        works = later.works ∙ ap (λ (l : List Gave). Some (record { job = job; gave = l })) (append_assoc so_far (gave ∷ []) rest);
      }

  -- the calls of a job that ended
  pub job_runs : (w : World) (outcome : Outcome) (before after : I) → w.works die ≡ Some (record { job = job; gave = [] })
      → IsJobFor w.core.page_map.geometry array die job → IsImageOf view w die before
      → (ran : Ran made w.core.page_map.geometry array die job outcome before after) → IsTrue (honest after)
      → (v : World) × Run w (map (Calling die) ran.gave) v × OnlyCalled w die v × IsImageOf view v die after × IsTold v (Done die outcome)
  job_runs w outcome before after works fits image ran fair =
      let runs = calls_run ran.gave [] w before after works fits tt image ran.calls fair in (
        runs.last,
        runs.run,
        runs.only,
        runs.image,
        ap (option_and_then (λ (k : Work). outcome_of die k.job k.gave)) runs.works ∙ ran.ends,
      )
