-- Take keeps what holds.
use Rattle.fa_laws.proofs.Admitting.{one_value_other, one_value_same}
use Rattle.fa_laws.proofs.Invariant.{AreAt, Holds, later, scene_of}
use Rattle.fa_laws.proofs.Keeping.{ChangesWork, worked_is_sound}
use Rattle.fa_machine.proofs.Maps.{get-insert_other, get-insert_same}
use Rattle.fa_laws.proofs.Scene.{Bytes, GaveFits, JobFits, Places, Scene, Sound, WorkFits, flight_writes, program_is_at}
use Rattle.fa_machine.specs.Among.{Among}
use Rattle.fa_laws.proofs.Scene.{programs_at, writes}
use Rattle.fa_machine.specs.Among.{tally}
use Rattle.fa_machine.specs.Maps.{place_cmp}
use Rattle.fa_machine.specs.State.{CalendarState, OpenBatch, WaitingProgram, is_live}
use Rattle.fa_machine.specs.Taking.{Handed, is_idle}
use Rattle.fa_machine.specs.World.{Due, Work, World, with_value}
use Rattle.fa_machine.specs.declared.answers.HistoryEntry.{HistoryEntry}
use Rattle.fa_machine.specs.declared.ids.BatchId.{BatchId}
use Rattle.fa_machine.specs.declared.jobs.Flight.{Flight}
use Rattle.fa_machine.specs.declared.jobs.Flight.TheVariants.{Erase, Header, Move, Program, Read, Sync}
use Rattle.fa_machine.specs.declared.places.Used.{Used}
use Rattle.fa_machine.specs.declared.places.Version.{Version}
use Rattle.fa_types.specs.declared.numbers.Page.{Page}
use Rattle.fa_types.specs.declared.numbers.Slot.{Slot}
use Rattle.std.proofs.Common.{List, None, Option, Some, [], ap, arith, false, inl, inr, not, refl, subst, suc, sym, true, ℕ, ◌+◌, ◌∙◌}
use Rattle.std.proofs.Common.{◌≡◌, ◌≤◌, ◌⊎◌}
use Rattle.std.proofs.lemmas.Bool.{and_parts, cases_eq, not-true, true≢false}
use Rattle.std.proofs.lemmas.Option.{none-some, same_Some}
use Rattle.std.specs.FinMap.{FinMap, contains_key, get, insert}
use Rattle.std.specs.Ordering.{nat_cmp}
use Rattle.std.specs.Prelude.{is_some, option_map}

no_work : (o : Option Work) → option_map {T = Work} (λ k. k.job.flight) o ≡ None → o ≡ None
no_work None e = refl
no_work (Some k) e = absurd (none-some k.job.flight (sym e))

no_key : (o : Option Flight) → is_some o ≡ false → o ≡ None
no_key None e = refl
no_key (Some f) e = absurd (true≢false e)

-- an idle die has no job
pub idle_works : (w : World) → Holds w → (die : ℕ) → is_idle w.core die ≡ true → (is_live w.core.page_map die ≡ true) × (w.works die ≡ None)
idle_works w h die idle =
    let parts = and_parts (is_live w.core.page_map die) (not (contains_key w.core.jobs die)) idle in
    (parts.0, no_work (w.works die) (sym (h.jobs die) ∙ no_key (get w.core.jobs die) (not-true _ parts.1)))

pub jobs_insert : (jobs : FinMap nat_cmp Flight) (works : ℕ → Option Work) (die : ℕ) (work : Work) → AreAt jobs works
    → AreAt (insert jobs die work.job.flight) (with_value die (Some work) works)
jobs_insert jobs works die work at d =
    elim (cases_eq d die) [
      | inl same ↦ ap (get (insert jobs die work.job.flight)) same ∙ get-insert_same jobs die work.job.flight
          ∙ sym (ap (option_map {T = Work} (λ k. k.job.flight)) (one_value_same die (Some work) works d same))
      | inr apart ↦ get-insert_other jobs die work.job.flight d apart ∙ at d
          ∙ sym (ap (option_map {T = Work} (λ k. k.job.flight)) (one_value_other die (Some work) works d apart))
    ]

-- a job that begins on an idle die
module _ (w : World) (h : Holds w) (die : ℕ) (job : Handed) (used : FinMap place_cmp Used) (waiting : List WaitingProgram) (due : ℕ → Due)
    (calendar : CalendarState) (history : List HistoryEntry) (idle : w.works die ≡ None) where
  abbrev work : Work
  work = record { job = job; gave = [] }

  abbrev works_then : ℕ → Option Work
  works_then = with_value die (Some work) w.works

  abbrev pub places_then : Places
  places_then = record ((scene_of w).places) { used = λ d slot. get used (d, slot) }

  abbrev pub scene_then : Scene
  scene_then = record (scene_of w) { places = places_then }

  pub record Fits : Type 0 where
    pub sound : Sound scene_then
    pub fewer : (p : WaitingProgram) → Among p waiting → Among p w.core.waiting
    pub count : (d slot : ℕ) → (d ≡ die → ⊥) → tally (program_is_at d slot) waiting ≤ tally (program_is_at d slot) w.core.waiting
    pub once : (slot : ℕ) → tally (program_is_at die slot) waiting + flight_writes job.flight slot ≤ 1
    pub same_due : (d : ℕ) → (d ≡ die → ⊥) → due d ≡ w.due d
    pub fits : JobFits (scene_of w).bytes places_then (scene_of w).in_block (due die).bytes die job.flight job.payload
    pub reading : (batch : BatchId) (page : Page) (version : Version) (slot : Slot) (b : OpenBatch) → job.flight ≡ Read batch page version slot
        → get w.core.batches batch.0 ≡ Some b → w.admitted batch.0 ≤ (due die).since

  gave_nothing : (b : Bytes) (flight : Flight) → GaveFits b die flight []
  gave_nothing b (Read batch page version slot) = tt
  gave_nothing b (Program page version slot) = tt
  gave_nothing b (Move page version from to) = tt
  gave_nothing b (Header epoch live) = tt
  gave_nothing b (Erase block) = tt
  gave_nothing b (Sync flushes) = tt

  works_cases : (d : ℕ) (k : Work) → works_then d ≡ Some k → ((d ≡ die) × (work ≡ k)) ⊎ ((d ≡ die → ⊥) × (w.works d ≡ Some k))
  works_cases d k e =
      elim (cases_eq d die) [
        | inl same ↦ inl (same, same_Some work k (sym (one_value_same die (Some work) w.works d same) ∙ e))
        | inr apart ↦ inr (apart, sym (one_value_other die (Some work) w.works d apart) ∙ e)
      ]

  once_then : Fits → (d slot : ℕ) → programs_at waiting works_then d slot ≤ 1
  once_then f d slot =
      elim (cases_eq d die) [
        | inl same ↦
            subst (λ n. programs_at waiting works_then n slot ≤ 1) (sym same)
            (let a = ap (λ o. writes o slot) (one_value_same die (Some work) w.works die refl) in let n = f.once slot in omega (arith, a, n))
        | inr apart ↦
            let a = ap (λ o. writes o slot) (one_value_other die (Some work) w.works d apart) in
            let c = f.count d slot apart in
            let n = h.sound.once d slot in
            omega (arith, a, c, n)
      ]

  changes : Fits → ChangesWork scene_then waiting works_then (λ d. (due d).bytes)
  changes f = record {
    fewer = f.fewer;
    once = once_then f;
    works_are = λ d k e. elim (works_cases d k e) [
      | inr before ↦ inl (before.1, ap (λ (u : Due). u.bytes) (f.same_due d before.0))
      | inl new ↦
          inr (subst (λ (t : ℕ × Work). WorkFits scene_then.bytes places_then scene_then.in_block (due t.0).bytes t.0 t.1)
          {x = (die, work)} {y = (d, k)} (λ i. (sym new.0 i, new.1 i)) (record { job = f.fits; gave = gave_nothing (scene_of w).bytes job.flight }))
    ];
  }

  pub begin_holds : Fits → Holds (record w {
    core = record (w.core) {
      jobs = insert w.core.jobs die job.flight;
      waiting = waiting;
      page_map = record (w.core.page_map) { used = used };
      calendar = calendar;
      history = history;
    };
    works = works_then;
    due = due;
    moment = suc w.moment;
  })
  begin_holds f = record {
    sound = worked_is_sound scene_then f.sound waiting works_then (λ d. (due d).bytes) (changes f);
    jobs = jobs_insert w.core.jobs w.works die work h.jobs;
    claims = h.claims;
    told = h.told;
    ordered = h.ordered;
    plain = h.plain;
    unwritten = h.unwritten;
    answered = later w.core.batches w.admitted w.values works_then due w.moment (record {
      since = h.answered.since;
      answers = h.answered.answers;
      reading = λ d k batch page version slot b e flight is. elim (works_cases d k e) [
        | inl new ↦ subst (λ (n : ℕ). w.admitted batch.0 ≤ (due n).since) (sym new.0)
            (f.reading batch page version slot b (ap (λ (u : Work). u.job.flight) new.1 ∙ flight) is)
        | inr before ↦
            let n = h.answered.reading d k batch page version slot b before.1 flight is in
            let e = ap (λ (u : Due). u.since) (f.same_due d before.0) in omega (arith, n, e)
      ];
    });
  }
