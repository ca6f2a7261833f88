-- An array at which one batch is open that is never torn, and what its events keep.
use Rattle.fa_laws.proofs.Booked.{Good}
use Rattle.fa_laws.proofs.Events.{first_refusal}
use Rattle.fa_laws.proofs.Finishing.{passed_some}
use Rattle.fa_laws.proofs.InTimes.{Until, event_good, ready_in_time}
use Rattle.fa_machine.proofs.Lists.{among-range, any_none}
use Rattle.fa_machine.proofs.Maps.{get-insert_cases, get-insert_other, get-insert_same, get-keep, get-place_other, has_some, passed}
use Rattle.fa_machine.proofs.Maps.{nat_same, place_cmp_total, place_same}
use Rattle.fa_machine.specs.Among.{Among}
use Rattle.fa_machine.specs.Cells.{Outcome}
use Rattle.fa_machine.specs.Copies.{copy_on}
use Rattle.fa_machine.specs.Maps.{keep, place_cmp}
use Rattle.fa_machine.specs.Reading.{results}
use Rattle.fa_machine.specs.State.{Core, MapState, OpenBatch, dies_of}
use Rattle.fa_machine.specs.Step.{Advance, Done, Fold, Step, Take}
use Rattle.fa_machine.specs.Taking.{Handed, read_from, read_job, read_of}
use Rattle.fa_machine.specs.Turning.{advance_refusal, is_read_pending, is_round_pending, is_step_pending}
use Rattle.fa_machine.specs.declared.answers.ReadState.TheVariants.{Waiting}
use Rattle.fa_machine.specs.declared.jobs.Flight.TheVariants.{Read}
use Rattle.fa_machine.specs.declared.places.Booking.{Booking}
use Rattle.fa_machine.specs.declared.places.Version.{Version}
use Rattle.fa_machine.specs.declared.refusals.AdvanceRefused.{AdvanceRefused}
use Rattle.fa_machine.specs.declared.refusals.AdvanceRefused.TheVariants.{Idle, Pending as AdvancePending, Spent as AdvanceSpent}
use Rattle.fa_solo_laws.proofs.Changing.{Answers, Changes, Drops, HasNoStep, IsFree, Stays, View, job_changes, more_answers}
use Rattle.fa_solo_laws.proofs.Changing.{no_job_changes, seen}
use Rattle.fa_solo_laws.proofs.ClosedRounds.{not_open_torn, ready_waits, same_windows, still_calm, torn_waits}
use Rattle.fa_types.specs.declared.numbers.Round.{Round}
use Rattle.fa_types.specs.declared.window.Window.{Window}
use Rattle.std.proofs.Common.{Bool, List, None, Option, Some, ap, arith, eqb-true, false, inl, inr, nat_lt, not, refl, subst, sym, true, ℕ}
use Rattle.std.proofs.Common.{◌<◌, ◌==◌, ◌^◌, ◌∙◌, ◌≡◌, ◌≤◌, ◌||◌}
use Rattle.std.proofs.lemmas.Bool.{and_parts, cases_Bool, cases_eq, cases_lt, false≢true, lt-ltb, not_from_false}
use Rattle.std.proofs.lemmas.Bool.{or_left, or_parts, true≢false}
use Rattle.std.proofs.lemmas.Option.{none-some, same_Some}
use Rattle.std.specs.Cmp.{nat_cmp_total}
use Rattle.std.specs.FinMap.{FinMap, contains_key, get, insert, len}
use Rattle.std.specs.List.{list_any}
use Rattle.std.specs.Ordering.{nat_cmp}
use Rattle.std.specs.Prelude.{Err, Ok, Result, if◌then◌else◌, is_some, option_and_then, ◌&&◌}

-- A read of the page is booked for the batch that was not started, at a die that holds the page.
pub record IsPlaced (m : MapState) (bookings : FinMap place_cmp Booking) (batch page : ℕ) : Type 0 where
  pub die : ℕ
  pub round : ℕ
  pub booking : Booking
  pub is : get bookings (die, round) ≡ Some booking
  pub of_batch : booking.batch.0 ≡ batch
  pub of_page : booking.page.0 ≡ page
  pub waits : booking.started ≡ false
  pub low : die < m.geometry.dies
  pub version : Version
  pub number : get m.versions page ≡ Some version
  pub slot : ℕ
  pub copy : copy_on m page die ≡ Some slot

-- each page of a batch has an answer or is booked
abbrev pub AreCovered : MapState → FinMap place_cmp Booking → ℕ → OpenBatch → Type 0
AreCovered m bookings batch state =
    (page : ℕ) → Among page state.pages → contains_key state.answers page ≡ false → IsPlaced m bookings batch page

-- One batch is open at an array of this map, all of whose bookings are before a round that is in time. No collector has a step.
pub record IsRead (m : MapState) (copies batch : ℕ) (in_time : ℕ → Type 0) (core : Core) : Type 0 where
  pub map : core.page_map ≡ m
  pub copies_are : core.copies ≡ copies
  pub free : IsFree core
  pub calm : HasNoStep core
  pub until : ℕ
  pub is_in_time : in_time until
  pub good : Good (Until batch until) core
  pub round : core.calendar.round ≤ until
  pub state : OpenBatch
  pub is_state : get core.batches batch ≡ Some state
  pub only : (b : ℕ) → contains_key core.batches b ≡ true → b ≡ batch
  pub covers : AreCovered m core.calendar.bookings batch state

-- the read of such a booking in its round
found_read : (core : Core) (m : MapState) (batch page : ℕ) → core.page_map ≡ m → (p : IsPlaced m core.calendar.bookings batch page)
    → p.round ≡ core.calendar.round
    → read_job core p.die ≡ Some (Read p.booking.batch p.booking.page p.version (record { 0 = p.slot }))
found_read core m batch page map p now =
    let at : get core.calendar.bookings (p.die, core.calendar.round) ≡ Some p.booking =
    ap (λ (r : ℕ). get core.calendar.bookings (p.die, r)) (sym now) ∙ p.is in
    let number : get core.page_map.versions p.booking.page.0 ≡ Some p.version =
    (λ i. get (map i).versions (p.of_page i)) ∙ p.number in
    let copy : copy_on core.page_map p.booking.page.0 p.die ≡ Some p.slot = (λ i. copy_on (map i) (p.of_page i) p.die) ∙ p.copy in
    ap (option_and_then (read_of core.page_map p.die)) at
    ∙ ap (λ (b : Bool). if b then None else
    read_from p.booking (get core.page_map.versions p.booking.page.0) (copy_on core.page_map p.booking.page.0 p.die)) p.waits
    ∙ (λ i. read_from p.booking (number i) (copy i))

-- a booking that passes a test is kept
placed_keep : (test : ℕ × ℕ → Booking → Bool) (m : MapState) (bookings : FinMap place_cmp Booking) (batch page : ℕ)
    → (p : IsPlaced m bookings batch page) → test (p.die, p.round) p.booking ≡ true → IsPlaced m (keep test bookings) batch page
placed_keep test m bookings batch page p passes = record {
  die = p.die;
  round = p.round;
  booking = p.booking;
  is = get-keep place_cmp_total place_same test bookings (p.die, p.round) ∙ ap (passed (test (p.die, p.round))) p.is
      ∙ ap (λ (b : Bool). if b then Some p.booking else None) passes;
  of_batch = p.of_batch;
  of_page = p.of_page;
  waits = p.waits;
  low = p.low;
  version = p.version;
  number = p.number;
  slot = p.slot;
  copy = p.copy;
}

-- one at another place too
placed_beside : (m : MapState) (bookings : FinMap place_cmp Booking) (batch page die round : ℕ) (x : Booking) →
    (p : IsPlaced m bookings batch page)
    → (p.die ≡ die → p.round ≡ round → ⊥) → IsPlaced m (insert bookings (die, round) x) batch page
placed_beside m bookings batch page die round x p apart = record {
  die = p.die;
  round = p.round;
  booking = p.booking;
  is = get-place_other bookings die round x p.die p.round apart ∙ p.is;
  of_batch = p.of_batch;
  of_page = p.of_page;
  waits = p.waits;
  low = p.low;
  version = p.version;
  number = p.number;
  slot = p.slot;
  copy = p.copy;
}

-- a booking that cannot be read is none of these
placed_dropped : (core : Core) (m : MapState) (batch page die : ℕ) → core.page_map ≡ m → read_job core die ≡ None
    → IsPlaced m core.calendar.bookings batch page
    → IsPlaced m (keep (λ place b. not (place.0 == die && place.1 == core.calendar.round) || b.started) core.calendar.bookings) batch page
placed_dropped core m batch page die map none p =
    placed_keep (λ place b. not (place.0 == die && place.1 == core.calendar.round) || b.started) m core.calendar.bookings batch page p
    (elim (cases_Bool (p.die == die && p.round == core.calendar.round)) [
      | inr away ↦ or_left (not (p.die == die && p.round == core.calendar.round)) p.booking.started (not_from_false _ away)
      | inl here ↦
          let parts = and_parts (p.die == die) (p.round == core.calendar.round) here in
          let read = found_read core m batch page map p (eqb-true p.round core.calendar.round parts.1) in
          absurd (none-some _ (sym none ∙ sym (ap (read_job core) (eqb-true p.die die parts.0)) ∙ read))
    ])

-- what is open behind one more answer
record IsCovered (m : MapState) (bookings : FinMap place_cmp Booking) (batches : FinMap nat_cmp OpenBatch) (batch : ℕ) : Type 0 where
  pub state : OpenBatch
  pub is_state : get batches batch ≡ Some state
  pub covers : AreCovered m bookings batch state

answered_at : (core : Core) (m : MapState) (batch : ℕ) (state : OpenBatch) → get core.batches batch ≡ Some state
    → AreCovered m core.calendar.bookings batch state → (die : ℕ) (b x : Booking) (bytes : List ℕ)
    → get core.calendar.bookings (die, core.calendar.round) ≡ Some b
    → IsCovered m (insert core.calendar.bookings (die, core.calendar.round) x)
    (more_answers core.batches b.batch.0 b.page.0 bytes (get core.batches b.batch.0)) batch
answered_at core m batch state is_state covers die b x bytes is =
    elim (cases_eq batch b.batch.0) [
      | inl same ↦
          let found : get core.batches b.batch.0 ≡ Some state = ap (get core.batches) (sym same) ∙ is_state in
          let more : OpenBatch = record state { answers = insert state.answers b.page.0 bytes } in
          let made : ◌≡◌ {A = FinMap nat_cmp OpenBatch} (more_answers core.batches b.batch.0 b.page.0 bytes (get core.batches b.batch.0))
          (insert core.batches b.batch.0 more) = ap (more_answers core.batches b.batch.0 b.page.0 bytes) found in
          record {
            state = more;
            is_state = (λ i. get (made i) (same i)) ∙ get-insert_same core.batches b.batch.0 more;
            covers = λ page among unanswered. of_more page among unanswered;
          }
      | inr apart ↦ record {
        state = state;
        is_state = of_other (get core.batches b.batch.0) apart ∙ is_state;
        covers = λ page among unanswered.
            let p = covers page among unanswered in
            placed_beside m core.calendar.bookings batch page die core.calendar.round x p
            (λ here now. apart (sym p.of_batch ∙ ap (λ (k : Booking). k.batch.0) (booking_is page p here now)));
      }
    ]
  where
    booking_is : (page : ℕ) (p : IsPlaced m core.calendar.bookings batch page) → p.die ≡ die → p.round ≡ core.calendar.round → p.booking ≡ b
    booking_is page p here now = same_Some p.booking b (sym p.is ∙ (λ i. get core.calendar.bookings (here i, now i)) ∙ is)

    of_other : (o : Option OpenBatch) → (batch ≡ b.batch.0 → ⊥) → get (more_answers core.batches b.batch.0 b.page.0 bytes o) batch
        ≡ get core.batches batch
    of_other None apart = refl
    of_other (Some k) apart = get-insert_other core.batches b.batch.0 _ batch apart

    of_more : (page : ℕ) → Among page state.pages → contains_key (insert state.answers b.page.0 bytes) page ≡ false
        → IsPlaced m (insert core.calendar.bookings (die, core.calendar.round) x) batch page
    of_more page among unanswered =
        elim (cases_eq page b.page.0) [
          | inl same ↦ absurd (true≢false (sym (ap is_some (ap (get (insert state.answers b.page.0 bytes)) same
              ∙ get-insert_same state.answers b.page.0 bytes)) ∙ unanswered))
          | inr apart ↦
              let p = covers page among (sym (ap is_some (get-insert_other state.answers b.page.0 bytes page apart)) ∙ unanswered) in
              placed_beside m core.calendar.bookings batch page die core.calendar.round x p
              (λ here now. apart (sym p.of_page ∙ ap (λ (k : Booking). k.page.0) (booking_is page p here now)))
        ]

still_only : (batches : FinMap nat_cmp OpenBatch) (batch page n : ℕ) (bytes : List ℕ) (o : Option OpenBatch) → get batches batch ≡ o
    → contains_key (more_answers batches batch page bytes o) n ≡ true → contains_key batches n ≡ true
still_only batches batch page n bytes None is has = has
still_only batches batch page n bytes (Some k) is has =
    let found = has_some (get (more_answers batches batch page bytes (Some k)) n) has in
    elim (get-insert_cases batches batch _ n found.0 found.1) [
      | inl here ↦ ap is_some (ap (get batches) here.0 ∙ is)
      | inr was ↦ ap is_some was.0
    ]

module _ (m : MapState) (copies batch : ℕ) (in_time : ℕ → Type 0) (old new : Core) (read : IsRead m copies batch in_time old)
    (good : Good (Until batch read.until) new) where
  kept_read : new.page_map ≡ old.page_map → new.copies ≡ old.copies → new.calendar.round ≡ old.calendar.round
      → new.calendar.windows ≡ old.calendar.windows → ((b : ℕ) → contains_key new.batches b ≡ true → contains_key old.batches b ≡ true)
      → IsFree new
      → IsCovered m new.calendar.bookings new.batches batch → IsRead m copies batch in_time new
  kept_read map same_copies round windows only free covered = record {
    map = map ∙ read.map;
    copies_are = same_copies ∙ read.copies_are;
    free = free;
    calm = still_calm old new map (same_windows old new windows) read.calm;
    until = read.until;
    is_in_time = read.is_in_time;
    good = good;
    round = subst (λ r. r ≤ read.until) (sym round) read.round;
    state = covered.state;
    is_state = covered.is_state;
    only = λ b has. read.only b (only b has);
    covers = covered.covers;
  }

  as_seen : (bookings : FinMap place_cmp Booking) (batches : FinMap nat_cmp OpenBatch) → new.calendar.bookings ≡ bookings → new.batches
      ≡ batches
      → IsCovered m bookings batches batch → IsCovered m new.calendar.bookings new.batches batch
  as_seen bookings batches a b covered =
      subst (λ (t : FinMap place_cmp Booking × FinMap nat_cmp OpenBatch). IsCovered m t.0 t.1 batch)
      {x = (bookings, batches)} {y = (new.calendar.bookings, new.batches)} (λ i. (sym a i, sym b i)) covered

  pub changed_read : Changes old new → IsFree new → IsRead m copies batch in_time new
  changed_read (Stays e) free =
      kept_read (ap (λ (s : View). s.0) e) (ap (λ (s : View). s.1) e) (ap (λ (s : View). s.2.round) e) (ap (λ (s : View). s.2.windows) e)
      (λ b has. sym (ap (λ (s : View). contains_key s.3 b) e) ∙ has) free
      (as_seen old.calendar.bookings old.batches (ap (λ (s : View). s.2.bookings) e) (ap (λ (s : View). s.3) e)
      (record { state = read.state; is_state = read.is_state; covers = read.covers }))
  changed_read (Drops die none e) free =
      kept_read (ap (λ (s : View). s.0) e) (ap (λ (s : View). s.1) e) (ap (λ (s : View). s.2.round) e) (ap (λ (s : View). s.2.windows) e)
      (λ b has. sym (ap (λ (s : View). contains_key s.3 b) e) ∙ has) free
      (as_seen _ old.batches (ap (λ (s : View). s.2.bookings) e) (ap (λ (s : View). s.3) e)
      (record {
        state = read.state;
        is_state = read.is_state;
        covers = λ page among unanswered. placed_dropped old m batch page die read.map none (read.covers page among unanswered);
      }))
  changed_read (Answers die b bytes is waits e) free =
      kept_read (ap (λ (s : View). s.0) e) (ap (λ (s : View). s.1) e) (ap (λ (s : View). s.2.round) e) (ap (λ (s : View). s.2.windows) e)
      (λ n has. still_only old.batches b.batch.0 b.page.0 n bytes (get old.batches b.batch.0) refl
      (sym (ap (λ (s : View). contains_key s.3 n) e) ∙ has)) free
      (as_seen _ _ (ap (λ (s : View). s.2.bookings) e) (ap (λ (s : View). s.3) e)
      (answered_at old m batch read.state read.is_state read.covers die b _ bytes is))

module _ (m : MapState) (copies batch : ℕ) (in_time : ℕ → Type 0) (old : Core) (read : IsRead m copies batch in_time old) where
  pub read_job_ends : (between new : Core) (die seat : ℕ) (job : Handed) (outcome : Outcome) → Step old (Take die seat (Some job)) between
      → Step between (Done die outcome) new → new.epoch ≡ old.epoch → IsRead m copies batch in_time new
  read_job_ends between new die seat job outcome takes ends same =
      let begun = event_good (Until batch read.until) old (Take die seat (Some job)) between takes.allows takes.does read.good tt in
      let good = event_good (Until batch read.until) between (Done die outcome) new ends.allows ends.does begun tt in
      let changes = job_changes old between new die seat job outcome read.free read.calm takes ends same in
      changed_read m copies batch in_time old new read good changes.0 changes.1

  pub read_no_job : (new : Core) (die seat : ℕ) → Step old (Take die seat None) new → IsRead m copies batch in_time new
  read_no_job new die seat takes =
      let good = event_good (Until batch read.until) old (Take die seat None) new takes.allows takes.does read.good tt in
      let changes = no_job_changes old new die seat read.free read.calm takes in
      changed_read m copies batch in_time old new read good changes.0 changes.1

  pub read_fold : (new : Core) → Step old Fold new → IsRead m copies batch in_time new
  read_fold new folds =
      let good = event_good (Until batch read.until) old Fold new folds.allows folds.does read.good tt in
      changed_read m copies batch in_time old new read good (Stays (ap seen folds.does))
      (subst (λ (c : Core). IsFree c) (sym folds.does) read.free)

  -- no booked read is pending as the round rises
  not_pending : advance_refusal old ≡ None → (d : ℕ) → d < old.page_map.geometry.dies
      → is_read_pending (get old.jobs d) (get old.calendar.bookings (d, old.calendar.round)) ≡ false
  not_pending none d low =
      (or_parts (is_read_pending (get old.jobs d) (get old.calendar.bookings (d, old.calendar.round))) (is_step_pending old d)
      (any_none (is_round_pending old) (dies_of old.page_map)
      (first_refusal (list_any (is_round_pending old) (dies_of old.page_map))
      (len old.calendar.bookings == 0 && len old.calendar.windows == 0)
      (old.calendar.round == 2 ^ 56) AdvancePending Idle AdvanceSpent none) d
      (among-range 0 old.page_map.geometry.dies d (omega arith) (omega (arith, low))))).0

  -- a booking that was not started is of a later round then
  placed_later : advance_refusal old ≡ None → (page : ℕ) → (p : IsPlaced m old.calendar.bookings batch page) → old.calendar.round < p.round
  placed_later none page p =
      let ahead = read.good.timely.ahead p.die p.round p.booking p.is in
      elim (cases_eq p.round old.calendar.round) [
        | inr apart ↦ omega (arith, ahead, apart)
        | inl now ↦
            let low : p.die < old.page_map.geometry.dies = subst (λ (k : MapState). p.die < k.geometry.dies) (sym read.map) p.low in
            let at : get old.calendar.bookings (p.die, old.calendar.round) ≡ Some p.booking =
            ap (λ (r : ℕ). get old.calendar.bookings (p.die, r)) (sym now) ∙ p.is in
            let pending : is_read_pending (get old.jobs p.die) (get old.calendar.bookings (p.die, old.calendar.round)) ≡ true =
            ap (is_read_pending (get old.jobs p.die)) at ∙ or_left (not p.booking.started) _ (not_from_false _ p.waits) in
            absurd (false≢true (sym (not_pending none p.die low) ∙ pending))
      ]

  -- the bookings of the batch are not all passed where it waits
  waits_before : (b : ℕ) → results old b ≡ Waiting → old.calendar.round < read.until
  waits_before b waits =
      let has : contains_key old.batches b ≡ true =
      elim (cases_Bool (contains_key old.batches b)) [
        | inl has ↦ has
        | inr none ↦ absurd (torn_waits (results old b) (not_open_torn old b none) waits)
      ] in
      let own : results old batch ≡ Waiting = ap (results old) (sym (read.only b has)) ∙ waits in
      elim (cases_lt old.calendar.round read.until) [
        | inl early ↦ early
        | inr late ↦ elim (ready_in_time old batch read.until read.good late) [
          | inl torn ↦ absurd (torn_waits (results old batch) torn own)
          | inr ready ↦ absurd (ready_waits (results old batch) ready own)
        ]
      ]

  pub read_advance : (new : Core) (answer : Result Round AdvanceRefused) → Step old (Advance answer) new → (b : ℕ) → results old b ≡ Waiting
      → IsRead m copies batch in_time new
  read_advance new (Err refused) step b waits =
      subst (IsRead m copies batch in_time) (sym step.does.1) read
  read_advance new (Ok round) step b waits =
      let good = event_good (Until batch read.until) old (Advance (Ok round)) new step.allows step.does read.good tt in
      let e = step.does.2 in record {
        map = ap (λ (c : Core). c.page_map) e ∙ read.map;
        copies_are = ap (λ (c : Core). c.copies) e ∙ read.copies_are;
        free = subst (λ (c : Core). IsFree c) (sym e) read.free;
        calm = still_calm old new (ap (λ (c : Core). c.page_map) e)
            (λ die has. still_has die (sym (ap (λ (c : Core). contains_key c.calendar.windows die) e) ∙ has)) read.calm;
        until = read.until;
        is_in_time = read.is_in_time;
        good = good;
        round = let early = waits_before b waits in let now = ap (λ (c : Core). c.calendar.round) e in omega (arith, early, now);
        state = read.state;
        is_state = ap (λ (c : Core). get c.batches batch) e ∙ read.is_state;
        only = λ n has. read.only n (sym (ap (λ (c : Core). contains_key c.batches n) e) ∙ has);
        covers = λ page among unanswered.
            let p = read.covers page among unanswered in
            subst (λ (c : Core). IsPlaced m c.calendar.bookings batch page) (sym e)
            (placed_keep (λ place k. nat_lt old.calendar.round place.1) m old.calendar.bookings batch page p
            (lt-ltb old.calendar.round p.round (placed_later step.does.0 page p)));
      }
    where
      still_has : (die : ℕ) → contains_key (keep (λ d window. nat_lt old.calendar.round window.last.0) old.calendar.windows) die ≡ true
          → contains_key old.calendar.windows die ≡ true
      still_has die has =
          let test : ℕ → Window → Bool = λ d window. nat_lt old.calendar.round window.last.0 in
          let found = has_some (get (keep test old.calendar.windows) die) has in
          ap is_some (passed_some (test die) (get old.calendar.windows die) found.0
          (sym (get-keep nat_cmp_total nat_same test old.calendar.windows die) ∙ found.1))
