-- Each event keeps the bookings ahead, and a batch whose bookings have passed has its answers.
use Rattle.fa_laws.proofs.Endings.{HappensCall}
use Rattle.fa_laws.proofs.Booked.{Good, MayPlan, dropped_good, ended_good, good_same, kept_all, planned_all, planned_before}
use Rattle.fa_laws.proofs.Booked.{planned_timely, released_good, same_after, take_good, to_good}
use Rattle.fa_laws.proofs.Events.{first_refusal}
use Rattle.fa_laws.proofs.Finishing.{passed_some, passed_test}
use Rattle.fa_machine.proofs.Lists.{among-filter-intro, among-range, any_none}
use Rattle.fa_machine.proofs.Maps.{get-keep, nat_same, place_cmp_total, place_itself, place_same}
use Rattle.fa_machine.proofs.Values.{any_value, some_value}
use Rattle.fa_laws.proofs.Runs.{run_keeps}
use Rattle.fa_machine.specs.Among.{Among}
use Rattle.fa_laws.proofs.Timely.{TimelyCore, advanced_timely}
use Rattle.fa_laws.specs.InTime.{IsPlannedUntil, PlansNothing}
use Rattle.fa_laws.specs.Reached.{IsReached}
use Rattle.fa_machine.specs.Beginning.{IsBeginning}
use Rattle.fa_machine.specs.Cells.{DidErase, DidMove, DidProgram, DidRead, DidSync, DidWriteHeader, Fault, Outcome, Wrong}
use Rattle.fa_machine.specs.Conditions.{reserved_under}
use Rattle.fa_machine.specs.Maps.{place_cmp}
use Rattle.fa_machine.specs.Placement.{copy_place}
use Rattle.fa_machine.specs.Reading.{batch_at, is_booked, is_read_for, left_of, released, results}
use Rattle.fa_machine.specs.Run.{CallsNext, Event, Happening, Happens, ImageCall, Run}
use Rattle.fa_machine.specs.State.{Core, OpenBatch, Reservation, dies_of}
use Rattle.fa_machine.specs.Step.{Abandon, Act, Admit, Advance, Claim, Commit, CommitCopy, Does, Done, EndBatch, FlushBegin}
use Rattle.fa_machine.specs.Step.{FlushState, Fold, Release, Replan, Reserve, ReserveCopy, ReserveFewer, ReserveHole, SpareIn, Take}
use Rattle.fa_machine.specs.Step.{Window, allowed, is_die}
use Rattle.fa_machine.specs.Taking.{EndsJob, finished, read_ends, with_answer}
use Rattle.fa_machine.specs.Turning.{CommitsCopy, advance_refusal, copying_to, is_read_pending, is_round_pending, is_step_pending}
use Rattle.fa_machine.specs.World.{Gave, JobCall, Work, World, next_call}
use Rattle.fa_machine.specs.Writing.{Abandons, Commits, Reserves}
use Rattle.fa_machine.specs.declared.answers.Copied.{Copied}
use Rattle.fa_machine.specs.declared.answers.Copied.TheVariants.{Current, Late}
use Rattle.fa_machine.specs.declared.answers.ReadState.TheVariants.{Ready, Torn, Waiting}
use Rattle.fa_machine.specs.declared.ids.BatchId.{BatchId}
use Rattle.fa_machine.specs.declared.jobs.Flight.{Flight}
use Rattle.fa_machine.specs.declared.jobs.Flight.TheVariants.{Erase, Header, Move, Program, Read, Sync}
use Rattle.fa_machine.specs.declared.places.Booking.{Booking}
use Rattle.fa_machine.specs.declared.places.Copying.{Copying}
use Rattle.fa_types.specs.declared.kind.Kind.{Kind}
use Rattle.fa_machine.specs.declared.places.Version.{Version}
use Rattle.fa_machine.specs.declared.refusals.AbandonRefused.{AbandonRefused}
use Rattle.fa_machine.specs.declared.refusals.AdvanceRefused.TheVariants.{Idle, Pending as AdvancePending, Spent as AdvanceSpent}
use Rattle.fa_machine.specs.declared.refusals.ClaimRefused.TheVariants.{Claimed, NoMemory as ClaimNoMemory}
use Rattle.fa_machine.specs.declared.refusals.CommitCopyRefused.{CommitCopyRefused}
use Rattle.fa_machine.specs.declared.refusals.CommitCopyRefused.TheVariants.{Failed as CopyFailed, Pending as CopyPending}
use Rattle.fa_machine.specs.declared.refusals.CommitRefused.{CommitRefused}
use Rattle.fa_machine.specs.declared.refusals.FlushRefused.TheVariants.{Spent}
use Rattle.fa_machine.specs.declared.refusals.ReserveCopyRefused.TheVariants.{NoMemory as CopyNoMemory}
use Rattle.fa_machine.specs.declared.refusals.ReserveRefused.{ReserveRefused}
use Rattle.fa_machine.specs.declared.refusals.ReserveRefused.TheVariants.{NoMemory as ReserveNoMemory}
use Rattle.fa_machine.specs.declared.refusals.SpareRefused.TheVariants.{NotSpare}
use Rattle.fa_machine.specs.declared.refusals.WindowRefused.TheVariants.{Busy as WindowBusy, HasOne, NoMemory as WindowNoMemory}
use Rattle.fa_types.specs.declared.numbers.Seq.{Seq}
use Rattle.std.proofs.Common.{Bool, List, None, Option, Some, [], ap, arith, eq-eqb, eqb-true, false, inl, inr, max, nat_lt, not, refl}
use Rattle.std.proofs.Common.{subst, sym, true, ℕ, ◌+◌, ◌<◌, ◌^◌, ◌||◌, ◌∙◌, ◌∷◌, ◌≡◌, ◌≤◌, ◌⊎◌}
use Rattle.std.proofs.lemmas.Bool.{and_from, and_parts, cases_Bool, false_from_ne_true, false≢true, ltb-true, not-true, not_from_false}
use Rattle.std.proofs.lemmas.Bool.{or_cases, or_from, or_parts, true≢false}
use Rattle.std.proofs.lemmas.Option.{none-some}
use Rattle.std.specs.Cmp.{nat_cmp_total, unsigned_tied}
use Rattle.std.specs.FinMap.{contains_key, get, get-empty, len, values}
use Rattle.std.specs.List.{AllByRecursion, list_all, list_any}
use Rattle.std.specs.Ordering.{is_eq, nat_cmp}
use Rattle.std.specs.Prelude.{Err, Ok, Result, if◌then◌else◌, ◌&&◌, ◌==◌}
use Rattle.std.specs.declared.cmp.Ordering.{Ordering}
use Rattle.std.specs.declared.cmp.Ordering.TheVariants.{Equal, Greater, Less}

module _ (K : ℕ → ℕ → BatchId → Type 0) where
  answer_good : (core : Core) → Good K core → (batch page : ℕ) (bytes : List ℕ) (b : Option OpenBatch) → Good K (with_answer batch page bytes b core)
  answer_good core g batch page bytes None = g
  answer_good core g batch page bytes (Some b) = good_same K core g _ refl refl refl refl

  read_good : (core : Core) → Good K core → (die batch page : ℕ) (o : Option (List ℕ)) → Good K (read_ends die batch page o core)
  read_good core g die batch page None = dropped_good K core g die
  read_good core g die batch page (Some bytes) = answer_good core g batch page bytes (get core.batches batch)

  header_good : (b : Bool) (core : Core) → Good K core → (x : Core) → Good K x → Good K (if b then x else core)
  header_good true core g x f = f
  header_good false core g x f = g

  finished_good : (core : Core) → Good K core → (die : ℕ) (flight : Flight) (outcome : Outcome) → Good K (finished die flight outcome core)
  finished_good core g die (Read batch page version slot) (DidRead cell) = read_good core g die batch.0 page.0 _
  finished_good core g die (Program page version slot) DidProgram = good_same K core g _ refl refl refl refl
  finished_good core g die (Move page version from to) DidMove = good_same K core g _ refl refl refl refl
  finished_good core g die (Erase block) DidErase = good_same K core g _ refl refl refl refl
  finished_good core g die (Header epoch live) DidWriteHeader = header_good (epoch == core.epoch) core g _ (good_same K core g _ refl refl refl refl)
  finished_good core g die (Sync flushes) DidSync = good_same K core g _ refl refl refl refl
  finished_good core g die flight (Fault call) = dropped_good K core g die
  finished_good core g die flight Wrong = dropped_good K core g die
  finished_good core g die flight outcome = g

  done_good : (old new : Core) → Good K old → (die : ℕ) (flight : Option Flight) (outcome : Outcome) → EndsJob old die flight outcome new → Good K new
  done_good old new g die None outcome e = absurd e
  done_good old new g die (Some flight) outcome e = to_good K new _ e (finished_good _ (ended_good K old g die) die flight outcome)

  reserve_good : (old new : Core) → Good K old → (claim least : ℕ) (kind : Kind) (payload : List ℕ) (answer : Result Seq ReserveRefused)
      → Reserves old claim least kind payload answer new → Good K new
  reserve_good old new g claim least kind payload (Ok seq) d = same_after K old new _ d.2 g refl refl refl refl
  reserve_good old new g claim least kind payload (Err ReserveNoMemory) d = to_good K new old d.1 g
  reserve_good old new g claim least kind payload (Err refused) d = to_good K new old d.1 g

  commit_good : (old new : Core) → Good K old → (claim seat : ℕ) (r : Option Reservation) (answer : Result Seq CommitRefused)
      → Commits old claim seat r answer new → Good K new
  commit_good old new g claim seat None answer d = absurd d
  commit_good old new g claim seat (Some r) (Ok seq) d = same_after K old new _ d.2 g refl refl refl refl
  commit_good old new g claim seat (Some r) (Err refused) d = to_good K new old d.1 g

  abandon_good : (old new : Core) → Good K old → (claim : ℕ) (r : Option Reservation) (answer : Result (Unit {0}) AbandonRefused)
      → Abandons old claim r answer new → Good K new
  abandon_good old new g claim None answer d = absurd d
  abandon_good old new g claim (Some r) (Ok made) d = same_after K old new _ d.1 g refl refl refl refl
  abandon_good old new g claim (Some r) (Err refused) d = to_good K new old d.1 g

  copying_good : (old : Core) → Good K old → (page : ℕ) (payload : List ℕ) (v : Option Version) (die : Option ℕ) → Good K (copying_to old page payload v die)
  copying_good old g page payload (Some v) (Some die) = good_same K old g _ refl refl refl refl
  copying_good old g page payload v die = g

  copy_good : (old new : Core) → Good K old → (c : Option Copying) (answer : Result Copied CommitCopyRefused) → CommitsCopy old c answer new → Good K new
  copy_good old new g None answer d = absurd d
  copy_good old new g (Some c) (Ok Current) d = same_after K old new _ d.2 g refl refl refl refl
  copy_good old new g (Some c) (Ok Late) d = same_after K old new _ d.2 g refl refl refl refl
  copy_good old new g (Some c) (Err CopyPending) d = to_good K new old d.1 g
  copy_good old new g (Some c) (Err CopyFailed) d = same_after K old new _ d.1 g refl refl refl refl

  -- no read is pending where the round rises
  not_pending : (old : Core) → advance_refusal old ≡ None → (d : ℕ) → d < old.page_map.geometry.dies
      → is_read_pending (get old.jobs d) (get old.calendar.bookings (d, old.calendar.round)) ≡ false
  not_pending old none d low =
      (or_parts (is_read_pending (get old.jobs d) (get old.calendar.bookings (d, old.calendar.round))) (is_step_pending old d)
      (any_none (is_round_pending old) (dies_of old.page_map)
      (first_refusal (list_any (is_round_pending old) (dies_of old.page_map)) (len old.calendar.bookings == 0 && len old.calendar.windows == 0)
      (old.calendar.round == 2 ^ 56) AdvancePending Idle AdvanceSpent none) d
      (among-range 0 old.page_map.geometry.dies d (omega arith) (omega (arith, low))))).0

  pub event_good : (old : Core) (act : Act) (new : Core) → allowed old act ≡ true → Does old act new → Good K old → MayPlan K act → Good K new
  event_good old (Claim page (Ok id)) new may d g k = same_after K old new _ d.2 g refl refl refl refl
  event_good old (Claim page (Err Claimed)) new may d g k = to_good K new old d.1 g
  event_good old (Claim page (Err ClaimNoMemory)) new may d g k = to_good K new old d.1 g
  event_good old (Release claim) new may d g k = same_after K old new _ d g refl refl refl refl
  event_good old (Reserve claim payload answer) new may d g k = reserve_good old new g claim _ _ payload answer d
  event_good old (ReserveHole claim answer) new may d g k = reserve_good old new g claim _ _ _ answer d
  event_good old (ReserveFewer claim payload answer) new may d g k = reserve_good old new g claim _ _ payload answer d
  event_good old (Commit claim seat answer) new may d g k = commit_good old new g claim seat (reserved_under old claim) answer d
  event_good old (Abandon claim answer) new may d g k = abandon_good old new g claim (reserved_under old claim) answer d
  event_good old (Admit pages (Ok admitted)) new may d g k = to_good K new _ d.2 (record {
    timely = planned_timely old.page_map old.calendar _ admitted.planned admitted.batch old.jobs old.page_map.geometry.dies d.0.2 g.timely;
    all = planned_all K old.page_map old.calendar admitted.batch admitted.planned.places g.all k;
  })
  event_good old (Admit pages (Err refused)) new may d g k = to_good K new old d.1 g
  event_good old (Replan batch (Ok planned)) new may d g k =
      let left = released_good K old g batch in
      to_good K new _ d.1 (record {
        timely = planned_timely old.page_map (released batch old.calendar) _ planned (record { 0 = batch }) old.jobs old.page_map.geometry.dies d.0.2 left.timely;
        all = planned_all K old.page_map (released batch old.calendar) (record { 0 = batch }) planned.places left.all k;
      })
  event_good old (Replan batch (Err refused)) new may d g k = to_good K new old d.1 g
  event_good old (EndBatch batch answer) new may d g k =
      to_good K new _ d.1 (good_same K (record old { calendar = released batch old.calendar }) (released_good K old g batch) _ refl refl refl refl)
  event_good old (Take die seat answer) new may d g k =
      take_good K old g die seat answer new (ltb-true die old.page_map.geometry.dies (and_parts (is_die old die) _ may).0) d
  event_good old (Done die outcome) new may d g k = done_good old new g die (get old.jobs die) outcome d
  event_good old (Window die count (Ok first)) new may d g k = same_after K old new _ d.3 g refl refl refl refl
  event_good old (Window die count (Err WindowBusy)) new may d g k = to_good K new old d.1 g
  event_good old (Window die count (Err HasOne)) new may d g k = to_good K new old d.2 g
  event_good old (Window die count (Err WindowNoMemory)) new may d g k = to_good K new old d.2 g
  event_good old (Advance (Ok round)) new may d g k = to_good K new _ d.2 (record {
    timely = advanced_timely old.calendar.bookings old.calendar.round old.jobs old.page_map.geometry.dies (not_pending old d.0) g.timely;
    all = kept_all K old.calendar.bookings (λ place b. nat_lt old.calendar.round place.1) g.all;
  })
  event_good old (Advance (Err refused)) new may d g k = to_good K new old d.1 g
  event_good old (SpareIn die (Ok made)) new may d g k = same_after K old new _ d.1 g refl refl refl refl
  event_good old (SpareIn die (Err NotSpare)) new may d g k = to_good K new old d.1 g
  event_good old (ReserveCopy page seq payload (Ok made)) new may d g k =
      to_good K new _ d.1 (copying_good old g page payload (get old.page_map.versions page) (copy_place old.copies old.page_map page))
  event_good old (ReserveCopy page seq payload (Err CopyNoMemory)) new may d g k = to_good K new old d.1 g
  event_good old (ReserveCopy page seq payload (Err refused)) new may d g k = to_good K new old d.1 g
  event_good old (CommitCopy answer) new may d g k = copy_good old new g old.copying answer d
  event_good old (FlushBegin (Ok flush)) new may d g k = same_after K old new _ d.3 g refl refl refl refl
  event_good old (FlushBegin (Err Spent)) new may d g k = to_good K new old d.1 g
  event_good old (FlushState flush answer) new may d g k = to_good K new old d.1 g
  event_good old Fold new may d g k = same_after K old new _ d g refl refl refl refl

  pub call_good : (before after : World) (die : ℕ) (work : Option Work) (gave : Gave) → HappensCall before die work gave after → Good K before.core → Good K after.core
  call_good before after die None gave c g = absurd c
  call_good before after die (Some work) gave c g = next_good (next_call die work.job work.gave) c
    where
      next_good : (call : Option JobCall) → CallsNext before die (Some work) call gave after → Good K after.core
      next_good None c = absurd c
      next_good (Some call) c = to_good K after.core before.core (ap (λ (v : World). v.core) c.2) g

-- a state at a beginning has no booking and no job
pub begins_good : (K : ℕ → ℕ → BatchId → Type 0) (w : World) → IsBeginning w → Good K w.core
begins_good K w b = record {
  timely = record {
    ahead = λ d r k e. absurd (no_booking d r k e);
    begun_now = λ d r k e s. absurd (no_booking d r k e);
    reads = λ d batch page version slot e. absurd (no_job d (Read batch page version slot) e);
    within = λ d flight e. absurd (no_job d flight e);
  };
  all = λ d r k e. absurd (no_booking d r k e);
}
  where
    no_booking : (d r : ℕ) (k : Booking) → get w.core.calendar.bookings (d, r) ≡ Some k → ⊥
    no_booking d r k e = none-some k (sym (ap (λ (c : Core). get c.calendar.bookings (d, r)) b.fresh ∙ get-empty place_cmp (d, r)) ∙ e)

    no_job : (d : ℕ) (flight : Flight) → get w.core.jobs d ≡ Some flight → ⊥
    no_job d flight e = none-some flight (sym (ap (λ (c : Core). get c.jobs d) b.fresh ∙ get-empty nat_cmp d) ∙ e)

no_plan : (act : Act) → MayPlan (λ d r batch. Unit {0}) act
no_plan (Admit pages (Ok admitted)) = λ x i. tt
no_plan (Replan b (Ok planned)) = λ x i. tt
no_plan act = tt

happens_good : (before : World) (happening : Happening) (after : World) → Good (λ d r batch. Unit {0}) before.core → Happens before happening after
    → Good (λ d r batch. Unit {0}) after.core
happens_good before (Event act) after g h = event_good (λ d r batch. Unit {0}) before.core act after.core h.step.allows h.step.does g (no_plan act)
happens_good before (ImageCall die gave) after g h = call_good (λ d r batch. Unit {0}) before after die (before.works die) gave h g

pub reached_timely : (w : World) → IsReached w → TimelyCore w.core
reached_timely w r =
    (run_keeps (λ (v : World). Good (λ d r batch. Unit {0}) v.core) (λ before happening after g h. happens_good before happening after g h)
    r.first r.happenings w (begins_good (λ d r batch. Unit {0}) r.first r.beginning) r.run).timely

-- a booking of the batch is before that round
abbrev pub Until : ℕ → ℕ → ℕ → ℕ → BatchId → Type 0
Until batch until d r b = b.0 ≡ batch → r < until

no_plan_until : (batch until : ℕ) (act : Act) → PlansNothing batch (Event act) → MayPlan (Until batch until) act
no_plan_until batch until (Admit pages (Ok admitted)) none = λ x i same. absurd (none same)
no_plan_until batch until (Admit pages (Err refused)) none = tt
no_plan_until batch until (Replan b (Ok planned)) none = λ x i same. absurd (none same)
no_plan_until batch until (Replan b (Err refused)) none = tt
no_plan_until batch until act none = tt

pub run_until : (batch until : ℕ) (first : World) (happenings : List Happening) (last : World) → Good (Until batch until) first.core
    → Run first happenings last → AllByRecursion (PlansNothing batch) happenings → Good (Until batch until) last.core
run_until batch until first [] last g run none = subst (λ (v : World). Good (Until batch until) v.core) (sym run) g
run_until batch until first (Event act ∷ happenings) last g run none =
    run_until batch until run.0 happenings last
    (event_good (Until batch until) first.core act run.0.core run.1.step.allows run.1.step.does g (no_plan_until batch until act none.0)) run.2 none.1
run_until batch until first (ImageCall die gave ∷ happenings) last g run none =
    run_until batch until run.0 happenings last (call_good (Until batch until) first run.0 die (first.works die) gave run.1 g) run.2 none.1

first_of_them : (a b c : Bool) → (a && b && c) ≡ true → a ≡ true
first_of_them true b c e = refl
first_of_them false b c e = absurd (false≢true e)

nat_itself : (n : ℕ) → nat_cmp n n ≡ Equal
nat_itself n = equal_of (nat_cmp n n) (unsigned_tied n n ∙ eq-eqb n n refl)
  where
    equal_of : (r : Ordering) → is_eq r ≡ true → r ≡ Equal
    equal_of Less h = absurd (false≢true h)
    equal_of Equal h = refl
    equal_of Greater h = absurd (false≢true h)

-- what a batch has left booked as it is planned anew was started, and so is of this round
left_before : (old : Core) (b batch until rounds : ℕ) → TimelyCore old → b ≡ batch → until ≡ old.calendar.round + max 1 rounds
    → (d r : ℕ) (k : Booking) → get (released b old.calendar).bookings (d, r) ≡ Some k → k.batch.0 ≡ batch → r < until
left_before old b batch until rounds t is u d r k e same =
    let test : Booking → Bool = λ booking. booking.started || not (booking.batch.0 == b) in
    let at = sym (get-keep place_cmp_total place_same (λ place booking. booking.started || not (booking.batch.0 == b)) old.calendar.bookings (d, r)) ∙ e in
    let was = passed_some test (get old.calendar.bookings (d, r)) k at in
    elim (or_cases k.started (not (k.batch.0 == b)) (passed_test test (get old.calendar.bookings (d, r)) k at)) [
      | inl started_one ↦ let n = t.begun_now d r k was started_one in omega (arith, n, u)
      | inr other ↦ absurd (false≢true (sym (not-true (k.batch.0 == b) other) ∙ eq-eqb k.batch.0 b (same ∙ sym is)))
    ]

-- what is booked for the batch as it was planned
pub planned_until : (old new : Core) (act : Act) (batch until : ℕ) → Does old act new → allowed old act ≡ true → TimelyCore old
    → IsPlannedUntil old act batch until → Good (Until batch until) new
planned_until old new (Admit pages (Ok admitted)) batch until d may t is =
    let fresh = not-true _ d.1 in
    let unbooked = (or_parts (contains_key old.batches admitted.batch.0) _ (or_parts (contains_key old.batches admitted.batch.0 || list_any (λ (b : Booking). b.batch.0 == admitted.batch.0) (values old.calendar.bookings)) _ fresh).0).1 in
    event_good (Until batch until) old (Admit pages (Ok admitted)) new may d
    (record {
      timely = t;
      all = λ x r b e same. absurd (false≢true (sym unbooked ∙ any_value (λ (b : Booking). b.batch.0 == admitted.batch.0) old.calendar.bookings (x, r) b e
          (eq-eqb b.batch.0 admitted.batch.0 (same ∙ sym is.0))));
    })
    (λ x i same. let n = planned_before old.page_map old.calendar _ admitted.planned d.0.2 x i in let u = is.1 in omega (arith, n, u))
planned_until old new (Replan b (Ok planned)) batch until d may t is =
    let left = (released_good (λ d r k. Unit {0}) old (record { timely = t; all = λ x r k e. tt }) b).timely in
    to_good (Until batch until) new _ d.1 (record {
      timely = planned_timely old.page_map (released b old.calendar) _ planned (record { 0 = b }) old.jobs old.page_map.geometry.dies d.0.2 left;
      all = planned_all (Until batch until) old.page_map (released b old.calendar) (record { 0 = b }) planned.places
          (λ x r k e same. left_before old b batch until planned.rounds t is.0 is.1 x r k e same)
          (λ x i same. let n = planned_before old.page_map (released b old.calendar) _ planned d.0.2 x i in let u = is.1 in omega (arith, n, u));
    })
planned_until old new (Admit pages (Err refused)) batch until d may t is = absurd is
planned_until old new (Replan b (Err refused)) batch until d may t is = absurd is
planned_until old new act batch until d may t is = absurd is

-- no booking that lies ahead is of the batch
none_booked : (core : Core) (batch until : ℕ) → Good (Until batch until) core → until ≤ core.calendar.round → (page : ℕ) → is_booked core batch page ≡ false
none_booked core batch until g passed_by page =
    false_from_ne_true (is_booked core batch page) (λ yes_it_is.
    let found = some_value place_cmp_total place_same place_itself (λ (b : Booking). b.batch.0 == batch && b.page.0 == page && not b.started) core.calendar.bookings yes_it_is in
    let of_batch = first_of_them (found.1.batch.0 == batch) (found.1.page.0 == page) (not found.1.started) found.3 in
    let low = g.timely.ahead found.0.0 found.0.1 found.1 found.2 in
    let high = g.all found.0.0 found.0.1 found.1 found.2 (eqb-true found.1.batch.0 batch of_batch) in
    omega (arith, low, high, passed_by))

-- no read in flight is of the batch
none_read : (core : Core) (batch until : ℕ) → Good (Until batch until) core → until ≤ core.calendar.round → (page : ℕ) → list_any (is_read_for batch page) (values core.jobs) ≡ false
none_read core batch until g passed_by page =
    false_from_ne_true (list_any (is_read_for batch page) (values core.jobs)) (λ reading.
    let found = some_value nat_cmp_total nat_same nat_itself (is_read_for batch page) core.jobs reading in
    of_flight found.0 found.1 found.2 found.3)
  where
    of_flight : (d : ℕ) (flight : Flight) → get core.jobs d ≡ Some flight → is_read_for batch page flight ≡ true → ⊥
    of_flight d (Read b p v slot) e is =
        let found = g.timely.reads d b p v slot e in
        let low = g.timely.ahead d core.calendar.round found.0 found.1 in
        let same = eqb-true b.0 batch (and_parts (b.0 == batch) (p.0 == page) is).0 in
        let high = g.all d core.calendar.round found.0 found.1 (ap (λ (k : BatchId). k.0) found.2 ∙ same) in
        omega (arith, high, passed_by)
    of_flight d (Program p v slot) e is = false≢true is
    of_flight d (Move p v from to) e is = false≢true is
    of_flight d (Header epoch live) e is = false≢true is
    of_flight d (Erase block) e is = false≢true is
    of_flight d (Sync flushes) e is = false≢true is

all_pass : {X : Type 0} (p : X → Bool) (xs : List X) → ((x : X) → Among x xs → p x ≡ true) → list_all p xs ≡ true
all_pass p [] all = refl
all_pass p (x ∷ xs) all = and_from (p x) (list_all p xs) (all x (inl refl)) (all_pass p xs (λ y i. all y (inr i)))

abbrev torn_test : Core → ℕ → Bool
torn_test core batch = not (contains_key core.batches batch) || list_any (λ page. not (is_booked core batch page)) (left_of core batch)

-- a batch that is not torn, and of which nothing is booked or in flight, has each answer
pub ready_in_time : (core : Core) (batch until : ℕ) → Good (Until batch until) core → until ≤ core.calendar.round
    → (results core batch ≡ Torn) ⊎ (results core batch ≡ Ready)
ready_in_time core batch until g passed_by =
    elim (cases_Bool (torn_test core batch)) [
      | inl torn ↦ inl (ap (λ b. if b then Torn else (if answered_all then Ready else Waiting)) torn)
      | inr whole ↦ inr (ap (λ b. if b then Torn else (if answered_all then Ready else Waiting)) whole
          ∙ ap (λ b. if b then Ready else Waiting) (all_pass (λ page. contains_key (batch_at core batch).answers page) (batch_at core batch).pages (answered_page whole)))
    ]
  where
    answered_all : Bool
    answered_all = list_all (λ page. contains_key (batch_at core batch).answers page) (batch_at core batch).pages

    answered_page : torn_test core batch ≡ false → (page : ℕ) → Among page (batch_at core batch).pages → contains_key (batch_at core batch).answers page ≡ true
    answered_page whole page among =
        elim (cases_Bool (contains_key (batch_at core batch).answers page)) [
          | inl answered_one ↦ answered_one
          | inr open_one ↦
              let none = (or_parts (not (contains_key core.batches batch)) _ whole).1 in
              let left = among-filter-intro (λ p. not (contains_key (batch_at core batch).answers p || list_any (is_read_for batch p) (values core.jobs))) page (batch_at core batch).pages among
              (not_from_false _ (or_from _ _ open_one (none_read core batch until g passed_by page))) in
              absurd (true≢false (sym (not_from_false _ (none_booked core batch until g passed_by page)) ∙ any_none (λ p. not (is_booked core batch p)) (left_of core batch) none page left))
        ]
