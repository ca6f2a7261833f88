-- What dies change whose jobs are taken and ended one after the other, where there is no step of a collector: a booking that cannot be
-- read is
-- dropped, or a booked read is started and gives its answer.
use Rattle.fa_machine.proofs.Maps.{get-insert_other, get-insert_same, get-remove_other, get-remove_same}
use Rattle.fa_machine.specs.Cells.{DidProgram, DidRead, DidSync, DidWriteHeader, Fault, Outcome, Wrong, is_of_kind}
use Rattle.fa_machine.specs.Cells.{payload_of}
use Rattle.fa_machine.specs.Collecting.{next_step, step_on, victim}
use Rattle.fa_machine.specs.State.{CalendarState, Core, MapState, OpenBatch, WaitingProgram, is_live}
use Rattle.fa_machine.specs.Step.{Done, Step, Take, is_sized_read}
use Rattle.fa_machine.specs.Taking.{EndsJob, Handed, after_urgent, begins, begun, finished, flight_of, handed, is_for, is_idle}
use Rattle.fa_machine.specs.Taking.{mask_of, other_job, program_of, read_ends, read_from, read_job, read_of, step_job, sync_job, taken}
use Rattle.fa_machine.specs.Taking.{urgent_job, with_answer, without_stale_booking}
use Rattle.fa_machine.specs.declared.jobs.CollectorStep.{CollectorStep}
use Rattle.fa_machine.specs.declared.jobs.CollectorStep.TheVariants.{Nothing}
use Rattle.fa_machine.specs.declared.jobs.Flight.{Flight}
use Rattle.fa_machine.specs.declared.jobs.Flight.TheVariants.{Erase, Header, Move, Program, Read, Sync}
use Rattle.fa_machine.specs.declared.places.Booking.{Booking}
use Rattle.fa_machine.specs.declared.places.Version.{Version}
use Rattle.fa_types.specs.Windows.{is_in_window}
use Rattle.fa_types.specs.declared.window.Window.{Window}
use Rattle.std.proofs.Common.{Bool, List, None, Option, Some, ap, arith, false, inl, inr, not, refl, subst, sym, true, ℕ, ◌==◌, ◌∙◌, ◌≡◌}
use Rattle.std.proofs.lemmas.Bool.{and_parts, cases_Bool, cases_eq, false≢true}
use Rattle.std.proofs.lemmas.Option.{none-some, same_Some}
use Rattle.std.specs.FinMap.{FinMap, contains_key, get, insert, remove}
use Rattle.std.specs.Option.{option_map_or, option_or}
use Rattle.std.specs.Ordering.{nat_cmp}
use Rattle.std.specs.Prelude.{find, if◌then◌else◌, is_some, nat_lt, option_and_then, option_map, unwrap_or, ◌&&◌}

-- what is looked at here: the page map, how many copies a page is to have, the calendar and the open batches
abbrev pub View : Type 0
View = MapState × ℕ × CalendarState × FinMap nat_cmp OpenBatch

abbrev pub seen : Core → View
seen core = (core.page_map, core.copies, core.calendar, core.batches)

-- the calendar in which a die's booking of this round was started
abbrev pub with_started : ℕ → Booking → CalendarState → CalendarState
with_started die b calendar =
    record calendar {
      bookings = insert calendar.bookings (die, calendar.round)
          (record { batch = b.batch; page = b.page; started = true });
    }

-- the batches with one more answer, where the batch is open
abbrev pub more_answers : FinMap nat_cmp OpenBatch → ℕ → ℕ → List ℕ → Option OpenBatch → FinMap nat_cmp OpenBatch
more_answers batches batch page bytes None = batches
more_answers batches batch page bytes (Some b) = insert batches batch (record b { answers = insert b.answers page bytes })

pub data Changes (old new : Core) : Type 0 where
  Stays : seen new ≡ seen old → Changes old new
  Drops : (die : ℕ) → read_job old die ≡ None → seen new ≡ seen (without_stale_booking die old) → Changes old new
  Answers : (die : ℕ) (b : Booking) (bytes : List ℕ) → get old.calendar.bookings (die, old.calendar.round) ≡ Some b → b.started ≡ false
      → seen new ≡ (
        old.page_map,
        old.copies,
        with_started die b old.calendar,
        more_answers old.batches b.batch.0 b.page.0 bytes (get old.batches b.batch.0),
      ) → Changes old new

-- no die has a job
abbrev pub IsFree : Core → Type 0
IsFree core = (die : ℕ) → get core.jobs die ≡ None

-- no live die that has a window has a block to collect
abbrev pub HasNoStep : Core → Type 0
HasNoStep core =
    (die : ℕ) → is_live core.page_map die ≡ true → contains_key core.calendar.windows die ≡ true → victim core.page_map die ≡ None

-- an event that leaves the state
pub stays : (old new : Core) → IsFree old → new ≡ old → Changes old new × IsFree new
stays old new free e = (Stays (ap seen e), subst IsFree (sym e) free)

none_if : {X : Type 0} (b : Bool) (o : Option X) → o ≡ None → (if b then o else None) ≡ None
none_if true o e = e
none_if false o e = refl

out_of_window : (w : Option Window) (round : ℕ) → is_some w ≡ false → is_in_window w round ≡ false
out_of_window None round e = refl
out_of_window (Some w) round e = absurd (false≢true (sym e))

no_step : (core : Core) (die : ℕ) → HasNoStep core → is_live core.page_map die ≡ true → step_job core die ≡ None
no_step core die calm live =
    elim (cases_Bool (contains_key core.calendar.windows die)) [
      | inl has ↦
          let nothing : ◌≡◌ {A = CollectorStep} (next_step core.page_map die) Nothing =
          ap (λ (v : Option ℕ). option_map_or (step_on core.page_map die) v Nothing) (calm die live has) in
          none_if (is_in_window (get core.calendar.windows die) core.calendar.round && not (contains_key core.stepped die))
          (flight_of core.page_map die (next_step core.page_map die)) (ap (flight_of core.page_map die) nothing)
      | inr without ↦
          ap (λ (b : Bool). if b && not (contains_key core.stepped die) then flight_of core.page_map die
          (next_step core.page_map die) else None)
          (out_of_window (get core.calendar.windows die) core.calendar.round without)
    ]

-- a header, a booked read, or neither
urgent_cases : (core : Core) (die : ℕ) → step_job core die ≡ None → (P : Option Flight → Type 0)
    → ((epoch live : ℕ) → P (Some (Header epoch live))) → ((flight : Flight) → read_job core die ≡ Some flight → P (Some flight))
    → (read_job core die ≡ None → P None) → P (urgent_job core die)
urgent_cases core die none P header read nothing =
    elim (contains_key core.behind die) as
    (λ b. P (option_or (if b then Some (Header core.epoch (mask_of core.page_map)) else None)
    (option_or (step_job core die) (read_job core die)))) [
      | true ↦ header core.epoch (mask_of core.page_map)
      | false ↦ subst (λ (s : Option Flight). P (option_or s (read_job core die))) (sym none) (at_read (read_job core die) refl)
    ]
  where
    at_read : (o : Option Flight) → read_job core die ≡ o → P o
    at_read None is = nothing is
    at_read (Some flight) is = read flight is

-- a program, a sync, or nothing
other_cases : (core : Core) (die : ℕ) (P : Option Handed → Type 0) → P None → ((p : WaitingProgram) → P (Some (program_of core.page_map p)))
    → ((flushes : ℕ) → P (Some (handed (Sync flushes)))) → P (other_job core die)
other_cases core die P nothing program sync =
    elim (find (is_for die) core.waiting) as (λ f. P (option_or (option_map (program_of core.page_map) f) (option_map handed (sync_job core die)))) [
      | Some p ↦ program p
      | None ↦ elim (nat_lt (unwrap_or (get core.synced die) 0) (unwrap_or (get core.asked die) 0)) as
          (λ b. P (option_map handed (if b then Some (Sync core.flushes) else None))) [
            | true ↦ sync core.flushes
            | false ↦ nothing
          ]
    ]

-- the read of a booking that was not started
record IsBooked (core : Core) (die : ℕ) (flight : Flight) : Type 0 where
  pub booking : Booking
  pub is : get core.calendar.bookings (die, core.calendar.round) ≡ Some booking
  pub waits : booking.started ≡ false
  pub version : Version
  pub slot : ℕ
  pub flight_is : flight ≡ Read booking.batch booking.page version (record { 0 = slot })

if_else : {X : Type 0} (b : Bool) (o : Option X) (x : X) → (if b then None else o) ≡ Some x → (b ≡ false) × (o ≡ Some x)
if_else true o x e = absurd (none-some x e)
if_else false o x e = (refl, e)

from_read : (b : Booking) (v : Option Version) (s : Option ℕ) (flight : Flight) → read_from b v s ≡ Some flight
    → (version : Version) × (slot : ℕ) × (flight ≡ Read b.batch b.page version (record { 0 = slot }))
from_read b None s flight e = absurd (none-some flight e)
from_read b (Some version) None flight e = absurd (none-some flight e)
from_read b (Some version) (Some slot) flight e = (version, slot, sym (same_Some _ flight e))

read_is : (core : Core) (die : ℕ) (o : Option Booking) (flight : Flight) → get core.calendar.bookings (die, core.calendar.round) ≡ o
    → option_and_then (read_of core.page_map die) o ≡ Some flight → IsBooked core die flight
read_is core die None flight is e = absurd (none-some flight e)
read_is core die (Some b) flight is e =
    let parts = if_else b.started (read_from b (get core.page_map.versions b.page.0) _) flight e in
    let read = from_read b _ _ flight parts.1 in
    record { booking = b; is = is; waits = parts.0; version = read.0; slot = read.1; flight_is = read.2 }

freed : (jobs : FinMap nat_cmp Flight) (die : ℕ) (flight : Flight) → ((d : ℕ) → get jobs d ≡ None) → (d : ℕ)
    → get (remove (insert jobs die flight) die) d ≡ None
freed jobs die flight free d =
    elim (cases_eq d die) [
      | inl same ↦ ap (get (remove (insert jobs die flight) die)) same ∙ get-remove_same (insert jobs die flight) die
      | inr apart ↦ get-remove_other (insert jobs die flight) die d apart ∙ get-insert_other jobs die flight d apart ∙ free d
    ]

-- a job that neither reads nor collects
abbrev IsPlainJob : Flight → Type 0
IsPlainJob (Header epoch live) = Unit {0}
IsPlainJob (Program page version slot) = Unit {0}
IsPlainJob (Sync flushes) = Unit {0}
IsPlainJob flight = ⊥

-- The same state as it is seen, with the same epoch and the same jobs.
record IsAlike (new old : Core) : Type 0 where
  pub alike : seen new ≡ seen old
  pub epoch : new.epoch ≡ old.epoch

plain_begins : (core : Core) (die seat : ℕ) (flight : Flight) → IsPlainJob flight → IsAlike (begun die seat flight core) core
plain_begins core die seat (Header epoch live) plain = record { alike = refl; epoch = refl }
plain_begins core die seat (Program page version slot) plain = record { alike = refl; epoch = refl }
plain_begins core die seat (Sync flushes) plain = record { alike = refl; epoch = refl }
plain_begins core die seat flight plain = absurd plain

header_ends : (b : Bool) (core : Core) (die : ℕ) → let x : Core = if b then record core { behind = remove core.behind die } else core in
    (seen x ≡ seen core) × (x.jobs ≡ core.jobs)
header_ends true core die = (refl, refl)
header_ends false core die = (refl, refl)

plain_ends : (core : Core) (die : ℕ) (flight : Flight) (outcome : Outcome) → IsPlainJob flight → (finished die flight outcome core).epoch
    ≡ core.epoch
    → (seen (finished die flight outcome core) ≡ seen core) × ((finished die flight outcome core).jobs ≡ core.jobs)
plain_ends core die (Read batch page version slot) outcome plain e = absurd plain
plain_ends core die (Move page version from to) outcome plain e = absurd plain
plain_ends core die (Erase block) outcome plain e = absurd plain
plain_ends core die (Program page version slot) DidProgram plain e = (refl, refl)
plain_ends core die (Header epoch live) DidWriteHeader plain e = header_ends (epoch == core.epoch) core die
plain_ends core die (Sync flushes) DidSync plain e = (refl, refl)
plain_ends core die flight (Fault call) plain e = absurd (omega (arith, e))
plain_ends core die flight Wrong plain e = absurd (omega (arith, e))
plain_ends core die flight outcome plain e = (refl, refl)

-- what a read gave its batch
answer_ends : (core : Core) (batch page : ℕ) (bytes : List ℕ) (b : Option OpenBatch)
    → (seen (with_answer batch page bytes b core) ≡
    (core.page_map, core.copies, core.calendar, more_answers core.batches batch page bytes b))
    × ((with_answer batch page bytes b core).jobs ≡ core.jobs)
answer_ends core batch page bytes None = (refl, refl)
answer_ends core batch page bytes (Some b) = (refl, refl)

read_job_ends : (core : Core) (die batch page : ℕ) (o : Option (List ℕ)) → (read_ends die batch page o core).epoch ≡ core.epoch
    → (bytes : List ℕ) × (seen (read_ends die batch page o core)
    ≡ (core.page_map, core.copies, core.calendar, more_answers core.batches batch page bytes (get core.batches batch)))
    × ((read_ends die batch page o core).jobs ≡ core.jobs)
read_job_ends core die batch page None e = absurd (omega (arith, e))
read_job_ends core die batch page (Some bytes) e =
    let ends = answer_ends core batch page bytes (get core.batches batch) in (bytes, ends.0, ends.1)

kind_is : (flight : Option Flight) (job : Flight) (outcome : Outcome) → flight ≡ Some job
    → option_map_or (λ f. is_of_kind f outcome) flight false ≡ true → is_of_kind job outcome ≡ true
kind_is flight job outcome is e = sym (ap (λ (f : Option Flight). option_map_or (λ f. is_of_kind f outcome) f false) is) ∙ e

module _ (old new : Core) (die seat : ℕ) (outcome : Outcome) (free : IsFree old) (calm : HasNoStep old) (same : new.epoch ≡ old.epoch) where
  -- what is asked of what a Take gives, and what follows
  abbrev Follows : Option Handed × Core → Type 0
  Follows pair =
      (job : Handed) → pair.0 ≡ Some job → option_map_or (λ f. is_of_kind f outcome) (get pair.1.jobs die) false ≡ true
      → EndsJob pair.1 die (get pair.1.jobs die) outcome new → Changes old new × IsFree new

  ends_as : (core : Core) (flight : Flight) → get core.jobs die ≡ Some flight → EndsJob core die (get core.jobs die) outcome new
      → new ≡ finished die flight outcome (record core { jobs = remove core.jobs die })
  ends_as core flight is ends = subst (λ (f : Option Flight). EndsJob core die f outcome new) is ends

  -- a job that neither reads nor collects changes nothing that is seen
  plain_job : (core : Core) (flight : Flight) → IsPlainJob flight → core.jobs ≡ old.jobs → core.epoch ≡ old.epoch
      → EndsJob (begun die seat flight core) die (get (begun die seat flight core).jobs die) outcome new → (seen new ≡ seen core)
      × IsFree new
  plain_job core flight plain jobs epoch ends =
      let begins_it = plain_begins core die seat flight plain in
      let x : Core = record (begun die seat flight core) { jobs = remove (insert core.jobs die flight) die } in
      let is : new ≡ finished die flight outcome x = ends_as (begun die seat flight core) flight
      (get-insert_same core.jobs die flight) ends in
      let now : (finished die flight outcome x).epoch ≡ x.epoch =
      sym (ap (λ (c : Core). c.epoch) is) ∙ same ∙ sym epoch ∙ sym begins_it.epoch in
      let ends_it = plain_ends x die flight outcome plain now in (
        (ap seen is ∙ ends_it.0 ∙ begins_it.alike),
        λ d. ap (λ (c : Core). get c.jobs d) is ∙ ap (λ (jobs : FinMap nat_cmp Flight). get jobs d) ends_it.1
            ∙ ap (λ (jobs : FinMap nat_cmp Flight). get (remove (insert jobs die flight) die) d) jobs ∙ freed old.jobs die flight free d,
      )

  -- a booked read is started, and its batch has the answer
  read_ends_so : (b : Booking) (version : Version) (slot : ℕ) (o : Outcome) → is_of_kind
      (Read b.batch b.page version (record { 0 = slot })) o ≡ true
      → get old.calendar.bookings (die, old.calendar.round) ≡ Some b → b.started ≡ false
      → let flight : Flight = Read b.batch b.page version (record { 0 = slot }) in
      new ≡ finished die flight o (record (begun die seat flight old) { jobs = remove (insert old.jobs die flight) die })
      → Changes old new × IsFree new
  read_ends_so b version slot (DidRead cell) kind is waits e =
      let flight : Flight = Read b.batch b.page version (record { 0 = slot }) in
      let x : Core = record (begun die seat flight old) { jobs = remove (insert old.jobs die flight) die } in
      let ends = read_job_ends x die b.batch.0 b.page.0 (payload_of b.page.0 version die slot cell)
      (sym (ap (λ (c : Core). c.epoch) e) ∙ same) in (
        Answers die b ends.0 is waits (ap seen e ∙ ends.1),
        λ d. ap (λ (c : Core). get c.jobs d) e ∙ ap (λ (jobs : FinMap nat_cmp Flight). get jobs d) ends.2
            ∙ freed old.jobs die flight free d,
      )
  read_ends_so b version slot (Fault call) kind is waits e = absurd (let n = sym (ap (λ (c : Core). c.epoch) e) ∙ same in omega (arith, n))
  read_ends_so b version slot Wrong kind is waits e = absurd (false≢true kind)
  read_ends_so b version slot outcome kind is waits e = absurd (false≢true kind)

  read_job_so : (flight : Flight) → IsBooked old die flight → Follows (Some (handed flight), begun die seat flight old)
  read_job_so flight booked =
      subst (λ (f : Flight). Follows (Some (handed f), begun die seat f old)) (sym booked.flight_is)
      (λ job is kind ends.
      let f : Flight = Read booked.booking.batch booked.booking.page booked.version (record { 0 = booked.slot }) in
      read_ends_so booked.booking booked.version booked.slot outcome
      (kind_is (get (begun die seat f old).jobs die) f outcome (get-insert_same old.jobs die f) kind) booked.is booked.waits
      (ends_as (begun die seat f old) f (get-insert_same old.jobs die f) ends))

  other_job_so : read_job old die ≡ None → Follows (begins die seat (without_stale_booking die old)
      (other_job (without_stale_booking die old) die))
  other_job_so none =
      let left : Core = without_stale_booking die old in
      other_cases left die (λ job. Follows (begins die seat left job)) (λ job is. absurd (none-some job is))
      (λ p job is kind ends. let made = plain_job left (program_of left.page_map p).flight tt refl refl ends in (Drops die none made.0, made.1))
      (λ flushes job is kind ends. let made = plain_job left (Sync flushes) tt refl refl ends in (Drops die none made.0, made.1))

  taken_so : Follows (taken old die seat)
  taken_so =
      elim (is_idle old die) as (λ b. is_idle old die ≡ b → Follows
      (if b then after_urgent die seat old (urgent_job old die) else (None, old))) [
        | false ↦ λ busy job is. absurd (none-some job is)
        | true ↦ λ idle.
            urgent_cases old die (no_step old die calm (and_parts (is_live old.page_map die) _ idle).0)
            (λ (job : Option Flight). Follows (after_urgent die seat old job))
            (λ epoch live job is kind ends.
            let made = plain_job old (Header epoch live) tt refl refl ends in (Stays made.0, made.1))
            (λ flight is. read_job_so flight (read_is old die (get old.calendar.bookings (die, old.calendar.round)) flight refl is))
            (λ none. other_job_so none)
      ] refl

-- A job of a die, from its Take to its Done.
pub job_changes : (old between new : Core) (die seat : ℕ) (job : Handed) (outcome : Outcome) → IsFree old → HasNoStep old
    → Step old (Take die seat (Some job)) between → Step between (Done die outcome) new → new.epoch ≡ old.epoch → Changes old new
    × IsFree new
job_changes old between new die seat job outcome free calm takes ends same =
    let follows = subst (Follows old new die seat outcome free calm same) (sym takes.does)
    (taken_so old new die seat outcome free calm same) in
    follows job refl
    (and_parts (option_map_or (λ f. is_of_kind f outcome) (get between.jobs die) false)
    (is_sized_read between outcome) ends.allows).0 ends.does

-- A Take that gives no job.
pub no_job_changes : (old new : Core) (die seat : ℕ) → IsFree old → HasNoStep old → Step old (Take die seat None) new → Changes old new
    × IsFree new
no_job_changes old new die seat free calm takes =
    subst (λ (pair : Option Handed × Core). pair.0 ≡ None → Changes old pair.1 × IsFree pair.1) (sym takes.does)
    (elim (is_idle old die) as (λ b. is_idle old die ≡ b → let pair : Option Handed × Core = if b then after_urgent die seat old
    (urgent_job old die) else (None, old) in
    pair.0 ≡ None → Changes old pair.1 × IsFree pair.1) [
      | false ↦ λ busy is. (Stays refl, free)
      | true ↦ λ idle.
          urgent_cases old die (no_step old die calm (and_parts (is_live old.page_map die) _ idle).0)
          (λ (job : Option Flight). let pair : Option Handed × Core = after_urgent die seat old job in
          pair.0 ≡ None → Changes old pair.1 × IsFree pair.1)
          (λ epoch live is. absurd (none-some _ (sym is)))
          (λ flight read is. absurd (none-some _ (sym is)))
          (λ none. let left : Core = without_stale_booking die old in
          other_cases left die (λ (job : Option Handed). let pair : Option Handed × Core = begins die seat left job in
          pair.0 ≡ None → Changes old pair.1 × IsFree pair.1)
          (λ is. (Drops die none refl, free)) (λ p is. absurd (none-some _ (sym is))) (λ flushes is. absurd (none-some _ (sym is))))
    ] refl) refl
