-- A job begins by a Take, and ends by the Done of its die. A sync is for the flushes that were begun as it was taken.
use Rattle.std.specs.Option.{option_or}
use Rattle.fa_machine.proofs.Maps.{get-insert_other, get-insert_same, get-remove_other, get-remove_same}
use Rattle.fa_machine.proofs.Takes.{take_cases}
use Rattle.fa_laws.specs.Syncing.{IsOfNow, KeepsJobs, OtherJobsKept}
use Rattle.fa_machine.specs.Cells.{DidErase, DidMove, DidProgram, DidRead, DidSync, DidWriteHeader, Fault, Outcome, Wrong, payload_of}
use Rattle.fa_machine.specs.Collecting.{move_place, next_step}
use Rattle.fa_machine.specs.Conditions.{reserved_under}
use Rattle.fa_machine.specs.Copies.{copy_on}
use Rattle.fa_machine.specs.Placement.{copy_place}
use Rattle.fa_machine.specs.State.{Core, OpenBatch, Reservation, WaitingProgram, is_live, used_at}
use Rattle.fa_machine.specs.Step.{Abandon, Act, Admit, Advance, Claim, Commit, CommitCopy, Does, Done, EndBatch, FlushBegin}
use Rattle.fa_machine.specs.Step.{FlushState, Fold, Release, Replan, Reserve, ReserveCopy, ReserveFewer, ReserveHole, SpareIn, Step, Take}
use Rattle.fa_machine.specs.Step.{Window}
use Rattle.fa_machine.specs.Taking.{EndsJob, Handed, Takes, after_urgent, begins, begun, finished, flight_of, handed, header_job, is_for, is_idle}
use Rattle.fa_machine.specs.Taking.{move_from, program_of, read_ends, read_from, read_job, read_of, step_job, sync_job, taken}
use Rattle.fa_machine.specs.Taking.{urgent_job, with_answer, without_stale_booking}
use Rattle.fa_machine.specs.Turning.{CommitsCopy, copying_to}
use Rattle.fa_machine.specs.Writing.{Abandons, Commits, Reserves}
use Rattle.fa_machine.specs.declared.answers.Copied.{Copied}
use Rattle.fa_machine.specs.declared.answers.Copied.TheVariants.{Current, Late}
use Rattle.fa_machine.specs.declared.jobs.CollectorStep.{CollectorStep}
use Rattle.fa_machine.specs.declared.jobs.CollectorStep.TheVariants.{EraseBlock, MoveSlot, Nothing}
use Rattle.fa_machine.specs.declared.jobs.Flight.{Flight}
use Rattle.fa_machine.specs.declared.jobs.Flight.TheVariants.{Erase, Header, Move, Program, Read, Sync}
use Rattle.fa_machine.specs.declared.places.Booking.{Booking}
use Rattle.fa_machine.specs.declared.places.Copying.{Copying}
use Rattle.fa_types.specs.declared.kind.Kind.{Kind}
use Rattle.fa_machine.specs.declared.places.Used.{Used}
use Rattle.fa_machine.specs.declared.places.Used.TheVariants.{Held, Reserved, Stale}
use Rattle.fa_machine.specs.declared.places.Version.{Version}
use Rattle.fa_machine.specs.declared.refusals.AbandonRefused.{AbandonRefused}
use Rattle.fa_machine.specs.declared.refusals.ClaimRefused.TheVariants.{Claimed, NoMemory as ClaimNoMemory}
use Rattle.fa_machine.specs.declared.refusals.CommitCopyRefused.{CommitCopyRefused}
use Rattle.fa_machine.specs.declared.refusals.CommitCopyRefused.TheVariants.{Failed as CopyFailed, Pending as CopyPending}
use Rattle.fa_machine.specs.declared.refusals.CommitRefused.{CommitRefused}
use Rattle.fa_machine.specs.declared.refusals.FlushRefused.TheVariants.{Spent}
use Rattle.fa_machine.specs.declared.refusals.ReserveCopyRefused.TheVariants.{NoMemory as CopyNoMemory}
use Rattle.fa_machine.specs.declared.refusals.ReserveRefused.{ReserveRefused}
use Rattle.fa_machine.specs.declared.refusals.ReserveRefused.TheVariants.{NoMemory as ReserveNoMemory}
use Rattle.fa_machine.specs.declared.refusals.SpareRefused.TheVariants.{NotSpare}
use Rattle.fa_machine.specs.declared.refusals.WindowRefused.TheVariants.{Busy as WindowBusy, HasOne, NoMemory as WindowNoMemory}
use Rattle.fa_types.specs.declared.numbers.Seq.{Seq}
use Rattle.std.proofs.Common.{Bool, List, None, Option, Some, ap, false, not, refl, subst, sym, true, ℕ, ◌/◌, ◌∙◌, ◌≡◌}
use Rattle.std.proofs.lemmas.Bool.{and_parts, false≢true}
use Rattle.std.specs.FinMap.{FinMap, contains_key, get, insert, remove}
use Rattle.std.specs.Ordering.{nat_cmp}
use Rattle.std.specs.Prelude.{Err, Ok, Result, find, nat_lt, unwrap_or, if◌then◌else◌, is_some, option_and_then, option_map, ◌==◌}

-- a job that may be handed out, if there is one
abbrev AreOfNow : Core → Option Flight → Type 0
AreOfNow core None = Unit {0}
AreOfNow core (Some flight) = IsOfNow core flight

abbrev HandedOfNow : Core → Option Handed → Type 0
HandedOfNow core None = Unit {0}
HandedOfNow core (Some job) = IsOfNow core job.flight

module _ (core : Core) (die : ℕ) where
  either_now : (a b : Option Flight) → AreOfNow core a → AreOfNow core b → AreOfNow core (option_or a b)
  either_now None b x y = y
  either_now (Some f) b x y = x

  if_now : (b : Bool) (o : Option Flight) → AreOfNow core o → AreOfNow core (if b then o else None)
  if_now true o x = x
  if_now false o x = tt

  to_now : (page : _) (version : Version) (from : ℕ) (to : Option ℕ)
      → AreOfNow core (option_map (λ t. Move page version (record { 0 = from }) (record { 0 = t })) to)
  to_now page version from None = tt
  to_now page version from (Some t) = tt

  move_now : (from : ℕ) (used : Option Used) → AreOfNow core (move_from core.page_map die from used)
  move_now from None = tt
  move_now from (Some Reserved) = tt
  move_now from (Some Stale) = tt
  move_now from (Some (Held page version)) = to_now page version from (move_place core.page_map die (from / core.page_map.geometry.slots))

  step_now : (s : CollectorStep) → AreOfNow core (flight_of core.page_map die s)
  step_now (MoveSlot from) = move_now from.0 (used_at core.page_map die from.0)
  step_now (EraseBlock block) = tt
  step_now Nothing = tt

  from_now : (b : Booking) (v : Option Version) (s : Option ℕ) → AreOfNow core (read_from b v s)
  from_now b None s = tt
  from_now b (Some v) None = tt
  from_now b (Some v) (Some s) = tt

  unstarted_now : (started : Bool) (o : Option Flight) → AreOfNow core o → AreOfNow core (if started then None else o)
  unstarted_now true o x = tt
  unstarted_now false o x = x

  read_now : (o : Option Booking) → AreOfNow core (option_and_then (read_of core.page_map die) o)
  read_now None = tt
  read_now (Some b) = unstarted_now b.started _ (from_now b (get core.page_map.versions b.page.0) (copy_on core.page_map b.page.0 die))

  urgent_now : AreOfNow core (urgent_job core die)
  urgent_now =
      either_now (header_job core die) _ (if_now (contains_key core.behind die) _ tt)
      (either_now (step_job core die) (read_job core die) (if_now _ _ (step_now (next_step core.page_map die)))
      (read_now (get core.calendar.bookings (die, core.calendar.round))))

  handed_now : (o : Option Flight) → AreOfNow core o → HandedOfNow core (option_map handed o)
  handed_now None x = tt
  handed_now (Some f) x = x

  other_now : (p : Option WaitingProgram) (sync : Option Flight) → AreOfNow core sync
      → HandedOfNow core (option_or (option_map (program_of core.page_map) p) (option_map handed sync))
  other_now None sync x = handed_now sync x
  other_now (Some p) sync x = tt

  sync_now : AreOfNow core (sync_job core die)
  sync_now = if_now (nat_lt (unwrap_or (get core.synced die) 0) (unwrap_or (get core.asked die) 0)) (Some (Sync core.flushes)) refl

  taken_now : (seat : ℕ) → HandedOfNow core (taken core die seat).0
  taken_now seat = if_idle (is_idle core die)
    where
      after : (o : Option Flight) → AreOfNow core o → HandedOfNow core (after_urgent die seat core o).0
      after None x = other_now (find (is_for die) core.waiting) (sync_job core die) sync_now
      after (Some f) x = x

      if_idle : (b : Bool) → HandedOfNow core (if b then after_urgent die seat core (urgent_job core die) else (None, core)).0
      if_idle true = after (urgent_job core die) urgent_now
      if_idle false = tt

no_job : (o : Option Flight) → not (is_some o) ≡ true → o ≡ None
no_job None e = refl
no_job (Some f) e = absurd (false≢true e)

module _ (old : Core) where
  -- what a Take leaves of the jobs
  abbrev Handing : ℕ → Option Handed → Core → Type 0
  Handing die None new = new.jobs ≡ old.jobs
  Handing die (Some job) new = (get old.jobs die ≡ None) × (get new.jobs die ≡ Some job.flight) × OtherJobsKept old die new

  one_more : (die : ℕ) (flight : Flight) (new : Core) → is_idle old die ≡ true → new.jobs ≡ insert old.jobs die flight
      → (get old.jobs die ≡ None) × (get new.jobs die ≡ Some flight) × OtherJobsKept old die new
  one_more die flight new idle e = (
    no_job (get old.jobs die) (and_parts (is_live old.page_map die) _ idle).1,
    ap (λ (m : FinMap nat_cmp Flight). get m die) e ∙ get-insert_same old.jobs die flight,
    record { others = λ other apart. ap (λ (m : FinMap nat_cmp Flight). get m other) e ∙ get-insert_other old.jobs die flight other apart },
  )

  handing : (die seat : ℕ) → Handing die (taken old die seat).0 (taken old die seat).1
  handing die seat =
      take_cases old die seat (λ (pair : Option Handed × Core). Handing die pair.0 pair.1) refl
      (λ flight idle u. one_more die flight (begun die seat flight old) idle refl) (λ job idle u. of_other job idle)
    where
      of_other : (job : Option Handed) → is_idle old die ≡ true
          → Handing die (begins die seat (without_stale_booking die old) job).0 (begins die seat (without_stale_booking die old) job).1
      of_other None idle = refl
      of_other (Some job) idle = one_more die job.flight (begun die seat job.flight (without_stale_booking die old)) idle refl

  take_jobs : (die seat : ℕ) (answer : Option Handed) (new : Core) → Takes old die seat answer new → KeepsJobs old (Take die seat answer) new
  take_jobs die seat None new e = subst (λ (pair : Option Handed × Core). Handing die pair.0 pair.1) (sym e) (handing die seat)
  take_jobs die seat (Some job) new e =
      let h = subst (λ (pair : Option Handed × Core). Handing die pair.0 pair.1) (sym e) (handing die seat) in
      let n = subst (λ (pair : Option Handed × Core). HandedOfNow old pair.0) (sym e) (taken_now old die seat) in
      (h.0, h.1, n, h.2)

  abbrev Ended : ℕ → Core → Type 0
  Ended die new = (get new.jobs die ≡ None) × OtherJobsKept old die new

  abbrev over : ℕ → Core
  over die = record old { jobs = remove old.jobs die }

  removed : (die : ℕ) (new : Core) → new.jobs ≡ remove old.jobs die → Ended die new
  removed die new e = (
    ap (λ (m : FinMap nat_cmp Flight). get m die) e ∙ get-remove_same old.jobs die,
    record { others = λ other apart. ap (λ (m : FinMap nat_cmp Flight). get m other) e ∙ get-remove_other old.jobs die other apart },
  )

  dropped : (die : ℕ) (new : Core) → new.jobs ≡ remove (remove old.jobs die) die → Ended die new
  dropped die new e = (
    ap (λ (m : FinMap nat_cmp Flight). get m die) e ∙ get-remove_same (remove old.jobs die) die,
    record {
      others = λ other apart. ap (λ (m : FinMap nat_cmp Flight). get m other) e
          ∙ get-remove_other (remove old.jobs die) die other apart ∙ get-remove_other old.jobs die other apart;
    },
  )

  answer_ended : (die batch page : ℕ) (bytes : List ℕ) (b : Option OpenBatch) → Ended die (with_answer batch page bytes b (over die))
  answer_ended die batch page bytes None = removed die _ refl
  answer_ended die batch page bytes (Some b) = removed die _ refl

  read_ended : (die batch page : ℕ) (o : Option (List ℕ)) → Ended die (read_ends die batch page o (over die))
  read_ended die batch page None = dropped die _ refl
  read_ended die batch page (Some bytes) = answer_ended die batch page bytes (get old.batches batch)

  header_ended : (b : Bool) (die : ℕ) → Ended die (if b then record (over die) { behind = remove old.behind die } else over die)
  header_ended true die = removed die _ refl
  header_ended false die = removed die _ refl

  finished_ended : (die : ℕ) (flight : Flight) (outcome : Outcome) → Ended die (finished die flight outcome (over die))
  finished_ended die (Read batch page version slot) (DidRead cell) = read_ended die batch.0 page.0 (payload_of page.0 version die slot.0 cell)
  finished_ended die (Program page version slot) DidProgram = removed die _ refl
  finished_ended die (Move page version from to) DidMove = removed die _ refl
  finished_ended die (Erase block) DidErase = removed die _ refl
  finished_ended die (Header epoch live) DidWriteHeader = header_ended (epoch == old.epoch) die
  finished_ended die (Sync flushes) DidSync = removed die _ refl
  finished_ended die flight (Fault call) = dropped die _ refl
  finished_ended die flight Wrong = dropped die _ refl
  finished_ended die flight outcome = removed die _ refl

  done_ended : (die : ℕ) (flight : Option Flight) (outcome : Outcome) (new : Core) → EndsJob old die flight outcome new → Ended die new
  done_ended die None outcome new e = absurd e
  done_ended die (Some flight) outcome new e = subst (Ended die) (sym e) (finished_ended die flight outcome)

  reserve_jobs : (claim least : ℕ) (kind : Kind) (payload : List ℕ) (answer : Result Seq ReserveRefused) (new : Core)
      → Reserves old claim least kind payload answer new → new.jobs ≡ old.jobs
  reserve_jobs claim least kind payload (Ok seq) new d = ap (λ (c : Core). c.jobs) d.2
  reserve_jobs claim least kind payload (Err ReserveNoMemory) new d = ap (λ (c : Core). c.jobs) d.1
  reserve_jobs claim least kind payload (Err refused) new d = ap (λ (c : Core). c.jobs) d.1

  commit_jobs : (claim seat : ℕ) (r : Option Reservation) (answer : Result Seq CommitRefused) (new : Core) → Commits old claim seat r answer new → new.jobs ≡ old.jobs
  commit_jobs claim seat None answer new d = absurd d
  commit_jobs claim seat (Some r) (Ok seq) new d = ap (λ (c : Core). c.jobs) d.2
  commit_jobs claim seat (Some r) (Err refused) new d = ap (λ (c : Core). c.jobs) d.1

  abandon_jobs : (claim : ℕ) (r : Option Reservation) (answer : Result (Unit {0}) AbandonRefused) (new : Core) → Abandons old claim r answer new → new.jobs ≡ old.jobs
  abandon_jobs claim None answer new d = absurd d
  abandon_jobs claim (Some r) (Ok made) new d = ap (λ (c : Core). c.jobs) d.1
  abandon_jobs claim (Some r) (Err refused) new d = ap (λ (c : Core). c.jobs) d.1

  copying_jobs : (page : ℕ) (payload : List ℕ) (v : Option Version) (die : Option ℕ) → (copying_to old page payload v die).jobs ≡ old.jobs
  copying_jobs page payload (Some v) (Some die) = refl
  copying_jobs page payload (Some v) None = refl
  copying_jobs page payload None die = refl

  copy_jobs : (c : Option Copying) (answer : Result Copied CommitCopyRefused) (new : Core) → CommitsCopy old c answer new → new.jobs ≡ old.jobs
  copy_jobs None answer new d = absurd d
  copy_jobs (Some c) (Ok Current) new d = ap (λ (c : Core). c.jobs) d.2
  copy_jobs (Some c) (Ok Late) new d = ap (λ (c : Core). c.jobs) d.2
  copy_jobs (Some c) (Err CopyPending) new d = ap (λ (c : Core). c.jobs) d.1
  copy_jobs (Some c) (Err CopyFailed) new d = ap (λ (c : Core). c.jobs) d.1

  event_jobs : (act : Act) (new : Core) → Does old act new → KeepsJobs old act new
  event_jobs (Claim page (Ok id)) new d = ap (λ (c : Core). c.jobs) d.2
  event_jobs (Claim page (Err Claimed)) new d = ap (λ (c : Core). c.jobs) d.1
  event_jobs (Claim page (Err ClaimNoMemory)) new d = ap (λ (c : Core). c.jobs) d.1
  event_jobs (Release claim) new d = ap (λ (c : Core). c.jobs) d
  event_jobs (Reserve claim payload answer) new d = reserve_jobs claim _ _ payload answer new d
  event_jobs (ReserveHole claim answer) new d = reserve_jobs claim _ _ _ answer new d
  event_jobs (ReserveFewer claim payload answer) new d = reserve_jobs claim _ _ payload answer new d
  event_jobs (Commit claim seat answer) new d = commit_jobs claim seat (reserved_under old claim) answer new d
  event_jobs (Abandon claim answer) new d = abandon_jobs claim (reserved_under old claim) answer new d
  event_jobs (Admit pages (Ok admitted)) new d = ap (λ (c : Core). c.jobs) d.2
  event_jobs (Admit pages (Err refused)) new d = ap (λ (c : Core). c.jobs) d.1
  event_jobs (Replan batch (Ok planned)) new d = ap (λ (c : Core). c.jobs) d.1
  event_jobs (Replan batch (Err refused)) new d = ap (λ (c : Core). c.jobs) d.1
  event_jobs (EndBatch batch answer) new d = ap (λ (c : Core). c.jobs) d.1
  event_jobs (Take die seat None) new d = take_jobs die seat None new d
  event_jobs (Take die seat (Some job)) new d = take_jobs die seat (Some job) new d
  event_jobs (Done die outcome) new d = done_ended die (get old.jobs die) outcome new d
  event_jobs (Window die count (Ok first)) new d = ap (λ (c : Core). c.jobs) d.3
  event_jobs (Window die count (Err WindowBusy)) new d = ap (λ (c : Core). c.jobs) d.1
  event_jobs (Window die count (Err HasOne)) new d = ap (λ (c : Core). c.jobs) d.2
  event_jobs (Window die count (Err WindowNoMemory)) new d = ap (λ (c : Core). c.jobs) d.2
  event_jobs (Advance (Ok round)) new d = ap (λ (c : Core). c.jobs) d.2
  event_jobs (Advance (Err refused)) new d = ap (λ (c : Core). c.jobs) d.1
  event_jobs (SpareIn die (Ok made)) new d = ap (λ (c : Core). c.jobs) d.1
  event_jobs (SpareIn die (Err NotSpare)) new d = ap (λ (c : Core). c.jobs) d.1
  event_jobs (ReserveCopy page seq payload (Ok made)) new d =
      ap (λ (c : Core). c.jobs) d.1 ∙ copying_jobs page payload (get old.page_map.versions page) (copy_place old.copies old.page_map page)
  event_jobs (ReserveCopy page seq payload (Err CopyNoMemory)) new d = ap (λ (c : Core). c.jobs) d.1
  event_jobs (ReserveCopy page seq payload (Err refused)) new d = ap (λ (c : Core). c.jobs) d.1
  event_jobs (CommitCopy answer) new d = copy_jobs old.copying answer new d
  event_jobs (FlushBegin (Ok flush)) new d = ap (λ (c : Core). c.jobs) d.3
  event_jobs (FlushBegin (Err Spent)) new d = ap (λ (c : Core). c.jobs) d.1
  event_jobs (FlushState flush answer) new d = ap (λ (c : Core). c.jobs) d.1
  event_jobs Fold new d = ap (λ (c : Core). c.jobs) d

pub jobs_kept : (old : Core) (act : Act) (new : Core) → Step old act new → KeepsJobs old act new
jobs_kept old act new step = event_jobs old act new step.does
