-- What an event does to an open batch: it is admitted, a read answers a page of it, or it stays as it was.
use Rattle.fa_headline.specs.Reads.{KeepsBatch}
use Rattle.fa_laws.proofs.Jobs.{jobs_kept}
use Rattle.fa_laws.specs.Syncing.{KeepsJobs}
use Rattle.fa_laws.specs.Untouched.{EndsNoJob}
use Rattle.fa_machine.proofs.Maps.{get-insert_cases, get-remove_some}
use Rattle.fa_machine.proofs.Takes.{take_cases}
use Rattle.fa_machine.specs.Cells.{Cell, DidErase, DidMove, DidProgram, DidRead, DidSync, DidWriteHeader, Fault, Outcome, Wrong, payload_of}
use Rattle.fa_machine.specs.Conditions.{reserved_under}
use Rattle.fa_machine.specs.Maps.{insert_all}
use Rattle.fa_machine.specs.Placement.{copy_place}
use Rattle.fa_machine.specs.Reading.{Admitted, at_once, zeros}
use Rattle.fa_machine.specs.Run.{Event}
use Rattle.fa_machine.specs.State.{Core, OpenBatch, Reservation}
use Rattle.fa_machine.specs.Step.{Abandon, Act, Admit, Advance, Claim, Commit, CommitCopy, Does, Done, EndBatch, FlushBegin}
use Rattle.fa_machine.specs.Step.{FlushState, Fold, Release, Replan, Reserve, ReserveCopy, ReserveFewer, ReserveHole, SpareIn, Step, Take}
use Rattle.fa_machine.specs.Step.{Window}
use Rattle.fa_machine.specs.Taking.{EndsJob, Handed, begins, begun, finished, read_ends, taken, with_answer}
use Rattle.fa_machine.specs.Taking.{without_stale_booking}
use Rattle.fa_machine.specs.Turning.{CommitsCopy, copying_to}
use Rattle.fa_machine.specs.Writing.{Abandons, Commits, Reserves}
use Rattle.fa_machine.specs.declared.answers.Copied.{Copied}
use Rattle.fa_machine.specs.declared.answers.Copied.TheVariants.{Current, Late}
use Rattle.fa_machine.specs.declared.ids.BatchId.{BatchId}
use Rattle.fa_machine.specs.declared.jobs.Flight.{Flight}
use Rattle.fa_machine.specs.declared.jobs.Flight.TheVariants.{Erase, Header, Move, Program, Read, Sync}
use Rattle.fa_machine.specs.declared.places.Copying.{Copying}
use Rattle.fa_machine.specs.declared.places.Version.{Version}
use Rattle.fa_machine.specs.declared.refusals.AbandonRefused.{AbandonRefused}
use Rattle.fa_machine.specs.declared.refusals.ClaimRefused.TheVariants.{Claimed, NoMemory as ClaimNoMemory}
use Rattle.fa_machine.specs.declared.refusals.CommitCopyRefused.{CommitCopyRefused}
use Rattle.fa_machine.specs.declared.refusals.CommitCopyRefused.TheVariants.{Failed as CopyFailed, Pending as CopyPending}
use Rattle.fa_machine.specs.declared.refusals.CommitRefused.{CommitRefused}
use Rattle.fa_machine.specs.declared.refusals.FlushRefused.TheVariants.{Spent}
use Rattle.fa_machine.specs.declared.refusals.ReserveCopyRefused.TheVariants.{NoMemory as CopyNoMemory}
use Rattle.fa_machine.specs.declared.refusals.ReserveRefused.{ReserveRefused}
use Rattle.fa_machine.specs.declared.refusals.ReserveRefused.TheVariants.{NoMemory as ReserveNoMemory}
use Rattle.fa_machine.specs.declared.refusals.SpareRefused.TheVariants.{NotSpare}
use Rattle.fa_machine.specs.declared.refusals.WindowRefused.TheVariants.{Busy as WindowBusy, HasOne, NoMemory as WindowNoMemory}
use Rattle.fa_types.specs.declared.kind.Kind.{Kind}
use Rattle.fa_types.specs.declared.numbers.Page.{Page}
use Rattle.fa_types.specs.declared.numbers.Seq.{Seq}
use Rattle.fa_types.specs.declared.numbers.Slot.{Slot}
use Rattle.std.proofs.Common.{Bool, List, None, Option, Some, ap, false, inl, inr, refl, subst, sym, true, ℕ, ◌∙◌, ◌≡◌, ◌⊎◌}
use Rattle.std.proofs.lemmas.Bool.{cases_eq}
use Rattle.std.proofs.lemmas.Option.{none-some, same_Some}
use Rattle.std.specs.FinMap.{FinMap, empty, get, insert, remove}
use Rattle.std.specs.Ordering.{nat_cmp}
use Rattle.std.specs.Prelude.{Err, Ok, Result, if◌then◌else◌, ◌==◌}

-- the batch as it is opened
abbrev pub opened_of : Core → List ℕ → OpenBatch
opened_of core pages = record { pages = pages; answers = insert_all (at_once core.page_map pages) (zeros core.page_map) empty }

-- The batch is admitted by this event.
pub record IsAdmittedBy (old : Core) (act : Act) (batch : ℕ) (b : OpenBatch) : Type 0 where
  pub pages : List ℕ
  pub admitted : Admitted
  pub act_is : act ≡ Admit pages (Ok admitted)
  pub batch_is : admitted.batch.0 ≡ batch
  pub opened : opened_of old pages ≡ b

-- This event ends a read, which answers a page of the batch.
pub record IsAnsweredBy (old : Core) (act : Act) (batch : ℕ) (b : OpenBatch) : Type 0 where
  pub die : ℕ
  pub cell : Cell
  pub page : Page
  pub version : Version
  pub slot : Slot
  pub bytes : List ℕ
  pub was : OpenBatch
  pub act_is : act ≡ Done die (DidRead cell)
  pub job : get old.jobs die ≡ Some (Read (record { 0 = batch }) page version slot)
  pub gave : payload_of page.0 version die slot.0 cell ≡ Some bytes
  pub opened : get old.batches batch ≡ Some was
  pub answers : b.answers ≡ insert was.answers page.0 bytes

abbrev pub Stayed : Core → Act → ℕ → OpenBatch → Type 0
Stayed old act batch b = KeepsBatch batch (Event act) × (get old.batches batch ≡ Some b)

abbrev pub BatchWas : Core → Act → ℕ → OpenBatch → Type 0
BatchWas old act batch b = Stayed old act batch b ⊎ (IsAdmittedBy old act batch b ⊎ IsAnsweredBy old act batch b)

module _ (old : Core) (batch : ℕ) (b : OpenBatch) where
  -- where an event leaves the batches as they were
  same : (new : Core) → new.batches ≡ old.batches → get new.batches batch ≡ Some b → get old.batches batch ≡ Some b
  same new e is = sym (ap (λ (m : FinMap nat_cmp OpenBatch). get m batch) e) ∙ is

  taken_batches : (die seat : ℕ) → (taken old die seat).1.batches ≡ old.batches
  taken_batches die seat =
      take_cases old die seat (λ (pair : Option Handed × Core). pair.1.batches ≡ old.batches) refl (λ flight idle u. of_flight flight old) (λ job idle u. of_other job)
    where
      of_flight : (flight : Flight) (core : Core) → (begun die seat flight core).batches ≡ core.batches
      of_flight (Header epoch live) core = refl
      of_flight (Move page version from to) core = refl
      of_flight (Erase block) core = refl
      of_flight (Read k page version slot) core = refl
      of_flight (Program page version slot) core = refl
      of_flight (Sync flushes) core = refl

      of_other : (job : Option Handed) → (begins die seat (without_stale_booking die old) job).1.batches ≡ old.batches
      of_other None = refl
      of_other (Some job) = of_flight job.flight (without_stale_booking die old)

  reserve_batches : (claim least : ℕ) (kind : Kind) (payload : List ℕ) (answer : Result Seq ReserveRefused) (new : Core)
      → Reserves old claim least kind payload answer new → new.batches ≡ old.batches
  reserve_batches claim least kind payload (Ok seq) new d = ap (λ (c : Core). c.batches) d.2
  reserve_batches claim least kind payload (Err ReserveNoMemory) new d = ap (λ (c : Core). c.batches) d.1
  reserve_batches claim least kind payload (Err refused) new d = ap (λ (c : Core). c.batches) d.1

  commit_batches : (claim seat : ℕ) (r : Option Reservation) (answer : Result Seq CommitRefused) (new : Core)
      → Commits old claim seat r answer new → new.batches ≡ old.batches
  commit_batches claim seat None answer new d = absurd d
  commit_batches claim seat (Some r) (Ok seq) new d = ap (λ (c : Core). c.batches) d.2
  commit_batches claim seat (Some r) (Err refused) new d = ap (λ (c : Core). c.batches) d.1

  abandon_batches : (claim : ℕ) (r : Option Reservation) (answer : Result (Unit {0}) AbandonRefused) (new : Core)
      → Abandons old claim r answer new → new.batches ≡ old.batches
  abandon_batches claim None answer new d = absurd d
  abandon_batches claim (Some r) (Ok made) new d = ap (λ (c : Core). c.batches) d.1
  abandon_batches claim (Some r) (Err refused) new d = ap (λ (c : Core). c.batches) d.1

  copying_batches : (page : ℕ) (payload : List ℕ) (v : Option Version) (die : Option ℕ) → (copying_to old page payload v die).batches ≡ old.batches
  copying_batches page payload (Some v) (Some die) = refl
  copying_batches page payload (Some v) None = refl
  copying_batches page payload None die = refl

  copy_batches : (c : Option Copying) (answer : Result Copied CommitCopyRefused) (new : Core) → CommitsCopy old c answer new → new.batches ≡ old.batches
  copy_batches None answer new d = absurd d
  copy_batches (Some c) (Ok Current) new d = ap (λ (c : Core). c.batches) d.2
  copy_batches (Some c) (Ok Late) new d = ap (λ (c : Core). c.batches) d.2
  copy_batches (Some c) (Err CopyPending) new d = ap (λ (c : Core). c.batches) d.1
  copy_batches (Some c) (Err CopyFailed) new d = ap (λ (c : Core). c.batches) d.1

  abbrev over : ℕ → Core
  over die = record old { jobs = remove old.jobs die }

  abbrev EndedSo : ℕ → Outcome → Core → Type 0
  EndedSo die outcome new =
      get new.batches batch ≡ Some b → (get old.batches batch ≡ Some b) ⊎ IsAnsweredBy old (Done die outcome) batch b

  -- a read that gave its page
  answer_ends : (die : ℕ) (cell : Cell) (k : BatchId) (page : Page) (version : Version) (slot : Slot) (bytes : List ℕ)
      → get old.jobs die ≡ Some (Read k page version slot) → payload_of page.0 version die slot.0 cell ≡ Some bytes
      → (o : Option OpenBatch) → get old.batches k.0 ≡ o → EndedSo die (DidRead cell) (with_answer k.0 page.0 bytes o (over die))
  answer_ends die cell k page version slot bytes job gave None was is = inl is
  answer_ends die cell k page version slot bytes job gave (Some w) was is =
      elim (get-insert_cases old.batches k.0 (record w { answers = insert w.answers page.0 bytes }) batch b is) [
        | inr other ↦ inl other.0
        | inl made ↦ inr (record {
          die = die;
          cell = cell;
          page = page;
          version = version;
          slot = slot;
          bytes = bytes;
          was = w;
          act_is = refl;
          job = job ∙ ap (λ (n : ℕ). Some (Read (record { 0 = n }) page version slot)) (sym made.0);
          gave = gave;
          opened = ap (get old.batches) made.0 ∙ was;
          answers = sym (ap (λ (x : OpenBatch). x.answers) made.1);
        })
      ]

  read_done : (die : ℕ) (cell : Cell) (k : BatchId) (page : Page) (version : Version) (slot : Slot)
      → get old.jobs die ≡ Some (Read k page version slot) → (o : Option (List ℕ)) → payload_of page.0 version die slot.0 cell ≡ o
      → EndedSo die (DidRead cell) (read_ends die k.0 page.0 o (over die))
  read_done die cell k page version slot job None gave is = inl is
  read_done die cell k page version slot job (Some bytes) gave is =
      answer_ends die cell k page version slot bytes job gave (get old.batches k.0) refl is

  header_done : (c : Bool) (die : ℕ) (outcome : Outcome) → EndedSo die outcome (if c then record (over die) { behind = remove old.behind die } else over die)
  header_done true die outcome is = inl is
  header_done false die outcome is = inl is

  finished_so : (die : ℕ) (flight : Flight) (outcome : Outcome) → get old.jobs die ≡ Some flight → EndedSo die outcome (finished die flight outcome (over die))
  finished_so die (Read k page version slot) (DidRead cell) job = read_done die cell k page version slot job (payload_of page.0 version die slot.0 cell) refl
  finished_so die (Program page version slot) DidProgram job = λ is. inl is
  finished_so die (Move page version from to) DidMove job = λ is. inl is
  finished_so die (Erase block) DidErase job = λ is. inl is
  finished_so die (Header epoch live) DidWriteHeader job = header_done (epoch == old.epoch) die DidWriteHeader
  finished_so die (Sync flushes) DidSync job = λ is. inl is
  finished_so die flight (Fault call) job = λ is. inl is
  finished_so die flight Wrong job = λ is. inl is
  finished_so die flight outcome job = λ is. inl is

  done_so : (die : ℕ) (o : Option Flight) → get old.jobs die ≡ o → (outcome : Outcome) (new : Core) → EndsJob old die o outcome new → EndedSo die outcome new
  done_so die None job outcome new e = absurd e
  done_so die (Some flight) job outcome new e = subst (EndedSo die outcome) (sym e) (finished_so die flight outcome job)

  done_was : (die : ℕ) (outcome : Outcome) (new : Core) → EndsJob old die (get old.jobs die) outcome new → get new.batches batch ≡ Some b
      → BatchWas old (Done die outcome) batch b
  done_was die outcome new d is =
      elim (done_so die (get old.jobs die) refl outcome new d is) [
        | inl was ↦ inl (tt, was)
        | inr answered ↦ inr (inr answered)
      ]

  admit_was : (pages : List ℕ) (admitted : Admitted) (new : Core) → new.batches ≡ insert old.batches admitted.batch.0 (opened_of old pages)
      → get new.batches batch ≡ Some b → BatchWas old (Admit pages (Ok admitted)) batch b
  admit_was pages admitted new e is =
      elim (get-insert_cases old.batches admitted.batch.0 (opened_of old pages) batch b (sym (ap (λ (m : FinMap nat_cmp OpenBatch). get m batch) e) ∙ is)) [
        | inl made ↦ inr (inl (record { pages = pages; admitted = admitted; act_is = refl; batch_is = sym made.0; opened = made.1 }))
        | inr was ↦ inl (λ (is : admitted.batch.0 ≡ batch). was.1 (sym is), was.0)
      ]

  end_was : (k : ℕ) (answer : List (ℕ × List ℕ)) (new : Core) → new.batches ≡ remove old.batches k → get new.batches batch ≡ Some b
      → BatchWas old (EndBatch k answer) batch b
  end_was k answer new e is =
      let was = get-remove_some old.batches k batch b (sym (ap (λ (m : FinMap nat_cmp OpenBatch). get m batch) e) ∙ is) in
      inl (λ (is : k ≡ batch). was.1 (sym is), was.0)

  pub batch_was : (act : Act) (new : Core) → Does old act new → get new.batches batch ≡ Some b → BatchWas old act batch b
  batch_was (Claim page (Ok id)) new d is = inl (tt, same new (ap (λ (c : Core). c.batches) d.2) is)
  batch_was (Claim page (Err Claimed)) new d is = inl (tt, same new (ap (λ (c : Core). c.batches) d.1) is)
  batch_was (Claim page (Err ClaimNoMemory)) new d is = inl (tt, same new (ap (λ (c : Core). c.batches) d.1) is)
  batch_was (Release claim) new d is = inl (tt, same new (ap (λ (c : Core). c.batches) d) is)
  batch_was (Reserve claim payload answer) new d is = inl (tt, same new (reserve_batches claim _ _ payload answer new d) is)
  batch_was (ReserveHole claim answer) new d is = inl (tt, same new (reserve_batches claim _ _ _ answer new d) is)
  batch_was (ReserveFewer claim payload answer) new d is = inl (tt, same new (reserve_batches claim _ _ payload answer new d) is)
  batch_was (Commit claim seat answer) new d is = inl (tt, same new (commit_batches claim seat (reserved_under old claim) answer new d) is)
  batch_was (Abandon claim answer) new d is = inl (tt, same new (abandon_batches claim (reserved_under old claim) answer new d) is)
  batch_was (Admit pages (Ok admitted)) new d is = admit_was pages admitted new (ap (λ (c : Core). c.batches) d.2) is
  batch_was (Admit pages (Err refused)) new d is = inl (tt, same new (ap (λ (c : Core). c.batches) d.1) is)
  batch_was (Replan k (Ok planned)) new d is = inl (tt, same new (ap (λ (c : Core). c.batches) d.1) is)
  batch_was (Replan k (Err refused)) new d is = inl (tt, same new (ap (λ (c : Core). c.batches) d.1) is)
  batch_was (EndBatch k answer) new d is = end_was k answer new (ap (λ (c : Core). c.batches) d.1) is
  batch_was (Take die seat answer) new d is = inl (tt, same new (ap (λ (pair : Option Handed × Core). pair.1.batches) d ∙ taken_batches die seat) is)
  batch_was (Done die outcome) new d is = done_was die outcome new d is
  batch_was (Window die count (Ok first)) new d is = inl (tt, same new (ap (λ (c : Core). c.batches) d.3) is)
  batch_was (Window die count (Err WindowBusy)) new d is = inl (tt, same new (ap (λ (c : Core). c.batches) d.1) is)
  batch_was (Window die count (Err HasOne)) new d is = inl (tt, same new (ap (λ (c : Core). c.batches) d.2) is)
  batch_was (Window die count (Err WindowNoMemory)) new d is = inl (tt, same new (ap (λ (c : Core). c.batches) d.2) is)
  batch_was (Advance (Ok round)) new d is = inl (tt, same new (ap (λ (c : Core). c.batches) d.2) is)
  batch_was (Advance (Err refused)) new d is = inl (tt, same new (ap (λ (c : Core). c.batches) d.1) is)
  batch_was (SpareIn die (Ok made)) new d is = inl (tt, same new (ap (λ (c : Core). c.batches) d.1) is)
  batch_was (SpareIn die (Err NotSpare)) new d is = inl (tt, same new (ap (λ (c : Core). c.batches) d.1) is)
  batch_was (ReserveCopy page seq payload (Ok made)) new d is =
      inl (tt, same new (ap (λ (c : Core). c.batches) d.1 ∙ copying_batches page payload (get old.page_map.versions page) (copy_place old.copies old.page_map page)) is)
  batch_was (ReserveCopy page seq payload (Err CopyNoMemory)) new d is = inl (tt, same new (ap (λ (c : Core). c.batches) d.1) is)
  batch_was (ReserveCopy page seq payload (Err refused)) new d is = inl (tt, same new (ap (λ (c : Core). c.batches) d.1) is)
  batch_was (CommitCopy answer) new d is = inl (tt, same new (copy_batches old.copying answer new d) is)
  batch_was (FlushBegin (Ok flush)) new d is = inl (tt, same new (ap (λ (c : Core). c.batches) d.3) is)
  batch_was (FlushBegin (Err Spent)) new d is = inl (tt, same new (ap (λ (c : Core). c.batches) d.1) is)
  batch_was (FlushState flush answer) new d is = inl (tt, same new (ap (λ (c : Core). c.batches) d.1) is)
  batch_was Fold new d is = inl (tt, same new (ap (λ (c : Core). c.batches) d) is)

-- A job that is in flight behind an event was so before, and the event is not its end, or it is taken by this event.
pub record IsTakenBy (act : Act) (die : ℕ) (flight : Flight) : Type 0 where
  pub seat : ℕ
  pub job : Handed
  pub act_is : act ≡ Take die seat (Some job)
  pub flight_is : job.flight ≡ flight

job_from : (old new : Core) (act : Act) (die : ℕ) (flight : Flight) → KeepsJobs old act new → get new.jobs die ≡ Some flight
    → ((get old.jobs die ≡ Some flight) × EndsNoJob die (Event act)) ⊎ IsTakenBy act die flight
job_from old new (Take d seat (Some job)) die flight k e =
    elim (cases_eq die d) [
      | inl is ↦ inr (record {
        seat = seat;
        job = job;
        act_is = ap (λ (n : ℕ). Take n seat (Some job)) (sym is);
        flight_is = same_Some job.flight flight (sym (ap (get new.jobs) is ∙ k.1) ∙ e);
      })
      | inr apart ↦ inl (sym (k.3.others die apart) ∙ e, tt)
    ]
job_from old new (Done d outcome) die flight k e =
    elim (cases_eq die d) [
      | inl is ↦ absurd (none-some flight (sym (ap (get new.jobs) is ∙ k.0) ∙ e))
      | inr apart ↦ inl (sym (k.1.others die apart) ∙ e, λ (is : d ≡ die). apart (sym is))
    ]
job_from old new act die flight k e = inl (sym (ap (λ (m : FinMap nat_cmp Flight). get m die) k) ∙ e, tt)

pub job_was : (old new : Core) (act : Act) (die : ℕ) (flight : Flight) → Step old act new → get new.jobs die ≡ Some flight
    → ((get old.jobs die ≡ Some flight) × EndsNoJob die (Event act)) ⊎ IsTakenBy act die flight
job_was old new act die flight step e = job_from old new act die flight (jobs_kept old act new step) e
