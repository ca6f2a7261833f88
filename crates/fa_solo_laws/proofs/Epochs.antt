-- The epoch counts how often the live dies change, so no event lowers it.
use Rattle.fa_machine.proofs.Takes.{take_cases}
use Rattle.fa_machine.specs.Cells.{DidErase, DidMove, DidProgram, DidRead, DidSync, DidWriteHeader, Fault, Outcome, Wrong}
use Rattle.fa_machine.specs.Conditions.{reserved_under}
use Rattle.fa_machine.specs.Placement.{copy_place}
use Rattle.fa_machine.specs.Reading.{zeros}
use Rattle.fa_machine.specs.State.{Core, OpenBatch, Reservation}
use Rattle.fa_machine.specs.Step.{Abandon, Act, Admit, Advance, Claim, Commit, CommitCopy, Does, Done, EndBatch, FlushBegin}
use Rattle.fa_machine.specs.Step.{FlushState, Fold, Release, Replan, Reserve, ReserveCopy, ReserveFewer, ReserveHole, SpareIn, Take}
use Rattle.fa_machine.specs.Step.{Step, Window}
use Rattle.fa_machine.specs.Taking.{EndsJob, Handed, Takes, begins, begun, finished, handed, read_ends, with_answer}
use Rattle.fa_machine.specs.Taking.{without_stale_booking}
use Rattle.fa_machine.specs.Turning.{CommitsCopy, copying_to}
use Rattle.fa_machine.specs.Writing.{Abandons, Commits, Reserves}
use Rattle.fa_machine.specs.declared.answers.Copied.{Copied}
use Rattle.fa_machine.specs.declared.answers.Copied.TheVariants.{Current, Late}
use Rattle.fa_machine.specs.declared.jobs.Flight.{Flight}
use Rattle.fa_machine.specs.declared.jobs.Flight.TheVariants.{Erase, Header, Move, Program, Read, Sync}
use Rattle.fa_machine.specs.declared.places.Copying.{Copying}
use Rattle.fa_machine.specs.declared.places.Version.{Version}
use Rattle.fa_machine.specs.declared.refusals.AbandonRefused.{AbandonRefused}
use Rattle.fa_machine.specs.declared.refusals.ClaimRefused.TheVariants.{Claimed, NoMemory as ClaimNoMemory}
use Rattle.fa_machine.specs.declared.refusals.CommitCopyRefused.{CommitCopyRefused}
use Rattle.fa_machine.specs.declared.refusals.CommitCopyRefused.TheVariants.{Failed as CopyFailed, Pending as CopyPending}
use Rattle.fa_machine.specs.declared.refusals.CommitRefused.{CommitRefused}
use Rattle.fa_machine.specs.declared.refusals.FlushRefused.TheVariants.{Spent}
use Rattle.fa_machine.specs.declared.refusals.ReserveCopyRefused.TheVariants.{NoMemory as CopyNoMemory}
use Rattle.fa_machine.specs.declared.refusals.ReserveRefused.{ReserveRefused}
use Rattle.fa_machine.specs.declared.refusals.SpareRefused.TheVariants.{NotSpare}
use Rattle.fa_machine.specs.declared.refusals.WindowRefused.TheVariants.{Busy as WindowBusy, HasOne, NoMemory as WindowNoMemory}
use Rattle.fa_solo_laws.specs.Rest.{CountsDies}
use Rattle.fa_types.specs.declared.kind.Kind.{Kind}
use Rattle.fa_types.specs.declared.kind.Kind.TheVariants.{Data, Hole}
use Rattle.fa_types.specs.declared.numbers.Seq.{Seq}
use Rattle.std.proofs.Common.{Bool, List, None, Option, Some, arith, inl, inr, refl, false, subst, sym, true, ℕ, ◌==◌, ◌≡◌, ◌≤◌}
use Rattle.std.specs.FinMap.{get, remove}
use Rattle.std.specs.Prelude.{Err, Ok, Result, if◌then◌else◌}

-- what each event comes to, the later state first
abbrev Up : Core → Core → Type 0
Up new old = CountsDies old new

up : (old : Core) → Up old old
up old = inl (refl, refl)

rises : (old new x : Core) → new ≡ x → Up x old → Up new old
rises old new x e u = subst (λ (c : Core). Up c old) (sym e) u

reserve_up : (old new : Core) (claim least : ℕ) (kind : Kind) (payload : List ℕ) (answer : Result Seq ReserveRefused)
    → Reserves old claim least kind payload answer new → Up new old
reserve_up old new claim least kind payload (Ok seq) d = rises old new _ d.2 (up old)
reserve_up old new claim least kind payload (Err refused) d = rises old new old d.1 (up old)

commit_up : (old new : Core) (claim seat : ℕ) (r : Option Reservation) (answer : Result Seq CommitRefused)
    → Commits old claim seat r answer new → Up new old
commit_up old new claim seat None answer d = absurd d
commit_up old new claim seat (Some r) (Ok seq) d = rises old new _ d.2 (up old)
commit_up old new claim seat (Some r) (Err refused) d = rises old new old d.1 (up old)

abandon_up : (old new : Core) (claim : ℕ) (r : Option Reservation) (answer : Result (Unit {0}) AbandonRefused)
    → Abandons old claim r answer new → Up new old
abandon_up old new claim None answer d = absurd d
abandon_up old new claim (Some r) (Ok made) d = rises old new _ d.1 (up old)
abandon_up old new claim (Some r) (Err refused) d = rises old new old d.1 (up old)

copying_up : (old : Core) (page : ℕ) (payload : List ℕ) (v : Option Version) (die : Option ℕ) → Up (copying_to old page payload v die) old
copying_up old page payload (Some v) (Some die) = up old
copying_up old page payload v die = up old

copy_up : (old new : Core) (c : Option Copying) (answer : Result Copied CommitCopyRefused) → CommitsCopy old c answer new → Up new old
copy_up old new None answer d = absurd d
copy_up old new (Some c) (Ok Current) d = rises old new _ d.2 (up old)
copy_up old new (Some c) (Ok Late) d = rises old new _ d.2 (up old)
copy_up old new (Some c) (Err CopyPending) d = rises old new old d.1 (up old)
copy_up old new (Some c) (Err CopyFailed) d = rises old new _ d.1 (up old)

begun_up : (core : Core) (die seat : ℕ) (flight : Flight) → Up (begun die seat flight core) core
begun_up core die seat (Header epoch live) = up core
begun_up core die seat (Move page version from to) = up core
begun_up core die seat (Erase block) = up core
begun_up core die seat (Read batch page version slot) = up core
begun_up core die seat (Program page version slot) = up core
begun_up core die seat (Sync flushes) = up core

begins_up : (core : Core) (die seat : ℕ) (job : Option Handed) → Up (begins die seat core job).1 core
begins_up core die seat None = up core
begins_up core die seat (Some job) = begun_up core die seat job.flight

take_up : (old new : Core) (die seat : ℕ) (answer : Option Handed) → Takes old die seat answer new → Up new old
take_up old new die seat answer e =
    subst (λ (pair : Option Handed × Core). Up pair.1 old) (sym e)
    (take_cases old die seat (λ pair. Up pair.1 old) (up old)
    (λ flight idle u. begins_up old die seat (Some (handed flight)))
    (λ job idle u. begins_up (without_stale_booking die old) die seat job))

answer_up : (core : Core) (batch page : ℕ) (bytes : List ℕ) (b : Option OpenBatch) → Up (with_answer batch page bytes b core) core
answer_up core batch page bytes None = up core
answer_up core batch page bytes (Some b) = up core

read_up : (core : Core) (die batch page : ℕ) (o : Option (List ℕ)) → Up (read_ends die batch page o core) core
read_up core die batch page None = inr (refl, (die, inl refl))
read_up core die batch page (Some bytes) = answer_up core batch page bytes (get core.batches batch)

header_up : (b : Bool) (core : Core) (die : ℕ) → Up (if b then record core { behind = remove core.behind die } else core) core
header_up true core die = up core
header_up false core die = up core

finished_up : (core : Core) (die : ℕ) (flight : Flight) (outcome : Outcome) → Up (finished die flight outcome core) core
finished_up core die (Read batch page version slot) (DidRead cell) = read_up core die batch.0 page.0 _
finished_up core die (Program page version slot) DidProgram = up core
finished_up core die (Move page version from to) DidMove = up core
finished_up core die (Erase block) DidErase = up core
finished_up core die (Header epoch live) DidWriteHeader = header_up (epoch == core.epoch) core die
finished_up core die (Sync flushes) DidSync = up core
finished_up core die flight (Fault call) = inr (refl, (die, inl refl))
finished_up core die flight Wrong = inr (refl, (die, inl refl))
finished_up core die flight outcome = up core

done_up : (old new : Core) (die : ℕ) (flight : Option Flight) (outcome : Outcome) → EndsJob old die flight outcome new → Up new old
done_up old new die None outcome d = absurd d
done_up old new die (Some flight) outcome d =
    rises old new _ d (finished_up (record old { jobs = remove old.jobs die }) die flight outcome)

pub counts_dies : (old : Core) (act : Act) (new : Core) → Does old act new → CountsDies old new
counts_dies old (Claim page (Ok id)) new d = rises old new _ d.2 (up old)
counts_dies old (Claim page (Err Claimed)) new d = rises old new old d.1 (up old)
counts_dies old (Claim page (Err ClaimNoMemory)) new d = rises old new old d.1 (up old)
counts_dies old (Release claim) new d = rises old new _ d (up old)
counts_dies old (Reserve claim payload answer) new d = reserve_up old new claim _ Data payload answer d
counts_dies old (ReserveHole claim answer) new d = reserve_up old new claim _ Hole (zeros old.page_map) answer d
counts_dies old (ReserveFewer claim payload answer) new d = reserve_up old new claim _ Data payload answer d
counts_dies old (Commit claim seat answer) new d = commit_up old new claim seat (reserved_under old claim) answer d
counts_dies old (Abandon claim answer) new d = abandon_up old new claim (reserved_under old claim) answer d
counts_dies old (Admit pages (Ok admitted)) new d = rises old new _ d.2 (up old)
counts_dies old (Admit pages (Err refused)) new d = rises old new old d.1 (up old)
counts_dies old (Replan batch (Ok planned)) new d = rises old new _ d.1 (up old)
counts_dies old (Replan batch (Err refused)) new d = rises old new old d.1 (up old)
counts_dies old (EndBatch batch answer) new d = rises old new _ d.1 (up old)
counts_dies old (Take die seat answer) new d = take_up old new die seat answer d
counts_dies old (Done die outcome) new d = done_up old new die (get old.jobs die) outcome d
counts_dies old (Window die count (Ok first)) new d = rises old new _ d.3 (up old)
counts_dies old (Window die count (Err WindowBusy)) new d = rises old new old d.1 (up old)
counts_dies old (Window die count (Err HasOne)) new d = rises old new old d.2 (up old)
counts_dies old (Window die count (Err WindowNoMemory)) new d = rises old new old d.2 (up old)
counts_dies old (Advance (Ok round)) new d = rises old new _ d.2 (up old)
counts_dies old (Advance (Err refused)) new d = rises old new old d.1 (up old)
counts_dies old (SpareIn die (Ok made)) new d = rises old new _ d.1 (inr (refl, (die, inr refl)))
counts_dies old (SpareIn die (Err NotSpare)) new d = rises old new old d.1 (up old)
counts_dies old (ReserveCopy page seq payload (Ok made)) new d =
    rises old new _ d.1 (copying_up old page payload (get old.page_map.versions page) (copy_place old.copies old.page_map page))
counts_dies old (ReserveCopy page seq payload (Err CopyNoMemory)) new d = rises old new old d.1 (up old)
counts_dies old (ReserveCopy page seq payload (Err refused)) new d = rises old new old d.1 (up old)
counts_dies old (CommitCopy answer) new d = copy_up old new old.copying answer d
counts_dies old (FlushBegin (Ok flush)) new d = rises old new _ d.3 (up old)
counts_dies old (FlushBegin (Err Spent)) new d = rises old new old d.1 (up old)
counts_dies old (FlushState flush answer) new d = rises old new old d.1 (up old)
counts_dies old Fold new d = rises old new _ d (up old)

pub epoch_rises : (old : Core) (act : Act) (new : Core) → Does old act new → old.epoch ≤ new.epoch
epoch_rises old act new d =
    elim (counts_dies old act new d) [
      | inl same ↦ let e = same.0 in omega (arith, e)
      | inr changed ↦ let e = changed.0 in omega (arith, e)
    ]

-- something that holds as long as the epoch is this one
abbrev pub From : ℕ → (Core → Type 0) → Core → Type 0
From epoch Q core = (epoch ≤ core.epoch) × (core.epoch ≡ epoch → Q core)

pub from_step : (epoch : ℕ) (Q R : Core → Type 0) (old new : Core) (act : Act) → From epoch Q old → Step old act new
    → (Q old → new.epoch ≡ old.epoch → R new) → From epoch R new
from_step epoch Q R old new act from step goes_on =
    let rise = epoch_rises old act new step.does in
    let low = from.0 in (
      omega (arith, rise, low),
      λ is. goes_on (from.1 (omega (arith, rise, low, is))) (omega (arith, rise, low, is)),
    )
