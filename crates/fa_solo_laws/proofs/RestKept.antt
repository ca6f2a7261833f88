-- What most events leave: how many copies a page is to have, that no copy is under way, and the last number given.
use Rattle.fa_machine.proofs.Takes.{take_cases}
use Rattle.fa_machine.specs.Cells.{DidErase, DidMove, DidProgram, DidRead, DidSync, DidWriteHeader, Fault, Outcome, Wrong}
use Rattle.fa_machine.specs.Conditions.{reserved_under}
use Rattle.fa_machine.specs.Placement.{copy_place}
use Rattle.fa_machine.specs.Reading.{zeros}
use Rattle.fa_machine.specs.State.{Core, OpenBatch, Reservation}
use Rattle.fa_machine.specs.Step.{Abandon, Act, Admit, Advance, Claim, Commit, CommitCopy, Does, Done, EndBatch, FlushBegin}
use Rattle.fa_machine.specs.Step.{FlushState, Fold, Release, Replan, Reserve, ReserveCopy, ReserveFewer, ReserveHole, SpareIn, Take}
use Rattle.fa_machine.specs.Step.{Window}
use Rattle.fa_machine.specs.Taking.{EndsJob, Handed, Takes, begins, begun, finished, handed, mark, read_ends, with_answer}
use Rattle.fa_machine.specs.Taking.{without_stale_booking}
use Rattle.fa_machine.specs.Turning.{CommitsCopy, copying_to}
use Rattle.fa_machine.specs.Writing.{Abandons, Commits, Reserves}
use Rattle.fa_machine.specs.declared.answers.Copied.{Copied}
use Rattle.fa_machine.specs.declared.answers.Copied.TheVariants.{Current, Late}
use Rattle.fa_machine.specs.declared.jobs.Flight.{Flight}
use Rattle.fa_machine.specs.declared.jobs.Flight.TheVariants.{Erase, Header, Move, Program, Read, Sync}
use Rattle.fa_machine.specs.declared.places.Copying.{Copying}
use Rattle.fa_machine.specs.declared.places.Version.{Version}
use Rattle.fa_machine.specs.declared.refusals.AbandonRefused.{AbandonRefused}
use Rattle.fa_machine.specs.declared.refusals.ClaimRefused.TheVariants.{Claimed, NoMemory as ClaimNoMemory}
use Rattle.fa_machine.specs.declared.refusals.CommitCopyRefused.{CommitCopyRefused}
use Rattle.fa_machine.specs.declared.refusals.CommitCopyRefused.TheVariants.{Failed as CopyFailed, Pending as CopyPending}
use Rattle.fa_machine.specs.declared.refusals.CommitRefused.{CommitRefused}
use Rattle.fa_machine.specs.declared.refusals.FlushRefused.TheVariants.{Spent}
use Rattle.fa_machine.specs.declared.refusals.ReserveCopyRefused.TheVariants.{NoMemory as CopyNoMemory}
use Rattle.fa_machine.specs.declared.refusals.ReserveRefused.{ReserveRefused}
use Rattle.fa_machine.specs.declared.refusals.SpareRefused.TheVariants.{NotSpare}
use Rattle.fa_machine.specs.declared.refusals.WindowRefused.TheVariants.{Busy as WindowBusy, HasOne, NoMemory as WindowNoMemory}
use Rattle.fa_types.specs.declared.kind.Kind.{Kind}
use Rattle.fa_types.specs.declared.kind.Kind.TheVariants.{Data, Hole}
use Rattle.fa_types.specs.declared.numbers.Seq.{Seq}
use Rattle.std.proofs.Common.{Bool, List, None, Option, Some, ap, false, refl, subst, sym, true, ℕ, ◌∙◌, ◌≡◌}
use Rattle.std.specs.FinMap.{get, remove}
use Rattle.std.specs.Prelude.{Err, Ok, Result, if◌then◌else◌, option_map, ◌==◌}

-- an event that begins no copy, and one that gives no number
abbrev pub BeginsNoCopy : Act → Type 0
BeginsNoCopy (ReserveCopy page seq payload (Ok made)) = ⊥
BeginsNoCopy act = Unit {0}

abbrev pub GivesNoNumber : Act → Type 0
GivesNoNumber (Reserve claim payload (Ok seq)) = ⊥
GivesNoNumber (ReserveHole claim (Ok seq)) = ⊥
GivesNoNumber (ReserveFewer claim payload (Ok seq)) = ⊥
GivesNoNumber act = Unit {0}

-- all of it
abbrev Has : Core → Core → Type 0
Has new old = (new.copies ≡ old.copies) × (old.copying ≡ None → new.copying ≡ None) × (new.last ≡ old.last)

abbrev Keeps : Core → Act → Core → Type 0
Keeps old act new =
    (new.copies ≡ old.copies) × (BeginsNoCopy act → old.copying ≡ None → new.copying ≡ None) × (GivesNoNumber act → new.last ≡ old.last)

same : (new x : Core) → new ≡ x → Has new x
same new x e = (ap (λ (c : Core). c.copies) e, λ free. ap (λ (c : Core). c.copying) e ∙ free, ap (λ (c : Core). c.last) e)

itself : (core : Core) → Has core core
itself core = same core core refl

whole : (old : Core) (act : Act) (new : Core) → Has new old → Keeps old act new
whole old act new has = (has.0, λ none. has.1, λ none. has.2)

reserve_has : (old new : Core) (claim least : ℕ) (kind : Kind) (payload : List ℕ) (seq : Seq)
    → Reserves old claim least kind payload (Ok seq) new → (new.copies ≡ old.copies) × (old.copying ≡ None → new.copying ≡ None)
reserve_has old new claim least kind payload seq d = (ap (λ (c : Core). c.copies) d.2, λ free. ap (λ (c : Core). c.copying) d.2 ∙ free)

given : (old : Core) (act : Act) (new : Core) → (GivesNoNumber act → ⊥) → (new.copies ≡ old.copies) × (old.copying ≡ None → new.copying ≡ None)
    → Keeps old act new
given old act new gives has = (has.0, λ none. has.1, λ none. absurd (gives none))

refused_has : (old new : Core) (claim least : ℕ) (kind : Kind) (payload : List ℕ) (refused : ReserveRefused)
    → Reserves old claim least kind payload (Err refused) new → Has new old
refused_has old new claim least kind payload refused d = same new old d.1

commit_has : (old new : Core) (claim seat : ℕ) (r : Option Reservation) (seq : Seq)
    → Commits old claim seat r (Ok seq) new → Has new old
commit_has old new claim seat None seq d = absurd d
commit_has old new claim seat (Some r) seq d = same new _ d.2

uncommitted_has : (old new : Core) (claim seat : ℕ) (r : Option Reservation) (refused : CommitRefused)
    → Commits old claim seat r (Err refused) new → Has new old
uncommitted_has old new claim seat None refused d = absurd d
uncommitted_has old new claim seat (Some r) refused d = same new old d.1

abandon_has : (old new : Core) (claim : ℕ) (r : Option Reservation) (made : Unit {0})
    → Abandons old claim r (Ok made) new → Has new old
abandon_has old new claim None made d = absurd d
abandon_has old new claim (Some r) made d = same new _ d.1

unabandoned_has : (old new : Core) (claim : ℕ) (r : Option Reservation) (refused : AbandonRefused)
    → Abandons old claim r (Err refused) new → Has new old
unabandoned_has old new claim None refused d = absurd d
unabandoned_has old new claim (Some r) refused d = same new old d.1

copying_has : (old : Core) (page : ℕ) (payload : List ℕ) (v : Option Version) (die : Option ℕ)
    → ((copying_to old page payload v die).copies ≡ old.copies) × ((copying_to old page payload v die).last ≡ old.last)
copying_has old page payload (Some v) (Some die) = (refl, refl)
copying_has old page payload (Some v) None = (refl, refl)
copying_has old page payload None die = (refl, refl)

copy_has : (old new : Core) (c : Option Copying) (answer : Result Copied CommitCopyRefused) → CommitsCopy old c answer new
    → Has new old
copy_has old new None answer d = absurd d
copy_has old new (Some c) (Ok Current) d = (ap (λ (k : Core). k.copies) d.2, λ free. ap (λ (k : Core). k.copying) d.2, ap (λ (k : Core). k.last) d.2)
copy_has old new (Some c) (Ok Late) d = (ap (λ (k : Core). k.copies) d.2, λ free. ap (λ (k : Core). k.copying) d.2, ap (λ (k : Core). k.last) d.2)
copy_has old new (Some c) (Err CopyPending) d = same new old d.1
copy_has old new (Some c) (Err CopyFailed) d =
    (ap (λ (k : Core). k.copies) d.1, λ free. ap (λ (k : Core). k.copying) d.1, ap (λ (k : Core). k.last) d.1)

begun_has : (core : Core) (die seat : ℕ) (flight : Flight) → Has (begun die seat flight core) core
begun_has core die seat (Header epoch live) = (refl, λ free. free, refl)
begun_has core die seat (Move page version from to) = (refl, λ free. free, refl)
begun_has core die seat (Erase block) = (refl, λ free. free, refl)
begun_has core die seat (Read batch page version slot) = (refl, λ free. free, refl)
begun_has core die seat (Program page version slot) = (refl, λ free. free, refl)
begun_has core die seat (Sync flushes) = (refl, λ free. free, refl)

begins_has : (core : Core) (die seat : ℕ) (job : Option Handed) → Has (begins die seat core job).1 core
begins_has core die seat None = (refl, λ free. free, refl)
begins_has core die seat (Some job) = begun_has core die seat job.flight

take_has : (old new : Core) (die seat : ℕ) (answer : Option Handed) → Takes old die seat answer new → Has new old
take_has old new die seat answer e =
    subst (λ (pair : Option Handed × Core). Has pair.1 old) (sym e)
    (take_cases old die seat (λ pair. Has pair.1 old) (itself old)
    (λ flight idle u. begins_has old die seat (Some (handed flight)))
    (λ job idle u. begins_has (without_stale_booking die old) die seat job))

answer_has : (core : Core) (batch page : ℕ) (bytes : List ℕ) (b : Option OpenBatch)
    → Has (with_answer batch page bytes b core) core
answer_has core batch page bytes None = (refl, λ free. free, refl)
answer_has core batch page bytes (Some b) = (refl, λ free. free, refl)

read_has : (core : Core) (die batch page : ℕ) (o : Option (List ℕ))
    → Has (read_ends die batch page o core) core
read_has core die batch page None = (refl, λ free. free, refl)
read_has core die batch page (Some bytes) = answer_has core batch page bytes (get core.batches batch)

header_has : (b : Bool) (core : Core) (die : ℕ)
    → Has (if b then record core { behind = remove core.behind die } else core) core
header_has true core die = (refl, λ free. free, refl)
header_has false core die = (refl, λ free. free, refl)

finished_has : (core : Core) (die : ℕ) (flight : Flight) (outcome : Outcome)
    → Has (finished die flight outcome core) core
finished_has core die (Read batch page version slot) (DidRead cell) = read_has core die batch.0 page.0 _
finished_has core die (Program page version slot) DidProgram =
    (refl, λ free. ap (option_map {T = Copying} (λ c. record c { target = mark die slot.0 c.target })) free, refl)
finished_has core die (Move page version from to) DidMove = (refl, λ free. free, refl)
finished_has core die (Erase block) DidErase = (refl, λ free. free, refl)
finished_has core die (Header epoch live) DidWriteHeader = header_has (epoch == core.epoch) core die
finished_has core die (Sync flushes) DidSync = (refl, λ free. free, refl)
finished_has core die flight (Fault call) = (refl, λ free. free, refl)
finished_has core die flight Wrong = (refl, λ free. free, refl)
finished_has core die flight outcome = (refl, λ free. free, refl)

done_has : (old new : Core) (die : ℕ) (flight : Option Flight) (outcome : Outcome) → EndsJob old die flight outcome new
    → Has new old
done_has old new die None outcome d = absurd d
done_has old new die (Some flight) outcome d =
    subst (λ (c : Core). Has c old) (sym d)
    (finished_has (record old { jobs = remove old.jobs die }) die flight outcome)

pub event_keeps : (old : Core) (act : Act) (new : Core) → Does old act new → Keeps old act new
event_keeps old (Claim page (Ok id)) new d = whole old (Claim page (Ok id)) new (same new _ d.2)
event_keeps old (Claim page (Err Claimed)) new d = whole old (Claim page (Err Claimed)) new (same new old d.1)
event_keeps old (Claim page (Err ClaimNoMemory)) new d = whole old (Claim page (Err ClaimNoMemory)) new (same new old d.1)
event_keeps old (Release claim) new d = whole old (Release claim) new (same new _ d)
event_keeps old (Reserve claim payload (Ok seq)) new d = given old (Reserve claim payload (Ok seq)) new (λ none. none) (reserve_has old new claim _ Data payload seq d)
event_keeps old (Reserve claim payload (Err refused)) new d = whole old (Reserve claim payload (Err refused)) new (refused_has old new claim _ Data payload refused d)
event_keeps old (ReserveHole claim (Ok seq)) new d = given old (ReserveHole claim (Ok seq)) new (λ none. none) (reserve_has old new claim _ Hole _ seq d)
event_keeps old (ReserveHole claim (Err refused)) new d = whole old (ReserveHole claim (Err refused)) new (refused_has old new claim _ Hole (zeros old.page_map) refused d)
event_keeps old (ReserveFewer claim payload (Ok seq)) new d = given old (ReserveFewer claim payload (Ok seq)) new (λ none. none) (reserve_has old new claim _ Data payload seq d)
event_keeps old (ReserveFewer claim payload (Err refused)) new d = whole old (ReserveFewer claim payload (Err refused)) new (refused_has old new claim _ Data payload refused d)
event_keeps old (Commit claim seat (Ok seq)) new d = whole old (Commit claim seat (Ok seq)) new (commit_has old new claim seat (reserved_under old claim) seq d)
event_keeps old (Commit claim seat (Err refused)) new d = whole old (Commit claim seat (Err refused)) new (uncommitted_has old new claim seat (reserved_under old claim) refused d)
event_keeps old (Abandon claim (Ok made)) new d = whole old (Abandon claim (Ok made)) new (abandon_has old new claim (reserved_under old claim) made d)
event_keeps old (Abandon claim (Err refused)) new d = whole old (Abandon claim (Err refused)) new (unabandoned_has old new claim (reserved_under old claim) refused d)
event_keeps old (Admit pages (Ok admitted)) new d = whole old (Admit pages (Ok admitted)) new (same new _ d.2)
event_keeps old (Admit pages (Err refused)) new d = whole old (Admit pages (Err refused)) new (same new old d.1)
event_keeps old (Replan batch (Ok planned)) new d = whole old (Replan batch (Ok planned)) new (same new _ d.1)
event_keeps old (Replan batch (Err refused)) new d = whole old (Replan batch (Err refused)) new (same new old d.1)
event_keeps old (EndBatch batch answer) new d = whole old (EndBatch batch answer) new (same new _ d.1)
event_keeps old (Take die seat answer) new d = whole old (Take die seat answer) new (take_has old new die seat answer d)
event_keeps old (Done die outcome) new d = whole old (Done die outcome) new (done_has old new die (get old.jobs die) outcome d)
event_keeps old (Window die count (Ok first)) new d = whole old (Window die count (Ok first)) new (same new _ d.3)
event_keeps old (Window die count (Err WindowBusy)) new d = whole old (Window die count (Err WindowBusy)) new (same new old d.1)
event_keeps old (Window die count (Err HasOne)) new d = whole old (Window die count (Err HasOne)) new (same new old d.2)
event_keeps old (Window die count (Err WindowNoMemory)) new d = whole old (Window die count (Err WindowNoMemory)) new (same new old d.2)
event_keeps old (Advance (Ok round)) new d = whole old (Advance (Ok round)) new (same new _ d.2)
event_keeps old (Advance (Err refused)) new d = whole old (Advance (Err refused)) new (same new old d.1)
event_keeps old (SpareIn die (Ok made)) new d = whole old (SpareIn die (Ok made)) new (same new _ d.1)
event_keeps old (SpareIn die (Err NotSpare)) new d = whole old (SpareIn die (Err NotSpare)) new (same new old d.1)
event_keeps old (ReserveCopy page seq payload (Ok made)) new d =
    let has = copying_has old page payload (get old.page_map.versions page) (copy_place old.copies old.page_map page) in
    (ap (λ (c : Core). c.copies) d.1 ∙ has.0, λ none. absurd none, λ none. ap (λ (c : Core). c.last) d.1 ∙ has.1)
event_keeps old (ReserveCopy page seq payload (Err CopyNoMemory)) new d = whole old (ReserveCopy page seq payload (Err CopyNoMemory)) new (same new old d.1)
event_keeps old (ReserveCopy page seq payload (Err refused)) new d = whole old (ReserveCopy page seq payload (Err refused)) new (same new old d.1)
event_keeps old (CommitCopy answer) new d = whole old (CommitCopy answer) new (copy_has old new old.copying answer d)
event_keeps old (FlushBegin (Ok flush)) new d = whole old (FlushBegin (Ok flush)) new (same new _ d.3)
event_keeps old (FlushBegin (Err Spent)) new d = whole old (FlushBegin (Err Spent)) new (same new old d.1)
event_keeps old (FlushState flush answer) new d = whole old (FlushState flush answer) new (same new old d.1)
event_keeps old Fold new d = whole old Fold new (same new _ d)
