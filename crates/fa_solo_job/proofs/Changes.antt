-- How the open batches change, by Admit, EndBatch and the Done of a read; and how the claims change, by the events of writers and the
-- Done of a program.
use Rattle.fa_machine.proofs.Takes.{take_cases}
use Rattle.fa_machine.specs.Cells.{DidErase, DidMove, DidProgram, DidRead, DidSync, DidWriteHeader, Fault, Outcome, Wrong}
use Rattle.fa_machine.specs.Cells.{payload_of}
use Rattle.fa_machine.specs.Conditions.{reserved_under}
use Rattle.fa_machine.specs.Maps.{change, insert_all}
use Rattle.fa_machine.specs.Placement.{copy_place, targets}
use Rattle.fa_machine.specs.Reading.{at_once, zeros}
use Rattle.fa_machine.specs.State.{Core, OpenBatch, OpenClaim, Reservation}
use Rattle.fa_machine.specs.Step.{Abandon, Act, Admit, Advance, Claim, Commit, CommitCopy, Does, Done, EndBatch, FlushBegin}
use Rattle.fa_machine.specs.Step.{FlushState, Fold, Release, Replan, Reserve, ReserveCopy, ReserveFewer, ReserveHole, SpareIn, Take}
use Rattle.fa_machine.specs.Step.{Window}
use Rattle.fa_machine.specs.Taking.{EndsJob, Handed, Takes, begins, begun, finished, handed, mark_claim, read_ends, with_answer}
use Rattle.fa_machine.specs.Taking.{without_stale_booking}
use Rattle.fa_machine.specs.Turning.{CommitsCopy, copying_to}
use Rattle.fa_machine.specs.Writing.{Abandons, Commits, Reserves, claimed_page, target_on}
use Rattle.fa_machine.specs.declared.answers.Copied.{Copied}
use Rattle.fa_machine.specs.declared.answers.Copied.TheVariants.{Current, Late}
use Rattle.fa_machine.specs.declared.jobs.Flight.{Flight}
use Rattle.fa_machine.specs.declared.jobs.Flight.TheVariants.{Erase, Header, Move, Program, Read, Sync}
use Rattle.fa_machine.specs.declared.places.Copying.{Copying}
use Rattle.fa_machine.specs.declared.places.Version.{Version}
use Rattle.fa_machine.specs.declared.refusals.AbandonRefused.{AbandonRefused}
use Rattle.fa_machine.specs.declared.refusals.ClaimRefused.TheVariants.{Claimed, NoMemory as ClaimNoMemory}
use Rattle.fa_machine.specs.declared.refusals.CommitCopyRefused.{CommitCopyRefused}
use Rattle.fa_machine.specs.declared.refusals.CommitCopyRefused.TheVariants.{Failed as CopyFailed, Pending as CopyPending}
use Rattle.fa_machine.specs.declared.refusals.CommitRefused.{CommitRefused}
use Rattle.fa_machine.specs.declared.refusals.FlushRefused.TheVariants.{Spent}
use Rattle.fa_machine.specs.declared.refusals.ReserveCopyRefused.TheVariants.{NoMemory as CopyNoMemory}
use Rattle.fa_machine.specs.declared.refusals.ReserveRefused.{ReserveRefused}
use Rattle.fa_machine.specs.declared.refusals.SpareRefused.TheVariants.{NotSpare}
use Rattle.fa_machine.specs.declared.refusals.WindowRefused.TheVariants.{Busy as WindowBusy, HasOne, NoMemory as WindowNoMemory}
use Rattle.fa_types.specs.declared.kind.Kind.{Kind}
use Rattle.fa_types.specs.declared.kind.Kind.TheVariants.{Data, Hole}
use Rattle.fa_types.specs.declared.numbers.Seq.{Seq}
use Rattle.std.proofs.Common.{Bool, List, None, Option, Some, ap, false, map, refl, subst, sym, true, ℕ, ◌+◌, ◌≡◌}
use Rattle.std.specs.FinMap.{FinMap, empty, get, insert, remove}
use Rattle.std.specs.Ordering.{nat_cmp}
use Rattle.std.specs.Prelude.{Err, Ok, Result, if◌then◌else◌, ◌==◌}

abbrev pub Batches : Type 0
Batches = FinMap nat_cmp OpenBatch

-- the batches with one more answer, where the batch that it is for is open
abbrev pub with_one_more : ℕ → ℕ → List ℕ → Option OpenBatch → Batches → Batches
with_one_more batch page bytes None batches = batches
with_one_more batch page bytes (Some b) batches = insert batches batch (record b { answers = insert b.answers page bytes })

abbrev pub with_read : ℕ → ℕ → Option (List ℕ) → Batches → Batches
with_read batch page None batches = batches
with_read batch page (Some bytes) batches = with_one_more batch page bytes (get batches batch) batches

-- the batches once a job has ended
abbrev pub with_ended : ℕ → Option Flight → Outcome → Batches → Batches
with_ended die (Some (Read batch page version slot)) (DidRead cell) batches =
    with_read batch.0 page.0 (payload_of page.0 version die slot.0 cell) batches
with_ended die flight outcome batches = batches

abbrev pub batches_after : Core → Act → Batches
batches_after core (Admit pages (Ok admitted)) = insert core.batches admitted.batch.0
    (record { pages = pages; answers = insert_all (at_once core.page_map pages) (zeros core.page_map) empty })
batches_after core (EndBatch batch answer) = remove core.batches batch
batches_after core (Done die outcome) = with_ended die (get core.jobs die) outcome core.batches
batches_after core act = core.batches

abbrev pub Claims : Type 0
Claims = FinMap nat_cmp OpenClaim

-- the claims with something reserved under one of them, or nothing
abbrev pub with_reservation : Core → ℕ → Option Reservation → Claims
with_reservation core claim r = insert core.claims claim (record { page = claimed_page core claim; reserved = r })

-- what is given to a write
abbrev pub reservation_for : Core → ℕ → Kind → Reservation
reservation_for core claim kind = record {
  version = record { seq = record { 0 = core.last + 1 }; kind = kind };
  targets = map (target_on core.page_map) (targets core.copies core.page_map (claimed_page core claim));
}

-- the claims once a job has ended
abbrev pub with_marked : ℕ → Option Flight → Outcome → Claims → Claims
with_marked die (Some (Program page version slot)) DidProgram claims =
    change (λ id c. if c.page == page.0 then mark_claim die slot.0 c else c) claims
with_marked die flight outcome claims = claims

abbrev pub claims_after : Core → Act → Claims
claims_after core (Claim page (Ok id)) = insert core.claims id.0 (record { page = page; reserved = None })
claims_after core (Release claim) = remove core.claims claim
claims_after core (Reserve claim payload (Ok seq)) = with_reservation core claim (Some (reservation_for core claim Data))
claims_after core (ReserveHole claim (Ok seq)) = with_reservation core claim (Some (reservation_for core claim Hole))
claims_after core (ReserveFewer claim payload (Ok seq)) = with_reservation core claim (Some (reservation_for core claim Data))
claims_after core (Commit claim seat (Ok seq)) = with_reservation core claim None
claims_after core (Abandon claim (Ok done)) = with_reservation core claim None
claims_after core (Done die outcome) = with_marked die (get core.jobs die) outcome core.claims
claims_after core act = core.claims

-- a state whose batches and claims are these
abbrev Has : Core → Batches → Claims → Type 0
Has new batches claims = (new.batches ≡ batches) × (new.claims ≡ claims)

same : (new x : Core) → new ≡ x → Has new x.batches x.claims
same new x e = (ap (λ (c : Core). c.batches) e, ap (λ (c : Core). c.claims) e)

reserve_has : (old new : Core) (claim least : ℕ) (kind : Kind) (payload : List ℕ) (seq : Seq)
    → Reserves old claim least kind payload (Ok seq) new → Has new old.batches (with_reservation old claim (Some (reservation_for old claim kind)))
reserve_has old new claim least kind payload seq d = same new _ d.2

refused_has : (old new : Core) (claim least : ℕ) (kind : Kind) (payload : List ℕ) (refused : ReserveRefused)
    → Reserves old claim least kind payload (Err refused) new → Has new old.batches old.claims
refused_has old new claim least kind payload refused d = same new old d.1

commit_has : (old new : Core) (claim seat : ℕ) (r : Option Reservation) (seq : Seq)
    → Commits old claim seat r (Ok seq) new → Has new old.batches (with_reservation old claim None)
commit_has old new claim seat None seq d = absurd d
commit_has old new claim seat (Some r) seq d = same new _ d.2

uncommitted_has : (old new : Core) (claim seat : ℕ) (r : Option Reservation) (refused : CommitRefused)
    → Commits old claim seat r (Err refused) new → Has new old.batches old.claims
uncommitted_has old new claim seat None refused d = absurd d
uncommitted_has old new claim seat (Some r) refused d = same new old d.1

abandon_has : (old new : Core) (claim : ℕ) (r : Option Reservation) (made : Unit {0})
    → Abandons old claim r (Ok made) new → Has new old.batches (with_reservation old claim None)
abandon_has old new claim None made d = absurd d
abandon_has old new claim (Some r) made d = same new _ d.1

unabandoned_has : (old new : Core) (claim : ℕ) (r : Option Reservation) (refused : AbandonRefused)
    → Abandons old claim r (Err refused) new → Has new old.batches old.claims
unabandoned_has old new claim None refused d = absurd d
unabandoned_has old new claim (Some r) refused d = same new old d.1

copying_has : (old : Core) (page : ℕ) (payload : List ℕ) (v : Option Version) (die : Option ℕ)
    → Has (copying_to old page payload v die) old.batches old.claims
copying_has old page payload (Some v) (Some die) = (refl, refl)
copying_has old page payload (Some v) None = (refl, refl)
copying_has old page payload None die = (refl, refl)

copy_has : (old new : Core) (c : Option Copying) (answer : Result Copied CommitCopyRefused) → CommitsCopy old c answer new
    → Has new old.batches old.claims
copy_has old new None answer d = absurd d
copy_has old new (Some c) (Ok Current) d = same new _ d.2
copy_has old new (Some c) (Ok Late) d = same new _ d.2
copy_has old new (Some c) (Err CopyPending) d = same new old d.1
copy_has old new (Some c) (Err CopyFailed) d = same new _ d.1

begun_has : (core : Core) (die seat : ℕ) (flight : Flight) → Has (begun die seat flight core) core.batches core.claims
begun_has core die seat (Header epoch live) = (refl, refl)
begun_has core die seat (Move page version from to) = (refl, refl)
begun_has core die seat (Erase block) = (refl, refl)
begun_has core die seat (Read batch page version slot) = (refl, refl)
begun_has core die seat (Program page version slot) = (refl, refl)
begun_has core die seat (Sync flushes) = (refl, refl)

begins_has : (core : Core) (die seat : ℕ) (job : Option Handed) → Has (begins die seat core job).1 core.batches core.claims
begins_has core die seat None = (refl, refl)
begins_has core die seat (Some job) = begun_has core die seat job.flight

take_has : (old new : Core) (die seat : ℕ) (answer : Option Handed) → Takes old die seat answer new → Has new old.batches old.claims
take_has old new die seat answer e =
    subst (λ (pair : Option Handed × Core). Has pair.1 old.batches old.claims) (sym e)
    (take_cases old die seat (λ pair. Has pair.1 old.batches old.claims) (refl, refl)
    (λ flight idle u. begins_has old die seat (Some (handed flight)))
    (λ job idle u. begins_has (without_stale_booking die old) die seat job))

answer_has : (core : Core) (batch page : ℕ) (bytes : List ℕ) (b : Option OpenBatch)
    → Has (with_answer batch page bytes b core) (with_one_more batch page bytes b core.batches) core.claims
answer_has core batch page bytes None = (refl, refl)
answer_has core batch page bytes (Some b) = (refl, refl)

read_has : (core : Core) (die batch page : ℕ) (o : Option (List ℕ))
    → Has (read_ends die batch page o core) (with_read batch page o core.batches) core.claims
read_has core die batch page None = (refl, refl)
read_has core die batch page (Some bytes) = answer_has core batch page bytes (get core.batches batch)

header_has : (b : Bool) (core : Core) (die : ℕ)
    → Has (if b then record core { behind = remove core.behind die } else core) core.batches core.claims
header_has true core die = (refl, refl)
header_has false core die = (refl, refl)

finished_has : (core : Core) (die : ℕ) (flight : Flight) (outcome : Outcome)
    → Has (finished die flight outcome core) (with_ended die (Some flight) outcome core.batches) (with_marked die (Some flight) outcome core.claims)
finished_has core die (Read batch page version slot) (DidRead cell) = read_has core die batch.0 page.0 _
finished_has core die (Program page version slot) DidProgram = (refl, refl)
finished_has core die (Move page version from to) DidMove = (refl, refl)
finished_has core die (Erase block) DidErase = (refl, refl)
finished_has core die (Header epoch live) DidWriteHeader = header_has (epoch == core.epoch) core die
finished_has core die (Sync flushes) DidSync = (refl, refl)
finished_has core die flight (Fault call) = (refl, refl)
finished_has core die flight Wrong = (refl, refl)
finished_has core die flight outcome = (refl, refl)

done_has : (old new : Core) (die : ℕ) (flight : Option Flight) (outcome : Outcome) → EndsJob old die flight outcome new
    → Has new (with_ended die flight outcome old.batches) (with_marked die flight outcome old.claims)
done_has old new die None outcome d = absurd d
done_has old new die (Some flight) outcome d =
    subst (λ (c : Core). Has c (with_ended die (Some flight) outcome old.batches) (with_marked die (Some flight) outcome old.claims)) (sym d)
    (finished_has (record old { jobs = remove old.jobs die }) die flight outcome)

event_has : (old : Core) (act : Act) (new : Core) → Does old act new → Has new (batches_after old act) (claims_after old act)
event_has old (Claim page (Ok id)) new d = same new _ d.2
event_has old (Claim page (Err Claimed)) new d = same new old d.1
event_has old (Claim page (Err ClaimNoMemory)) new d = same new old d.1
event_has old (Release claim) new d = same new _ d
event_has old (Reserve claim payload (Ok seq)) new d = reserve_has old new claim _ Data payload seq d
event_has old (Reserve claim payload (Err refused)) new d = refused_has old new claim _ Data payload refused d
event_has old (ReserveHole claim (Ok seq)) new d = reserve_has old new claim _ Hole _ seq d
event_has old (ReserveHole claim (Err refused)) new d = refused_has old new claim _ Hole (zeros old.page_map) refused d
event_has old (ReserveFewer claim payload (Ok seq)) new d = reserve_has old new claim _ Data payload seq d
event_has old (ReserveFewer claim payload (Err refused)) new d = refused_has old new claim _ Data payload refused d
event_has old (Commit claim seat (Ok seq)) new d = commit_has old new claim seat (reserved_under old claim) seq d
event_has old (Commit claim seat (Err refused)) new d = uncommitted_has old new claim seat (reserved_under old claim) refused d
event_has old (Abandon claim (Ok made)) new d = abandon_has old new claim (reserved_under old claim) made d
event_has old (Abandon claim (Err refused)) new d = unabandoned_has old new claim (reserved_under old claim) refused d
event_has old (Admit pages (Ok admitted)) new d = same new _ d.2
event_has old (Admit pages (Err refused)) new d = same new old d.1
event_has old (Replan batch (Ok planned)) new d = same new _ d.1
event_has old (Replan batch (Err refused)) new d = same new old d.1
event_has old (EndBatch batch answer) new d = same new _ d.1
event_has old (Take die seat answer) new d = take_has old new die seat answer d
event_has old (Done die outcome) new d = done_has old new die (get old.jobs die) outcome d
event_has old (Window die count (Ok first)) new d = same new _ d.3
event_has old (Window die count (Err WindowBusy)) new d = same new old d.1
event_has old (Window die count (Err HasOne)) new d = same new old d.2
event_has old (Window die count (Err WindowNoMemory)) new d = same new old d.2
event_has old (Advance (Ok round)) new d = same new _ d.2
event_has old (Advance (Err refused)) new d = same new old d.1
event_has old (SpareIn die (Ok made)) new d = same new _ d.1
event_has old (SpareIn die (Err NotSpare)) new d = same new old d.1
event_has old (ReserveCopy page seq payload (Ok made)) new d =
    subst (λ (c : Core). Has c old.batches old.claims) (sym d.1)
    (copying_has old page payload (get old.page_map.versions page) (copy_place old.copies old.page_map page))
event_has old (ReserveCopy page seq payload (Err CopyNoMemory)) new d = same new old d.1
event_has old (ReserveCopy page seq payload (Err refused)) new d = same new old d.1
event_has old (CommitCopy answer) new d = copy_has old new old.copying answer d
event_has old (FlushBegin (Ok flush)) new d = same new _ d.3
event_has old (FlushBegin (Err Spent)) new d = same new old d.1
event_has old (FlushState flush answer) new d = same new old d.1
event_has old Fold new d = same new _ d

pub batches_are : (old : Core) (act : Act) (new : Core) → Does old act new → new.batches ≡ batches_after old act
batches_are old act new d = (event_has old act new d).0

pub claims_are : (old : Core) (act : Act) (new : Core) → Does old act new → new.claims ≡ claims_after old act
claims_are old act new d = (event_has old act new d).1
