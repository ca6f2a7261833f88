-- How events change the epoch, the live dies and which headers are behind; and which jobs are headers.
use Rattle.fa_machine.specs.Cells.{DidErase, DidMove, DidProgram, DidRead, DidSync, DidWriteHeader, Fault, Outcome, Wrong, payload_of}
use Rattle.fa_machine.specs.Collecting.{next_step}
use Rattle.fa_machine.specs.Conditions.{drop_die, reserved_under}
use Rattle.fa_machine.specs.Maps.{Numbers}
use Rattle.fa_machine.specs.Placement.{copy_place}
use Rattle.fa_machine.specs.State.{Core, MapState, OpenBatch, Reservation, WaitingProgram, used_at}
use Rattle.fa_machine.specs.Step.{Abandon, Act, Admit, Advance, Claim, Commit, CommitCopy, Does, Done, EndBatch, FlushBegin}
use Rattle.fa_machine.specs.Step.{FlushState, Fold, Release, Replan, Reserve, ReserveCopy, ReserveFewer, ReserveHole, SpareIn, Take, Window}
use Rattle.fa_machine.specs.Taking.{EndsJob, Handed, Takes, after_urgent, begins, begun, finished, flight_of, handed, is_idle, mask_of}
use Rattle.fa_machine.specs.Taking.{move_from, other_job, program_of, read_ends, read_from, read_job, read_of, step_job, sync_job, urgent_job}
use Rattle.fa_machine.specs.Taking.{with_answer, without_stale_booking}
use Rattle.fa_machine.specs.Turning.{CommitsCopy, copying_to}
use Rattle.fa_machine.specs.Writing.{Abandons, Commits, Reserves}
use Rattle.fa_machine.specs.declared.answers.Copied.{Copied}
use Rattle.fa_machine.specs.declared.answers.Copied.TheVariants.{Current, Late}
use Rattle.fa_machine.specs.declared.jobs.CollectorStep.{CollectorStep}
use Rattle.fa_machine.specs.declared.jobs.CollectorStep.TheVariants.{EraseBlock, MoveSlot, Nothing}
use Rattle.fa_machine.specs.declared.jobs.Flight.{Flight}
use Rattle.fa_machine.specs.declared.jobs.Flight.TheVariants.{Erase, Header, Move, Program, Read, Sync}
use Rattle.fa_machine.specs.declared.places.Booking.{Booking}
use Rattle.fa_machine.specs.declared.places.Copying.{Copying}
use Rattle.fa_machine.specs.declared.places.Used.{Used}
use Rattle.fa_machine.specs.declared.places.Used.TheVariants.{Held, Reserved, Stale}
use Rattle.fa_machine.specs.declared.places.Version.{Version}
use Rattle.fa_machine.specs.declared.refusals.AbandonRefused.{AbandonRefused}
use Rattle.fa_machine.specs.declared.refusals.ClaimRefused.TheVariants.{Claimed, NoMemory as ClaimNoMemory}
use Rattle.fa_machine.specs.declared.refusals.CommitCopyRefused.{CommitCopyRefused}
use Rattle.fa_machine.specs.declared.refusals.CommitCopyRefused.TheVariants.{Failed as CopyFailed, Pending as CopyPending}
use Rattle.fa_machine.specs.declared.refusals.CommitRefused.{CommitRefused}
use Rattle.fa_machine.specs.declared.refusals.FlushRefused.TheVariants.{Spent}
use Rattle.fa_machine.specs.declared.refusals.ReserveRefused.{ReserveRefused}
use Rattle.fa_machine.specs.declared.refusals.SpareRefused.TheVariants.{NotSpare}
use Rattle.fa_machine.specs.declared.refusals.WindowRefused.TheVariants.{Busy as WindowBusy, HasOne, NoMemory as WindowNoMemory}
use Rattle.fa_types.specs.declared.kind.Kind.{Kind}
use Rattle.fa_types.specs.declared.numbers.Page.{Page}
use Rattle.fa_types.specs.declared.numbers.Seq.{Seq}
use Rattle.std.proofs.Common.{Bool, List, None, Option, Some, ap, false, inl, inr, refl, subst, sym, true, ℕ, ◌+◌, ◌∙◌, ◌≡◌, ◌⊎◌}
use Rattle.std.proofs.lemmas.Option.{none-some, same_Some}
use Rattle.std.specs.FinMap.{contains_key, get, insert, remove}
use Rattle.std.specs.Option.{option_or}
use Rattle.std.specs.Prelude.{Err, Ok, Result, if◌then◌else◌, option_and_then, option_map, ◌==◌}

-- What an event makes of the epoch, the live dies, the spares and the headers that are behind.
pub data EpochStep (old : Core) (act : Act) (epoch : ℕ) (live spares behind : Numbers) : Type 0 where
  Still : epoch ≡ old.epoch → live ≡ old.page_map.live → spares ≡ old.spares → behind ≡ old.behind
      → EpochStep old act epoch live spares behind
  Wrote : (die told mask : ℕ) → act ≡ Done die DidWriteHeader → get old.jobs die ≡ Some (Header told mask) → epoch ≡ old.epoch
      → live ≡ old.page_map.live
      → spares ≡ old.spares → behind ≡ remove old.behind die → EpochStep old act epoch live spares behind
  Dropped : (die : ℕ) → epoch ≡ old.epoch + 1 → live ≡ remove old.page_map.live die → spares ≡ old.spares → behind ≡ live
      → EpochStep old act epoch live spares behind
  Came : (die : ℕ) → contains_key old.spares die ≡ true → epoch ≡ old.epoch + 1 → live ≡ insert old.page_map.live die tt
      → spares ≡ remove old.spares die
      → behind ≡ live → EpochStep old act epoch live spares behind

abbrev pub StepsEpoch : Core → Act → Core → Type 0
StepsEpoch old act new = EpochStep old act new.epoch new.page_map.live new.spares new.behind

-- nothing of it changes
abbrev pub IsStill : Core → Core → Type 0
IsStill old new = (new.epoch ≡ old.epoch) × (new.page_map.live ≡ old.page_map.live) × (new.spares ≡ old.spares) × (new.behind ≡ old.behind)

module _ (core : Core) (die seat : ℕ) where
  begun_still : (flight : Flight) → IsStill core (begun die seat flight core)
  begun_still (Move page version from to) = (refl, refl, refl, refl)
  begun_still (Read batch page version slot) = (refl, refl, refl, refl)
  begun_still (Program page version slot) = (refl, refl, refl, refl)
  begun_still (Header epoch live) = (refl, refl, refl, refl)
  begun_still (Erase block) = (refl, refl, refl, refl)
  begun_still (Sync flushes) = (refl, refl, refl, refl)

  begun_left : (flight : Flight) → IsStill core (begun die seat flight (without_stale_booking die core))
  begun_left (Move page version from to) = (refl, refl, refl, refl)
  begun_left (Read batch page version slot) = (refl, refl, refl, refl)
  begun_left (Program page version slot) = (refl, refl, refl, refl)
  begun_left (Header epoch live) = (refl, refl, refl, refl)
  begun_left (Erase block) = (refl, refl, refl, refl)
  begun_left (Sync flushes) = (refl, refl, refl, refl)

  left_still : (job : Option Handed) → IsStill core (begins die seat (without_stale_booking die core) job).1
  left_still None = (refl, refl, refl, refl)
  left_still (Some job) = begun_left job.flight

  urgent_still : (job : Option Flight) → IsStill core (after_urgent die seat core job).1
  urgent_still (Some flight) = begun_still flight
  urgent_still None = left_still (other_job (without_stale_booking die core) die)

  idle_still : (b : Bool) → IsStill core (if b then after_urgent die seat core (urgent_job core die) else (None, core)).1
  idle_still true = urgent_still (urgent_job core die)
  idle_still false = (refl, refl, refl, refl)

  -- as a job is handed out
  pub take_still : (answer : Option Handed) (new : Core) → Takes core die seat answer new → IsStill core new
  take_still answer new e = subst (λ (t : Option Handed × Core). IsStill core t.1) (sym e) (idle_still (is_idle core die))

module _ (core : Core) where
  quiet : (act : Act) → StepsEpoch core act core
  quiet act = Still refl refl refl refl

  module _ (act : Act) where
    same : (new x : Core) → new ≡ x → StepsEpoch core act x → StepsEpoch core act new
    same new x e s = subst (StepsEpoch core act) (sym e) s

    reserves : (claim least : ℕ) (kind : Kind) (payload : List ℕ) (answer : Result Seq ReserveRefused) (new : Core)
        → Reserves core claim least kind payload answer new
        → StepsEpoch core act new
    reserves claim least kind payload (Ok seq) new d = same new _ d.2 (quiet act)
    reserves claim least kind payload (Err refused) new d = same new core d.1 (quiet act)

    commits : (claim seat : ℕ) (o : Option Reservation) (answer : Result Seq CommitRefused) (new : Core)
        → Commits core claim seat o answer new → StepsEpoch core act new
    commits claim seat None answer new d = absurd d
    commits claim seat (Some r) (Ok seq) new d = same new _ d.2 (quiet act)
    commits claim seat (Some r) (Err refused) new d = same new core d.1 (quiet act)

    abandons : (claim : ℕ) (o : Option Reservation) (answer : Result (Unit {0}) AbandonRefused) (new : Core)
        → Abandons core claim o answer new → StepsEpoch core act new
    abandons claim None answer new d = absurd d
    abandons claim (Some r) (Ok done) new d = same new _ d.1 (quiet act)
    abandons claim (Some r) (Err refused) new d = same new core d.1 (quiet act)

    copies : (o : Option Copying) (answer : Result Copied CommitCopyRefused) (new : Core) → CommitsCopy core o answer new
        → StepsEpoch core act new
    copies None answer new d = absurd d
    copies (Some c) (Ok Current) new d = same new _ d.2 (quiet act)
    copies (Some c) (Ok Late) new d = same new _ d.2 (quiet act)
    copies (Some c) (Err CopyPending) new d = same new core d.1 (quiet act)
    copies (Some c) (Err CopyFailed) new d = same new _ d.1 (quiet act)

    copying : (page : ℕ) (payload : List ℕ) (version : Option Version) (die : Option ℕ)
        → StepsEpoch core act (copying_to core page payload version die)
    copying page payload None die = quiet act
    copying page payload (Some version) None = quiet act
    copying page payload (Some version) (Some die) = quiet act

    dropped : (die : ℕ) → StepsEpoch core act (drop_die die (record core { jobs = remove core.jobs die }))
    dropped die = Dropped die refl refl refl refl

    answered : (die batch page : ℕ) (bytes : List ℕ) (b : Option OpenBatch) → StepsEpoch core act (with_answer batch page bytes b (record core { jobs = remove core.jobs die }))
    answered die batch page bytes None = quiet act
    answered die batch page bytes (Some b) = quiet act

    read_ended : (die batch page : ℕ) (o : Option (List ℕ)) → StepsEpoch core act (read_ends die batch page o (record core { jobs = remove core.jobs die }))
    read_ended die batch page None = dropped die
    read_ended die batch page (Some bytes) = answered die batch page bytes (get core.batches batch)

  header_ended : (die told mask : ℕ) → get core.jobs die ≡ Some (Header told mask) → (b : Bool)
      → StepsEpoch core (Done die DidWriteHeader) (if b then record core { jobs = remove core.jobs die; behind = remove core.behind die } else record core { jobs = remove core.jobs die })
  header_ended die told mask job true = Wrote die told mask refl job refl refl refl refl
  header_ended die told mask job false = quiet (Done die DidWriteHeader)

  ended : (die : ℕ) (flight : Flight) (outcome : Outcome) → get core.jobs die ≡ Some flight
      → StepsEpoch core (Done die outcome) (finished die flight outcome (record core { jobs = remove core.jobs die }))
  ended die (Read batch page version slot) (DidRead cell) job = read_ended (Done die (DidRead cell)) die batch.0 page.0 (payload_of page.0 version die slot.0 cell)
  ended die (Program page version slot) DidProgram job = quiet (Done die DidProgram)
  ended die (Move page version from to) DidMove job = quiet (Done die DidMove)
  ended die (Erase block) DidErase job = quiet (Done die DidErase)
  ended die (Header told mask) DidWriteHeader job = header_ended die told mask job (told == core.epoch)
  ended die (Sync flushes) DidSync job = quiet (Done die DidSync)
  ended die flight (Fault call) job = dropped (Done die (Fault call)) die
  ended die flight Wrong job = dropped (Done die Wrong) die
  ended die flight outcome job = quiet (Done die outcome)

  ends : (die : ℕ) (flight : Option Flight) (outcome : Outcome) (new : Core) → get core.jobs die ≡ flight
      → EndsJob core die flight outcome new
      → StepsEpoch core (Done die outcome) new
  ends die None outcome new job d = absurd d
  ends die (Some flight) outcome new job d = same (Done die outcome) new _ d (ended die flight outcome job)

  pub event_epoch : (act : Act) (new : Core) → Does core act new → StepsEpoch core act new
  event_epoch (Claim page (Ok id)) new d = same (Claim page (Ok id)) new _ d.2 (quiet _)
  event_epoch (Claim page (Err Claimed)) new d = same (Claim page (Err Claimed)) new core d.1 (quiet _)
  event_epoch (Claim page (Err ClaimNoMemory)) new d = same (Claim page (Err ClaimNoMemory)) new core d.1 (quiet _)
  event_epoch (Release claim) new d = same (Release claim) new _ d (quiet _)
  event_epoch (Reserve claim payload answer) new d = reserves (Reserve claim payload answer) claim _ _ payload answer new d
  event_epoch (ReserveHole claim answer) new d = reserves (ReserveHole claim answer) claim _ _ _ answer new d
  event_epoch (ReserveFewer claim payload answer) new d = reserves (ReserveFewer claim payload answer) claim _ _ payload answer new d
  event_epoch (Commit claim seat answer) new d = commits (Commit claim seat answer) claim seat (reserved_under core claim) answer new d
  event_epoch (Abandon claim answer) new d = abandons (Abandon claim answer) claim (reserved_under core claim) answer new d
  event_epoch (Admit pages (Ok admitted)) new d = same (Admit pages (Ok admitted)) new _ d.2 (quiet _)
  event_epoch (Admit pages (Err refused)) new d = same (Admit pages (Err refused)) new core d.1 (quiet _)
  event_epoch (Replan batch (Ok planned)) new d = same (Replan batch (Ok planned)) new _ d.1 (quiet _)
  event_epoch (Replan batch (Err refused)) new d = same (Replan batch (Err refused)) new core d.1 (quiet _)
  event_epoch (EndBatch batch answer) new d = same (EndBatch batch answer) new _ d.1 (quiet _)
  event_epoch (Take die seat answer) new d = let s = take_still core die seat answer new d in Still s.0 s.1 s.2 s.3
  event_epoch (Done die outcome) new d = ends die (get core.jobs die) outcome new refl d
  event_epoch (Window die count (Ok first)) new d = same (Window die count (Ok first)) new _ d.3 (quiet _)
  event_epoch (Window die count (Err WindowBusy)) new d = same (Window die count (Err WindowBusy)) new core d.1 (quiet _)
  event_epoch (Window die count (Err HasOne)) new d = same (Window die count (Err HasOne)) new core d.2 (quiet _)
  event_epoch (Window die count (Err WindowNoMemory)) new d = same (Window die count (Err WindowNoMemory)) new core d.2 (quiet _)
  event_epoch (Advance (Ok round)) new d = same (Advance (Ok round)) new _ d.2 (quiet _)
  event_epoch (Advance (Err refused)) new d = same (Advance (Err refused)) new core d.1 (quiet _)
  event_epoch (SpareIn die (Ok made)) new d = same (SpareIn die (Ok made)) new _ d.1 (Came die d.0 refl refl refl refl)
  event_epoch (SpareIn die (Err NotSpare)) new d = same (SpareIn die (Err NotSpare)) new core d.1 (quiet _)
  event_epoch (ReserveCopy page seq payload (Ok made)) new d = same (ReserveCopy page seq payload (Ok made)) new _ d.1
      (copying (ReserveCopy page seq payload (Ok made)) page payload (get core.page_map.versions page) (copy_place core.copies core.page_map page))
  event_epoch (ReserveCopy page seq payload (Err refused)) new d = same (ReserveCopy page seq payload (Err refused)) new core d.1 (quiet _)
  event_epoch (CommitCopy answer) new d = copies (CommitCopy answer) core.copying answer new d
  event_epoch (FlushBegin (Ok flush)) new d = same (FlushBegin (Ok flush)) new _ d.3 (quiet _)
  event_epoch (FlushBegin (Err Spent)) new d = same (FlushBegin (Err Spent)) new core d.1 (quiet _)
  event_epoch (FlushState flush answer) new d = same (FlushState flush answer) new core d.1 (quiet _)
  event_epoch Fold new d = same Fold new _ d (quiet _)

abbrev pub is_header : Flight → Bool
is_header (Header epoch live) = true
is_header flight = false

-- a job that is handed out: a header where that is behind, and else another job
abbrev pub IsHanded : Core → ℕ → Option Handed → Type 0
IsHanded core die None = Unit {0}
IsHanded core die (Some job) =
    ((contains_key core.behind die ≡ true) × (job.flight ≡ Header core.epoch (mask_of core.page_map))) ⊎ ((contains_key core.behind die ≡ false) × (is_header job.flight ≡ false))

place_plain : (page : Page) (version : Version) (from : ℕ) (o : Option ℕ) (flight : Flight)
    → option_map (λ to. Move page version (record { 0 = from }) (record { 0 = to })) o ≡ Some flight → is_header flight ≡ false
place_plain page version from None flight e = absurd (none-some flight e)
place_plain page version from (Some to) flight e = sym (ap is_header (same_Some _ flight e))

move_plain : (m : MapState) (die from : ℕ) (used : Option Used) (flight : Flight) → move_from m die from used ≡ Some flight
    → is_header flight ≡ false
move_plain m die from None flight e = absurd (none-some flight e)
move_plain m die from (Some Reserved) flight e = absurd (none-some flight e)
move_plain m die from (Some Stale) flight e = absurd (none-some flight e)
move_plain m die from (Some (Held page version)) flight e = place_plain page version from _ flight e

step_plain : (m : MapState) (die : ℕ) (s : CollectorStep) (flight : Flight) → flight_of m die s ≡ Some flight → is_header flight ≡ false
step_plain m die (MoveSlot from) flight e = move_plain m die from.0 (used_at m die from.0) flight e
step_plain m die (EraseBlock block) flight e = sym (ap is_header (same_Some _ flight e))
step_plain m die Nothing flight e = absurd (none-some flight e)

if_plain : (b : Bool) (o : Option Flight) (flight : Flight) → (if b then o else None) ≡ Some flight → o ≡ Some flight
if_plain true o flight e = e
if_plain false o flight e = absurd (none-some flight e)

unless_plain : (b : Bool) (o : Option Flight) (flight : Flight) → (if b then None else o) ≡ Some flight → o ≡ Some flight
unless_plain true o flight e = absurd (none-some flight e)
unless_plain false o flight e = e

read_plain : (b : Booking) (v : Option Version) (s : Option ℕ) (flight : Flight) → read_from b v s ≡ Some flight → is_header flight ≡ false
read_plain b None s flight e = absurd (none-some flight e)
read_plain b (Some version) None flight e = absurd (none-some flight e)
read_plain b (Some version) (Some slot) flight e = sym (ap is_header (same_Some _ flight e))

booked_plain : (m : MapState) (die : ℕ) (o : Option Booking) (flight : Flight) → option_and_then (read_of m die) o ≡ Some flight
    → is_header flight ≡ false
booked_plain m die None flight e = absurd (none-some flight e)
booked_plain m die (Some b) flight e = read_plain b _ _ flight (unless_plain b.started _ flight e)

later_plain : (core : Core) (die : ℕ) (o : Option Flight) (flight : Flight) → step_job core die ≡ o
    → option_or o (read_job core die) ≡ Some flight → is_header flight ≡ false
later_plain core die (Some f) flight is e = step_plain core.page_map die (next_step core.page_map die) flight (if_plain _ _ flight (is ∙ e))
later_plain core die None flight is e = booked_plain core.page_map die _ flight e

other_plain : (core : Core) (die : ℕ) (found : Option WaitingProgram) (o : Option Flight) (job : Handed) → sync_job core die ≡ o
    → option_or (option_map (program_of core.page_map) found) (option_map handed o) ≡ Some job → is_header job.flight ≡ false
other_plain core die (Some p) o job is e = sym (ap (λ (j : Handed). is_header j.flight) (same_Some _ job e))
other_plain core die None None job is e = absurd (none-some job e)
other_plain core die None (Some flight) job is e =
    sym (ap (λ (j : Handed). is_header j.flight) (same_Some _ job e)) ∙ sym (ap is_header (same_Some _ flight (if_plain _ _ flight is)))

module _ (core : Core) (die seat : ℕ) where
  behind_handed : (b : Bool) → contains_key core.behind die ≡ b
      → IsHanded core die (after_urgent die seat core (option_or (if b then Some (Header core.epoch (mask_of core.page_map)) else None) (option_or (step_job core die) (read_job core die)))).0
  behind_handed true e = inl (e, refl)
  behind_handed false e = at (option_or (step_job core die) (read_job core die)) refl
    where
      at : (o : Option Flight) → option_or (step_job core die) (read_job core die) ≡ o → IsHanded core die (after_urgent die seat core o).0
      at (Some flight) is = inr (e, later_plain core die (step_job core die) flight refl is)
      at None is = by_other (other_job (without_stale_booking die core) die) refl
        where
          by_other : (j : Option Handed) → other_job (without_stale_booking die core) die ≡ j → IsHanded core die j
          by_other None f = tt
          by_other (Some job) f = inr (e, other_plain (without_stale_booking die core) die _ (sync_job (without_stale_booking die core) die) job refl f)

  idle_handed : (b : Bool) → IsHanded core die (if b then after_urgent die seat core (urgent_job core die) else (None, core)).0
  idle_handed true = behind_handed (contains_key core.behind die) refl
  idle_handed false = tt

  pub take_handed : (answer : Option Handed) (new : Core) → Takes core die seat answer new → IsHanded core die answer
  take_handed answer new e = subst (λ (t : Option Handed × Core). IsHanded core die t.0) (sym e) (idle_handed (is_idle core die))
