-- A read in flight is due what it was due as it was taken.
use Rattle.fa_laws.proofs.Endings.{HappensCall, HasOutcome, with_done}
use Rattle.fa_laws.proofs.Admitting.{one_value_other, one_value_same}
use Rattle.fa_laws.proofs.Answering.{reached_holds}
use Rattle.fa_laws.proofs.Events.{happens_holds}
use Rattle.fa_laws.proofs.Invariant.{Holds, scene_of}
use Rattle.fa_machine.proofs.Maps.{get-insert_other, get-insert_same, get-remove_other}
use Rattle.fa_laws.proofs.Outcomes.{gave_read}
use Rattle.fa_laws.proofs.Runs.{run_keeps}
use Rattle.fa_laws.proofs.Scene.{GaveFits, JobFits}
use Rattle.fa_machine.proofs.Takes.{take_cases}
use Rattle.fa_laws.specs.Reached.{IsReached}
use Rattle.fa_laws.specs.Untouched.{EndsNoJob}
use Rattle.fa_machine.specs.Cells.{Cell, DidErase, DidMove, DidProgram, DidRead, DidSync, DidWriteHeader, Fault, Outcome, Wrong}
use Rattle.fa_machine.specs.Cells.{payload_of}
use Rattle.fa_machine.specs.Conditions.{reserved_under}
use Rattle.fa_machine.specs.Placement.{copy_place}
use Rattle.fa_machine.specs.Run.{CallsNext, Event, Happening, HappensEvent, ImageCall, Run}
use Rattle.fa_machine.specs.State.{Core, OpenBatch, Reservation, is_live}
use Rattle.fa_machine.specs.Step.{Abandon, Act, Admit, Advance, Claim, Commit, CommitCopy, Does, Done, EndBatch, FlushBegin}
use Rattle.fa_machine.specs.Step.{FlushState, Fold, Release, Replan, Reserve, ReserveCopy, ReserveFewer, ReserveHole, SpareIn, Take}
use Rattle.fa_machine.specs.Step.{Window}
use Rattle.fa_machine.specs.Taking.{EndsJob, Handed, Takes, begins, begun, finished, handed, is_idle, read_ends, with_answer}
use Rattle.fa_machine.specs.Taking.{without_stale_booking}
use Rattle.fa_machine.specs.Turning.{CommitsCopy, copying_to}
use Rattle.fa_machine.specs.World.{Due, Gave, JobCall, Work, World, followed, next_call, outcome_of, plain_page}
use Rattle.fa_machine.specs.World.{with_due, with_end, with_told}
use Rattle.fa_machine.specs.Writing.{Abandons, Commits, Reserves}
use Rattle.fa_machine.specs.declared.answers.Copied.{Copied}
use Rattle.fa_machine.specs.declared.answers.Copied.TheVariants.{Current, Late}
use Rattle.fa_machine.specs.declared.ids.BatchId.{BatchId}
use Rattle.fa_machine.specs.declared.jobs.Flight.{Flight}
use Rattle.fa_machine.specs.declared.jobs.Flight.TheVariants.{Erase, Header, Move, Program, Read, Sync}
use Rattle.fa_machine.specs.declared.places.Copying.{Copying}
use Rattle.fa_types.specs.declared.kind.Kind.{Kind}
use Rattle.fa_machine.specs.declared.places.Version.{Version}
use Rattle.fa_machine.specs.declared.refusals.AbandonRefused.{AbandonRefused}
use Rattle.fa_machine.specs.declared.refusals.ClaimRefused.TheVariants.{Claimed, NoMemory as ClaimNoMemory}
use Rattle.fa_machine.specs.declared.refusals.CommitCopyRefused.{CommitCopyRefused}
use Rattle.fa_machine.specs.declared.refusals.CommitCopyRefused.TheVariants.{Failed as CopyFailed, Pending as CopyPending}
use Rattle.fa_machine.specs.declared.refusals.CommitRefused.{CommitRefused}
use Rattle.fa_machine.specs.declared.refusals.FlushRefused.TheVariants.{Spent}
use Rattle.fa_machine.specs.declared.refusals.ReserveCopyRefused.TheVariants.{NoMemory as CopyNoMemory}
use Rattle.fa_machine.specs.declared.refusals.ReserveRefused.{ReserveRefused}
use Rattle.fa_machine.specs.declared.refusals.ReserveRefused.TheVariants.{NoMemory as ReserveNoMemory}
use Rattle.fa_machine.specs.declared.refusals.SpareRefused.TheVariants.{NotSpare}
use Rattle.fa_machine.specs.declared.refusals.WindowRefused.TheVariants.{Busy as WindowBusy, HasOne, NoMemory as WindowNoMemory}
use Rattle.fa_types.specs.declared.numbers.Page.{Page}
use Rattle.fa_types.specs.declared.numbers.Seq.{Seq}
use Rattle.fa_types.specs.declared.numbers.Slot.{Slot}
use Rattle.std.proofs.Common.{Bool, List, None, Option, Some, [], ap, false, refl, subst, sym, true, ℕ, ◌∙◌, ◌∷◌, ◌≡◌}
use Rattle.std.proofs.lemmas.Bool.{and_parts, not-true, true≢false}
use Rattle.std.proofs.lemmas.Option.{none-some, same_Some}
use Rattle.std.specs.FinMap.{FinMap, get, remove}
use Rattle.std.specs.List.{AllByRecursion}
use Rattle.std.specs.Ordering.{nat_cmp}
use Rattle.std.specs.Prelude.{Err, Ok, Result, if◌then◌else◌, is_some, option_map, ◌==◌}

module _ (die : ℕ) (flight : Flight) where
  abbrev pub At : Core → Type 0
  At core = get core.jobs die ≡ Some flight

  same_jobs : (old new x : Core) → new ≡ x → x.jobs ≡ old.jobs → At old → At new
  same_jobs old new x e j at = ap (λ (c : Core). get c.jobs die) e ∙ ap (λ (m : FinMap nat_cmp Flight). get m die) j ∙ at

  reserve_at : (old new : Core) (claim least : ℕ) (kind : Kind) (payload : List ℕ) (answer : Result Seq ReserveRefused)
      → Reserves old claim least kind payload answer new → At old → At new
  reserve_at old new claim least kind payload (Ok seq) d at = same_jobs old new _ d.2 refl at
  reserve_at old new claim least kind payload (Err ReserveNoMemory) d at = same_jobs old new _ d.1 refl at
  reserve_at old new claim least kind payload (Err refused) d at = same_jobs old new _ d.1 refl at

  commit_at : (old new : Core) (claim seat : ℕ) (r : Option Reservation) (answer : Result Seq CommitRefused) → Commits old claim seat r answer new → At old → At new
  commit_at old new claim seat None answer d at = absurd d
  commit_at old new claim seat (Some r) (Ok seq) d at = same_jobs old new _ d.2 refl at
  commit_at old new claim seat (Some r) (Err refused) d at = same_jobs old new _ d.1 refl at

  abandon_at : (old new : Core) (claim : ℕ) (r : Option Reservation) (answer : Result (Unit {0}) AbandonRefused) → Abandons old claim r answer new → At old → At new
  abandon_at old new claim None answer d at = absurd d
  abandon_at old new claim (Some r) (Ok made) d at = same_jobs old new _ d.1 refl at
  abandon_at old new claim (Some r) (Err refused) d at = same_jobs old new _ d.1 refl at

  copying_at : (old : Core) (page : ℕ) (payload : List ℕ) (v : Option Version) (d : Option ℕ) → At old → At (copying_to old page payload v d)
  copying_at old page payload (Some v) (Some d) at = at
  copying_at old page payload (Some v) None at = at
  copying_at old page payload None d at = at

  copy_at : (old new : Core) (c : Option Copying) (answer : Result Copied CommitCopyRefused) → CommitsCopy old c answer new → At old → At new
  copy_at old new None answer d at = absurd d
  copy_at old new (Some c) (Ok Current) d at = same_jobs old new _ d.2 refl at
  copy_at old new (Some c) (Ok Late) d at = same_jobs old new _ d.2 refl at
  copy_at old new (Some c) (Err CopyPending) d at = same_jobs old new _ d.1 refl at
  copy_at old new (Some c) (Err CopyFailed) d at = same_jobs old new _ d.1 refl at

  begun_at : (old : Core) (d seat : ℕ) (f : Flight) → (die ≡ d → ⊥) → At old → At (begun d seat f old)
  begun_at old d seat (Header epoch live) apart at = get-insert_other old.jobs d (Header epoch live) die apart ∙ at
  begun_at old d seat (Move page version from to) apart at = get-insert_other old.jobs d (Move page version from to) die apart ∙ at
  begun_at old d seat (Erase block) apart at = get-insert_other old.jobs d (Erase block) die apart ∙ at
  begun_at old d seat (Read batch page version slot) apart at = get-insert_other old.jobs d (Read batch page version slot) die apart ∙ at
  begun_at old d seat (Program page version slot) apart at = get-insert_other old.jobs d (Program page version slot) die apart ∙ at
  begun_at old d seat (Sync flushes) apart at = get-insert_other old.jobs d (Sync flushes) die apart ∙ at

  -- a die that is at a job is handed none
  busy : (old : Core) (d : ℕ) → is_idle old d ≡ true → At old → die ≡ d → ⊥
  busy old d idle at same =
      true≢false (sym (ap is_some (ap (get old.jobs) (sym same) ∙ at)) ∙ not-true _ (and_parts (is_live old.page_map d) _ idle).1)

  abbrev TookAt : ℕ → Option Handed × Core → Type 0
  TookAt d pair = At pair.1 × ((job : Handed) → pair.0 ≡ Some job → die ≡ d → ⊥)

  other_at : (old : Core) (d seat : ℕ) (job : Option Handed) → is_idle old d ≡ true → At old → TookAt d (begins d seat (without_stale_booking d old) job)
  other_at old d seat None idle at = (at, λ j e same. none-some j e)
  other_at old d seat (Some job) idle at = (begun_at (without_stale_booking d old) d seat job.flight (busy old d idle at) at, λ j e same. busy old d idle at same)

  take_at : (old new : Core) (d seat : ℕ) (answer : Option Handed) → Takes old d seat answer new → At old → TookAt d (answer, new)
  take_at old new d seat answer e at =
      subst (TookAt d) (sym e)
      (take_cases old d seat (TookAt d) (at, λ j e same. none-some j e)
      (λ f idle u. (begun_at old d seat f (busy old d idle at) at, λ j e same. busy old d idle at same))
      (λ job idle u. other_at old d seat job idle at))

  finished_at : (core : Core) (out : ℕ) (f : Flight) (outcome : Outcome) → (die ≡ out → ⊥) → At core → At (finished out f outcome core)
  finished_at core out (Read batch page version slot) (DidRead cell) apart at = read_at (payload_of page.0 version out slot.0 cell)
    where
      answer_at : (bytes : List ℕ) (b : Option OpenBatch) → At (with_answer batch.0 page.0 bytes b core)
      answer_at bytes None = at
      answer_at bytes (Some b) = at

      read_at : (o : Option (List ℕ)) → At (read_ends out batch.0 page.0 o core)
      read_at None = get-remove_other core.jobs out die apart ∙ at
      read_at (Some bytes) = answer_at bytes (get core.batches batch.0)
  finished_at core out (Program page version slot) DidProgram apart at = at
  finished_at core out (Move page version from to) DidMove apart at = at
  finished_at core out (Erase block) DidErase apart at = at
  finished_at core out (Header epoch live) DidWriteHeader apart at = header_at (epoch == core.epoch)
    where
      header_at : (b : Bool) → At (if b then record core { behind = remove core.behind out } else core)
      header_at true = at
      header_at false = at
  finished_at core out (Sync flushes) DidSync apart at = at
  finished_at core out f (Fault call) apart at = get-remove_other core.jobs out die apart ∙ at
  finished_at core out f Wrong apart at = get-remove_other core.jobs out die apart ∙ at
  finished_at core out f outcome apart at = at

  done_at : (old new : Core) (out : ℕ) (f : Option Flight) (outcome : Outcome) → (die ≡ out → ⊥) → EndsJob old out f outcome new → At old → At new
  done_at old new out None outcome apart e at = absurd e
  done_at old new out (Some f) outcome apart e at =
      subst At (sym e) (finished_at (record old { jobs = remove old.jobs out }) out f outcome apart (get-remove_other old.jobs out die apart ∙ at))

  event_at : (old : Core) (act : Act) (new : Core) → Does old act new → EndsNoJob die (Event act) → At old → At new
  event_at old (Claim page (Ok id)) new d k at = same_jobs old new _ d.2 refl at
  event_at old (Claim page (Err Claimed)) new d k at = same_jobs old new _ d.1 refl at
  event_at old (Claim page (Err ClaimNoMemory)) new d k at = same_jobs old new _ d.1 refl at
  event_at old (Release claim) new d k at = same_jobs old new _ d refl at
  event_at old (Reserve claim payload answer) new d k at = reserve_at old new claim _ _ payload answer d at
  event_at old (ReserveHole claim answer) new d k at = reserve_at old new claim _ _ _ answer d at
  event_at old (ReserveFewer claim payload answer) new d k at = reserve_at old new claim _ _ payload answer d at
  event_at old (Commit claim seat answer) new d k at = commit_at old new claim seat (reserved_under old claim) answer d at
  event_at old (Abandon claim answer) new d k at = abandon_at old new claim (reserved_under old claim) answer d at
  event_at old (Admit pages (Ok admitted)) new d k at = same_jobs old new _ d.2 refl at
  event_at old (Admit pages (Err refused)) new d k at = same_jobs old new _ d.1 refl at
  event_at old (Replan batch (Ok planned)) new d k at = same_jobs old new _ d.1 refl at
  event_at old (Replan batch (Err refused)) new d k at = same_jobs old new _ d.1 refl at
  event_at old (EndBatch batch answer) new d k at = same_jobs old new _ d.1 refl at
  event_at old (Take out seat answer) new d k at = (take_at old new out seat answer d at).0
  event_at old (Done out outcome) new d k at = done_at old new out (get old.jobs out) outcome (λ same. k (sym same)) d at
  event_at old (Window out count (Ok first)) new d k at = same_jobs old new _ d.3 refl at
  event_at old (Window out count (Err WindowBusy)) new d k at = same_jobs old new _ d.1 refl at
  event_at old (Window out count (Err HasOne)) new d k at = same_jobs old new _ d.2 refl at
  event_at old (Window out count (Err WindowNoMemory)) new d k at = same_jobs old new _ d.2 refl at
  event_at old (Advance (Ok round)) new d k at = same_jobs old new _ d.2 refl at
  event_at old (Advance (Err refused)) new d k at = same_jobs old new _ d.1 refl at
  event_at old (SpareIn out (Ok made)) new d k at = same_jobs old new _ d.1 refl at
  event_at old (SpareIn out (Err NotSpare)) new d k at = same_jobs old new _ d.1 refl at
  event_at old (ReserveCopy page seq payload (Ok made)) new d k at =
      subst At (sym d.1) (copying_at old page payload (get old.page_map.versions page) (copy_place old.copies old.page_map page) at)
  event_at old (ReserveCopy page seq payload (Err CopyNoMemory)) new d k at = same_jobs old new _ d.1 refl at
  event_at old (ReserveCopy page seq payload (Err refused)) new d k at = same_jobs old new _ d.1 refl at
  event_at old (CommitCopy answer) new d k at = copy_at old new old.copying answer d at
  event_at old (FlushBegin (Ok flush)) new d k at = same_jobs old new _ d.3 refl at
  event_at old (FlushBegin (Err Spent)) new d k at = same_jobs old new _ d.1 refl at
  event_at old (FlushState flush answer) new d k at = same_jobs old new _ d.1 refl at
  event_at old Fold new d k at = same_jobs old new _ d refl at

  -- what is due to the read of the die
  with_due_other : (out : ℕ) (f : Flight) (w : World) → (die ≡ out → ⊥) → (with_due out f w).due die ≡ w.due die
  with_due_other out (Read batch page version slot) w apart = one_value_other out _ w.due die apart
  with_due_other out (Header epoch live) w apart = refl
  with_due_other out (Move page version from to) w apart = refl
  with_due_other out (Erase block) w apart = refl
  with_due_other out (Program page version slot) w apart = refl
  with_due_other out (Sync flushes) w apart = refl

  done_due : (out : ℕ) (f : Option Flight) (outcome : Outcome) (w : World) → (with_done out f outcome w).due ≡ w.due
  done_due out None outcome w = refl
  done_due out (Some f) outcome w = end_due f outcome
    where
      told_due : (batch page seq : ℕ) (o : Option (List ℕ)) → (with_told out batch page seq o w).due ≡ w.due
      told_due batch page seq None = refl
      told_due batch page seq (Some bytes) = refl

      end_due : (f : Flight) (outcome : Outcome) → (with_end out (Some f) outcome w).due ≡ w.due
      end_due (Read batch page version slot) (DidRead cell) = told_due batch.0 page.0 version.seq.0 _
      end_due f outcome = refl

  followed_due : (w : World) (act : Act) (new : Core) → Does w.core act new → At w.core → (followed act w).due die ≡ w.due die
  followed_due w (Reserve claim payload (Ok seq)) new d at = refl
  followed_due w (Reserve claim payload (Err refused)) new d at = refl
  followed_due w (ReserveHole claim (Ok seq)) new d at = refl
  followed_due w (ReserveHole claim (Err refused)) new d at = refl
  followed_due w (ReserveFewer claim payload (Ok seq)) new d at = refl
  followed_due w (ReserveFewer claim payload (Err refused)) new d at = refl
  followed_due w (Commit claim seat (Ok seq)) new d at = refl
  followed_due w (Commit claim seat (Err refused)) new d at = refl
  followed_due w (Admit pages (Ok admitted)) new d at = refl
  followed_due w (Admit pages (Err refused)) new d at = refl
  followed_due w (Take out seat None) new d at = refl
  followed_due w (Take out seat (Some job)) new d at = with_due_other out job.flight w ((take_at w.core new out seat (Some job) d at).1 job refl)
  followed_due w (Done out outcome) new d at = ap (λ (f : ℕ → Due). f die) (done_due out (get w.core.jobs out) outcome w)
  followed_due w act new d at = refl

  pub record Pends (due : Due) (w : World) : Type 0 where
    pub at : At w.core
    pub same : w.due die ≡ due

  call_pends : (due : Due) (before after : World) (out : ℕ) (work : Option Work) (gave : Gave) → HappensCall before out work gave after → Pends due before → Pends due after
  call_pends due before after out None gave c p = absurd c
  call_pends due before after out (Some work) gave c p = next_pends (next_call out work.job work.gave) c
    where
      next_pends : (call : Option JobCall) → CallsNext before out (Some work) call gave after → Pends due after
      next_pends None c = absurd c
      next_pends (Some call) c = subst (Pends due) (sym c.2) (record { at = p.at; same = p.same })

  run_pends : (due : Due) (before : World) (happenings : List Happening) (after : World) → Pends due before → Run before happenings after
      → AllByRecursion (EndsNoJob die) happenings → Pends due after
  run_pends due before [] after p run none = subst (Pends due) (sym run) p
  run_pends due before (Event act ∷ happenings) after p run none =
      run_pends due run.0 happenings after (record {
        at = event_at before.core act run.0.core run.1.step.does none.0 p.at;
        same = ap (λ (v : World). v.due die) run.1.follows ∙ followed_due before act run.0.core run.1.step.does p.at ∙ p.same;
      }) run.2 none.1
  run_pends due before (ImageCall out gave ∷ happenings) after p run none =
      run_pends due run.0 happenings after (call_pends due before run.0 out (before.works out) gave run.1 p) run.2 none.1

begun_has : (core : Core) (die seat : ℕ) (flight : Flight) → get (begun die seat flight core).jobs die ≡ Some flight
begun_has core die seat (Header epoch live) = get-insert_same core.jobs die (Header epoch live)
begun_has core die seat (Move page version from to) = get-insert_same core.jobs die (Move page version from to)
begun_has core die seat (Erase block) = get-insert_same core.jobs die (Erase block)
begun_has core die seat (Read batch page version slot) = get-insert_same core.jobs die (Read batch page version slot)
begun_has core die seat (Program page version slot) = get-insert_same core.jobs die (Program page version slot)
begun_has core die seat (Sync flushes) = get-insert_same core.jobs die (Sync flushes)

abbrev HasTaken : ℕ → Option Handed × Core → Type 0
HasTaken die pair = (job : Handed) → pair.0 ≡ Some job → get pair.1.jobs die ≡ Some job.flight

begins_has : (core : Core) (die seat : ℕ) (job : Option Handed) → HasTaken die (begins die seat core job)
begins_has core die seat None j e = absurd (none-some j e)
begins_has core die seat (Some job) j e = begun_has core die seat job.flight ∙ ap (λ (k : Handed). Some k.flight) (same_Some job j e)

taken_has : (old new : Core) (die seat : ℕ) (job : Handed) → Takes old die seat (Some job) new → get new.jobs die ≡ Some job.flight
taken_has old new die seat job e =
    subst (HasTaken die) (sym e)
    (take_cases old die seat (HasTaken die) (λ j f. absurd (none-some j f))
    (λ flight idle u j f. begins_has old die seat (Some (handed flight)) j f)
    (λ o idle u j f. begins_has (without_stale_booking die old) die seat o j f)) job refl

with_due_here : (die : ℕ) (w : World) (flight : Flight) (batch : BatchId) (page : Page) (version : Version) (slot : Slot) → flight ≡ Read batch page version slot
    → (with_due die flight w).due die ≡ record { bytes = plain_page w page.0; since = w.moment }
with_due_here die w flight batch page version slot is =
    ap (λ (f : Flight). (with_due die f w).due die) is ∙ one_value_same die (record { bytes = plain_page w page.0; since = w.moment }) w.due die refl

gave_right : (w : World) (h : Holds w) (die : ℕ) (batch : BatchId) (page : Page) (version : Version) (slot : Slot) (cell : Cell) (work : Option Work)
    → get w.core.jobs die ≡ Some (Read batch page version slot) → w.works die ≡ work → HasOutcome die work (DidRead cell)
    → payload_of page.0 version die slot.0 cell ≡ Some (w.due die).bytes
gave_right w h die batch page version slot cell None job works worked = absurd (none-some (DidRead cell) worked)
gave_right w h die batch page version slot cell (Some work) job works worked =
    let is : work.job.flight ≡ Read batch page version slot =
    same_Some work.job.flight (Read batch page version slot) (sym (ap (option_map {T = Work} (λ k. k.job.flight)) works) ∙ sym (h.jobs die) ∙ job) in
    let fits = h.sound.works die work works in
    let reading = subst (λ f. JobFits (scene_of w).bytes (scene_of w).places (scene_of w).in_block (w.due die).bytes die f work.job.payload) is fits.job in
    let gave = subst (λ f. GaveFits (scene_of w).bytes die f work.gave) is fits.gave in
    let out = subst (λ f. outcome_of die (record (work.job) { flight = f }) work.gave ≡ Some (DidRead cell)) is worked in
    ap (payload_of page.0 version die slot.0) (gave_read (scene_of w).bytes die batch page version slot work.job.payload work.job.lasting work.gave cell out gave) ∙ reading.cell

pub read_gives : (w middle last after : World) (die seat : ℕ) (job : Handed) (batch : BatchId) (page : Page) (version : Version) (slot : Slot)
    (happenings : List Happening) (cell : Cell) → IsReached w → HappensEvent w (Take die seat (Some job)) middle → job.flight ≡ Read batch page version slot
    → Run middle happenings last → AllByRecursion (EndsNoJob die) happenings → HappensEvent last (Done die (DidRead cell)) after
    → payload_of page.0 version die slot.0 cell ≡ Some (plain_page w page.0)
read_gives w middle last after die seat job batch page version slot happenings cell reached took is run none done =
    let holds = happens_holds w (Event (Take die seat (Some job))) middle (reached_holds w reached) took in
    let then_holds = run_keeps Holds (λ before happening after h happens. happens_holds before happening after h happens) middle happenings last holds run in
    let due : Due = record { bytes = plain_page w page.0; since = w.moment } in
    let start : Pends die (Read batch page version slot) due middle = record {
      at = taken_has w.core middle.core die seat job took.step.does ∙ ap Some is;
      same = ap (λ (v : World). v.due die) took.follows ∙ with_due_here die w job.flight batch page version slot is;
    } in
    let pends = run_pends die (Read batch page version slot) due middle happenings last start run none in
    gave_right last then_holds die batch page version slot cell (last.works die) pends.at refl done.told ∙ ap (λ (d : Due). Some d.bytes) pends.same
