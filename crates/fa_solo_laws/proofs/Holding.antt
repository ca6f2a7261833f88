-- What a request has open: at each stage its claim and its batch alone, and no job and no copy.
use Rattle.fa_image.specs.Image.{ImageAnswer, ImageCall}
use Rattle.fa_laws.proofs.Jobs.{jobs_kept}
use Rattle.fa_machine.proofs.Maps.{get-insert_other, get-remove_other, get-remove_same}
use Rattle.fa_machine.specs.Reading.{Admitted, Planned}
use Rattle.fa_machine.specs.State.{Core}
use Rattle.fa_machine.specs.Step.{Abandon, Act, Admit, Advance, Claim, Commit, CommitCopy, Done, EndBatch, FlushBegin, FlushState, Fold, Release, Replan, Reserve}
use Rattle.fa_machine.specs.Step.{ReserveCopy, ReserveFewer, ReserveHole, SpareIn, Step, Take, Window}
use Rattle.fa_machine.specs.declared.answers.Flush.{Flush}
use Rattle.fa_machine.specs.declared.answers.FlushState.{FlushState as StateOfFlush}
use Rattle.fa_machine.specs.declared.answers.FlushState.TheVariants.{NoDie, Synced, Waiting}
use Rattle.fa_machine.specs.declared.jobs.Flight.{Flight}
use Rattle.fa_machine.specs.declared.refusals.AbandonRefused.{AbandonRefused}
use Rattle.fa_machine.specs.declared.refusals.AbandonRefused.TheVariants.{Pending as AbandonPending, Programmed}
use Rattle.fa_machine.specs.declared.refusals.AdmitRefused.{AdmitRefused}
use Rattle.fa_machine.specs.declared.refusals.AdmitRefused.TheVariants.{CalendarFull, Lost as PageLost, NoMemory as AdmitNoMemory, Spent as RoundsSpent}
use Rattle.fa_machine.specs.declared.refusals.ClaimRefused.TheVariants.{Claimed, NoMemory as ClaimNoMemory}
use Rattle.fa_machine.specs.declared.refusals.CommitRefused.{CommitRefused}
use Rattle.fa_machine.specs.declared.refusals.CommitRefused.TheVariants.{Failed, Pending as CommitPending}
use Rattle.fa_machine.specs.declared.refusals.FlushRefused.{FlushRefused}
use Rattle.fa_machine.specs.declared.refusals.FlushRefused.TheVariants.{Spent as FlushesSpent}
use Rattle.fa_machine.specs.declared.refusals.ReserveRefused.{ReserveRefused}
use Rattle.fa_machine.specs.declared.refusals.ReserveRefused.TheVariants.{NoDie as ReserveNoDie, NoMemory as ReserveNoMemory, NoRoom as ReserveNoRoom}
use Rattle.fa_machine.specs.declared.refusals.ReserveRefused.TheVariants.{Spent as NumbersSpent}
use Rattle.fa_mount_headers.specs.declared.judging.Standing.{Standing}
use Rattle.fa_shared_lock.specs.Seats.{number_of}
use Rattle.fa_shared_lock.specs.declared.seat.Seat.{Seat}
use Rattle.fa_shared_lock.specs.Moves.{Folded, Moved, Moves, Rested, Strayed, Strays, Turned}
use Rattle.fa_shared_request.specs.Ops.{Prepares, ended}
use Rattle.fa_shared_request.specs.Waiting.{awaits_flush, without_room}
use Rattle.fa_shared_steps.specs.Prepared.{IsFilled, IsListed, IsMerged, SortsAnswer, SortsPage, after_batch}
use Rattle.fa_shared_steps.specs.Ranges.{covers, first_page, past_page}
use Rattle.fa_shared_steps.specs.Stages.{AfterPlanned, AfterReserve, after_abandon, after_begin, after_commit}
use Rattle.fa_shared_steps.specs.Stages.{after_pages, after_release, after_state, beginning, beginning_by, from_page, opened, stopped, with_fewer}
use Rattle.fa_shared_steps.specs.declared.range.Range.{Range}
use Rattle.fa_shared_steps.specs.declared.request.Fill.{Fill}
use Rattle.fa_shared_steps.specs.declared.request.Task.{Task}
use Rattle.fa_shared_steps.specs.declared.stage.PageClaim.{PageClaim}
use Rattle.fa_shared_steps.specs.declared.stage.Purpose.{Purpose}
use Rattle.fa_shared_steps.specs.declared.stage.Purpose.TheVariants.{Answer, Merge}
use Rattle.fa_shared_steps.specs.declared.stage.Stage.{Stage}
use Rattle.fa_shared_steps.specs.declared.stage.Stage.TheVariants.{Abandoning, Asking, BeginningFlush, Claiming, Committing, Ended, Filling, Flushing}
use Rattle.fa_shared_steps.specs.declared.stage.Stage.TheVariants.{Leaving, Listing, Reading, Releasing, Reserving, Sorting}
use Rattle.fa_shared_steps.specs.declared.stage.Wish.{Wish}
use Rattle.fa_shared_steps.specs.declared.stage.Wish.TheVariants.{Data, Fewer, Hole}
use Rattle.fa_solo.specs.Turns.{Asking as AskingHouse, Asks, Begins, Readies, Refuses, Turns, Waits}
use Rattle.fa_solo_job.proofs.Chains.{awaits_goes, for_order, requests_for_order}
use Rattle.fa_solo_job.proofs.Changes.{Batches, Claims, batches_after, batches_are, claims_after, claims_are}
use Rattle.fa_solo_job.proofs.Open.{goes_batches, goes_claims, order_batches, order_claims}
use Rattle.fa_solo_job.specs.Deeds.{Goes, IsForDies, IsForOrder, IsForRequests, IsMeanwhile, Makes, MakesJob, Runs, Stays}
use Rattle.fa_solo_job.specs.House.{House}
use Rattle.fa_solo_job.specs.Orders.{Copies, Deals, Orders, Reads, Rests}
use Rattle.fa_solo_laws.proofs.DrivenDeeds.{settles_goes}
use Rattle.fa_solo_laws.specs.Driving.{IsForCopy}
use Rattle.fa_solo_laws.specs.Asked.{batch_at, claim_at, claim_for}
use Rattle.fa_types.specs.declared.blocks.BlockFault.{BlockFault}
use Rattle.fa_types.specs.declared.blocks.BlockFault.TheVariants.{Lost, NoMemory, Spent}
use Rattle.fa_types.specs.declared.numbers.Seq.{Seq}
use Rattle.std.proofs.Common.{Bool, List, None, Option, Some, [], ap, false, inl, inr, length, refl, subst, sym, true, ℕ, ◌+◌, ◌++◌, ◌-◌, ◌∙◌, ◌∷◌, ◌≡◌}
use Rattle.std.proofs.lemmas.Bool.{cases_eq, false≢true}
use Rattle.std.proofs.lemmas.Option.{none-some, same_Some}
use Rattle.std.specs.FinMap.{FinMap, contains_key, get, insert, remove}
use Rattle.std.specs.Ordering.{nat_cmp}
use Rattle.std.specs.Prelude.{Err, Ok, Result, if◌then◌else◌, is_some, nat_lt, ◌==◌}

-- none is open but this one
abbrev pub Only : {X : Type 0} → Option ℕ → FinMap nat_cmp X → Type 0
Only o m = (n : ℕ) → contains_key m n ≡ true → o ≡ Some n

module _ {X : Type 0} where
  one_more : (m : FinMap nat_cmp X) (k : ℕ) (x : X) → Only None m → Only (Some k) (insert m k x)
  one_more m k x none n has =
      elim (cases_eq n k) [
        | inl same ↦ ap Some (sym same)
        | inr apart ↦ absurd (none-some n (none n (sym (ap is_some (get-insert_other m k x n apart)) ∙ has)))
      ]

  same_one : (m : FinMap nat_cmp X) (k : ℕ) (x : X) → Only (Some k) m → Only (Some k) (insert m k x)
  same_one m k x only n has =
      elim (cases_eq n k) [
        | inl same ↦ ap Some (sym same)
        | inr apart ↦ only n (sym (ap is_some (get-insert_other m k x n apart)) ∙ has)
      ]

  at_one : (m : FinMap nat_cmp X) (k other : ℕ) (x : X) → other ≡ k → Only (Some k) m → Only (Some k) (insert m other x)
  at_one m k other x is only = subst (λ (n : ℕ). Only (Some k) (insert m n x)) (sym is) (same_one m k x only)

  none_left : (m : FinMap nat_cmp X) (k : ℕ) → Only (Some k) m → Only None (remove m k)
  none_left m k only n has =
      elim (cases_eq n k) [
        | inl same ↦ absurd (false≢true (sym (ap is_some (ap (get (remove m k)) same ∙ get-remove_same m k)) ∙ has))
        | inr apart ↦ absurd (apart (sym (same_Some k n (only n (sym (ap is_some (get-remove_other m k n apart)) ∙ has)))))
      ]

  none_open : (m : FinMap nat_cmp X) (k : ℕ) → contains_key m k ≡ false → Only (Some k) m → Only None m
  none_open m k closed only n has =
      absurd (false≢true (sym closed ∙ ap (contains_key m) (same_Some k n (only n has)) ∙ has))

  same_keys : (o : Option ℕ) (m new : FinMap nat_cmp X) → ((n : ℕ) → contains_key new n ≡ contains_key m n) → Only o m → Only o new
  same_keys o m new same only n has = only n (sym (same n) ∙ has)

-- no die has a job
abbrev pub HasNoJob : Core → Type 0
HasNoJob core = (die : ℕ) → get core.jobs die ≡ None

module _ {A : Type 0} where
  -- What is open at a stage: its claim and its batch, if it has them.
  pub record Holds (stage : Stage A) (core : Core) : Type 0 where
    pub jobs : HasNoJob core
    pub claims : Only (claim_at stage) core.claims
    pub batches : Only (batch_at stage) core.batches

  -- the claim and the batch of a stage
  abbrev pub Has : Option ℕ → Option ℕ → Stage A → Type 0
  Has claim batch stage = (claim_at stage ≡ claim) × (batch_at stage ≡ batch)

  either : (claim batch : Option ℕ) (b : Bool) (x y : Stage A) → Has claim batch x → Has claim batch y → Has claim batch (if b then x else y)
  either claim batch true x y one other = one
  either claim batch false x y one other = other

-- stages that are known
module _ (A : Type 0) where
  stopped_has : (purpose : Purpose) (fault : BlockFault) → Has (claim_for purpose) None (stopped {A = A} purpose fault)
  stopped_has (Answer page) fault = (refl, refl)
  stopped_has (Merge held) fault = (refl, refl)

  pages_have : (t : Task) → Has None None (after_pages {A = A} t)
  pages_have t = either None None t.flush BeginningFlush (Ended None) (refl, refl) (refl, refl)

  page_has : (t : Task) (page : ℕ) → Has None None (from_page {A = A} t page)
  page_has t page = either None None (nat_lt page (past_page t.range)) (Claiming (record { 0 = page })) (after_pages t) (refl, refl) (pages_have t)

  opened_has : (t : Task) (held : PageClaim) → Has (Some held.claim.0) None (opened {A = A} t held)
  opened_has t held = either (Some held.claim.0) None (covers t.range held.page.0) (Filling held false) (Listing (Merge held)) (refl, refl) (refl, refl)

  released_has : (t : Task) (held : PageClaim) (fault : Option BlockFault) → Has None None (after_release {A = A} t held fault)
  released_has t held None = page_has t (held.page.0 + 1)
  released_has t held (Some fault) = (refl, refl)

  begun_has : (answer : Result Flush FlushRefused) → Has None None (after_begin {A = A} answer)
  begun_has (Ok flush) = (refl, refl)
  begun_has (Err FlushesSpent) = (refl, refl)

  state_has : (flush : Flush) (answer : StateOfFlush) → Has None None (after_state {A = A} flush answer)
  state_has flush Waiting = (refl, refl)
  state_has flush Synced = (refl, refl)
  state_has flush NoDie = (refl, refl)

  batch_has : (r : Range) (page : ℕ) (answer : List ℕ) → Has None None (after_batch {A = A} r page answer)
  batch_has r page answer =
      either None None (nat_lt page (past_page r)) (Listing (Answer page)) (if length answer == r.to - r.from then Ended None else Ended (Some Lost))
      (refl, refl) (either None None (length answer == r.to - r.from) (Ended None) (Ended (Some Lost)) (refl, refl) (refl, refl))

  pub beginning_has : (t : Task) → Has None None (beginning {A = A} t)
  beginning_has t = by t.fill
    where
      by : (fill : Option Fill) → Has None None (beginning_by {A = A} t fill)
      by (Some fill) = page_has t (first_page t.range)
      by None =
          either None None t.flush (after_pages t)
          (if t.range.from == t.range.to then Ended None else Listing (Answer (first_page t.range))) (pages_have t)
          (either None None (t.range.from == t.range.to) (Ended None) (Listing (Answer (first_page t.range))) (refl, refl) (refl, refl))

module _ {A : Type 0} where
  planned_has : (claim batch : Option ℕ) (stage planned : Stage A) (refused : BlockFault → Stage A) (answer : Result Planned AdmitRefused)
      (next : Stage A) → AfterPlanned stage planned refused answer next → Has claim batch planned → Has claim batch stage
      → ((fault : BlockFault) → Has claim batch (refused fault)) → Has claim batch next
  planned_has claim batch stage planned refused (Ok plan) next is one two three = subst (Has claim batch) (sym is) one
  planned_has claim batch stage planned refused (Err (PageLost page)) next (inl is) one two three = subst (Has claim batch) (sym is) (three Lost)
  planned_has claim batch stage planned refused (Err (PageLost page)) next (inr is) one two three = subst (Has claim batch) (sym is) two
  planned_has claim batch stage planned refused (Err CalendarFull) next is one two three = subst (Has claim batch) (sym is) two
  planned_has claim batch stage planned refused (Err RoundsSpent) next is one two three = subst (Has claim batch) (sym is) (three Spent)
  planned_has claim batch stage planned refused (Err AdmitNoMemory) next is one two three = subst (Has claim batch) (sym is) (three NoMemory)

  fewer_has : (held : PageClaim) (wish : Wish A) → Has (Some held.claim.0) None (with_fewer held wish)
  fewer_has held (Data payload) = (refl, refl)
  fewer_has held (Fewer payload) = (refl, refl)
  fewer_has held Hole = (refl, refl)

  reserved_has : (held : PageClaim) (wish : Wish A) (answer : Result Seq ReserveRefused) (next : Stage A) → AfterReserve held wish answer next
      → Has (Some held.claim.0) None next
  reserved_has held wish (Ok seq) next is = subst (Has (Some held.claim.0) None) (sym is) (refl, refl)
  reserved_has held wish (Err ReserveNoRoom) next (inl is) = subst (Has (Some held.claim.0) None) (sym is) (fewer_has held wish)
  reserved_has held wish (Err ReserveNoRoom) next (inr is) = subst (Has (Some held.claim.0) None) (sym is) (refl, refl)
  reserved_has held wish (Err ReserveNoDie) next is = subst (Has (Some held.claim.0) None) (sym is) (refl, refl)
  reserved_has held wish (Err NumbersSpent) next is = subst (Has (Some held.claim.0) None) (sym is) (refl, refl)
  reserved_has held wish (Err ReserveNoMemory) next is = subst (Has (Some held.claim.0) None) (sym is) (refl, refl)

  committed_has : (held : PageClaim) (wish : Wish A) (answer : Result Seq CommitRefused) → Has (Some held.claim.0) None (after_commit held wish answer)
  committed_has held wish (Ok seq) = (refl, refl)
  committed_has held wish (Err CommitPending) = (refl, refl)
  committed_has held wish (Err Failed) = (refl, refl)

  abandoned_has : (held : PageClaim) (wish : Wish A) (answer : Result (Unit {0}) AbandonRefused)
      → Has (Some held.claim.0) None (after_abandon held wish answer)
  abandoned_has held wish (Ok done) = (refl, refl)
  abandoned_has held wish (Err AbandonPending) = (refl, refl)
  abandoned_has held wish (Err Programmed) = (refl, refl)

  -- what is open, by the claim and the batch of a stage
  pub holds_at : (claim batch : Option ℕ) (next : Stage A) (core : Core) → HasNoJob core → Has claim batch next → Only claim core.claims
      → Only batch core.batches → Holds next core
  holds_at claim batch next core jobs has claims batches = record {
    jobs = jobs;
    claims = subst (λ (o : Option ℕ). Only o core.claims) (sym has.0) claims;
    batches = subst (λ (o : Option ℕ). Only o core.batches) (sym has.1) batches;
  }

  -- behind an event
  holds_by : (claim batch : Option ℕ) (stage next : Stage A) (old : Core) (act : Act) (new : Core) → Holds stage old → Step old act new
      → new.jobs ≡ old.jobs → Has claim batch next → Only claim (claims_after old act) → Only batch (batches_after old act) → Holds next new
  holds_by claim batch stage next old act new h step jobs has claims batches =
      holds_at claim batch next new (λ die. ap (λ (m : FinMap nat_cmp Flight). get m die) jobs ∙ h.jobs die) has
      (subst (λ (m : Claims). Only claim m) (sym (claims_are old act new step.does)) claims)
      (subst (λ (m : Batches). Only batch m) (sym (batches_are old act new step.does)) batches)

  moves_hold : (t : Task) (seat : ℕ) (stage : Stage A) (act : Act) (next : Stage A) → Moves t seat stage act next → (old new : Core)
      → Step old act new → Holds stage old → Holds next new
  moves_hold t seat (Asking purpose pages) (Admit asked (Ok admitted)) next moves old new step h =
      holds_by (claim_for purpose) (Some admitted.batch.0) (Asking purpose pages) next old _ new h step (jobs_kept old _ new step)
      (subst (Has (claim_for purpose) (Some admitted.batch.0)) (sym moves.1) (refl, refl)) h.claims
      (one_more old.batches admitted.batch.0 _ h.batches)
  moves_hold t seat (Asking purpose pages) (Admit asked (Err refused)) next moves old new step h =
      holds_by (claim_for purpose) None (Asking purpose pages) next old _ new h step (jobs_kept old _ new step)
      (planned_has (claim_for purpose) None (Asking purpose pages) (Asking purpose pages) (stopped purpose) (Err refused) next moves.1 (refl, refl)
      (refl, refl) (stopped_has A purpose)) h.claims h.batches
  moves_hold t seat (Reading purpose batch) (Replan b answer) next moves old new step h =
      holds_by (claim_for purpose) (Some batch.0) (Reading purpose batch) next old _ new h step (jobs_kept old _ new step)
      (planned_has (claim_for purpose) (Some batch.0) (Reading purpose batch) (Reading purpose batch) (Leaving purpose batch) answer next moves.1
      (refl, refl) (refl, refl) (λ fault. (refl, refl))) h.claims h.batches
  moves_hold t seat (Reading purpose batch) (EndBatch b answers) (Sorting p given) moves old new step h =
      holds_by (claim_for purpose) None (Reading purpose batch) (Sorting p given) old _ new h step (jobs_kept old _ new step)
      (ap claim_for moves.1.0, refl) h.claims (subst (λ (n : ℕ). Only None (remove old.batches n)) (sym moves.0) (none_left old.batches batch.0 h.batches))
  moves_hold t seat (Reading purpose batch) (EndBatch b answers) next moves old new step h = absurd moves.1
  moves_hold t seat (Leaving purpose batch fault) (EndBatch b answers) next moves old new step h =
      holds_by (claim_for purpose) None (Leaving purpose batch fault) next old _ new h step (jobs_kept old _ new step)
      (subst (Has (claim_for purpose) None) (sym moves.1) (stopped_has A purpose fault)) h.claims
      (subst (λ (n : ℕ). Only None (remove old.batches n)) (sym moves.0) (none_left old.batches batch.0 h.batches))
  moves_hold t seat (Claiming page) (Claim p (Ok claim)) next moves old new step h =
      holds_by (Some claim.0) None (Claiming page) next old _ new h step (jobs_kept old _ new step)
      (subst (Has (Some claim.0) None) (sym moves.1) (opened_has A t (record { page = page; claim = claim }))) (one_more old.claims claim.0 _ h.claims)
      h.batches
  moves_hold t seat (Claiming page) (Claim p (Err Claimed)) next moves old new step h =
      holds_by None None (Claiming page) next old _ new h step (jobs_kept old _ new step) (subst (Has None None) (sym moves.1) (refl, refl)) h.claims
      h.batches
  moves_hold t seat (Claiming page) (Claim p (Err ClaimNoMemory)) next moves old new step h =
      holds_by None None (Claiming page) next old _ new h step (jobs_kept old _ new step) (subst (Has None None) (sym moves.1) (refl, refl)) h.claims
      h.batches
  moves_hold t seat (Reserving held (Data payload)) (Reserve claim bytes (Ok seq)) next moves old new step h =
      holds_by (Some held.claim.0) None (Reserving held (Data payload)) next old _ new h step (jobs_kept old _ new step)
      (reserved_has held (Data payload) (Ok seq) next moves.2) (at_one old.claims held.claim.0 claim _ moves.0 h.claims) h.batches
  moves_hold t seat (Reserving held (Data payload)) (Reserve claim bytes (Err refused)) next moves old new step h =
      holds_by (Some held.claim.0) None (Reserving held (Data payload)) next old _ new h step (jobs_kept old _ new step)
      (reserved_has held (Data payload) (Err refused) next moves.2) h.claims h.batches
  moves_hold t seat (Reserving held (Fewer payload)) (ReserveFewer claim bytes (Ok seq)) next moves old new step h =
      holds_by (Some held.claim.0) None (Reserving held (Fewer payload)) next old _ new h step (jobs_kept old _ new step)
      (reserved_has held (Fewer payload) (Ok seq) next moves.2) (at_one old.claims held.claim.0 claim _ moves.0 h.claims) h.batches
  moves_hold t seat (Reserving held (Fewer payload)) (ReserveFewer claim bytes (Err refused)) next moves old new step h =
      holds_by (Some held.claim.0) None (Reserving held (Fewer payload)) next old _ new h step (jobs_kept old _ new step)
      (reserved_has held (Fewer payload) (Err refused) next moves.2) h.claims h.batches
  moves_hold t seat (Reserving held Hole) (ReserveHole claim (Ok seq)) next moves old new step h =
      holds_by (Some held.claim.0) None (Reserving held Hole) next old _ new h step (jobs_kept old _ new step)
      (reserved_has held Hole (Ok seq) next moves.1) (at_one old.claims held.claim.0 claim _ moves.0 h.claims) h.batches
  moves_hold t seat (Reserving held Hole) (ReserveHole claim (Err refused)) next moves old new step h =
      holds_by (Some held.claim.0) None (Reserving held Hole) next old _ new h step (jobs_kept old _ new step)
      (reserved_has held Hole (Err refused) next moves.1) h.claims h.batches
  moves_hold t seat (Committing held wish) (Commit claim by (Ok seq)) next moves old new step h =
      holds_by (Some held.claim.0) None (Committing held wish) next old _ new h step (jobs_kept old _ new step)
      (subst (Has (Some held.claim.0) None) (sym moves.2) (committed_has held wish (Ok seq)))
      (at_one old.claims held.claim.0 claim _ moves.0 h.claims) h.batches
  moves_hold t seat (Committing held wish) (Commit claim by (Err refused)) next moves old new step h =
      holds_by (Some held.claim.0) None (Committing held wish) next old _ new h step (jobs_kept old _ new step)
      (subst (Has (Some held.claim.0) None) (sym moves.2) (committed_has held wish (Err refused))) h.claims h.batches
  moves_hold t seat (Abandoning held wish) (Abandon claim (Ok done)) next moves old new step h =
      holds_by (Some held.claim.0) None (Abandoning held wish) next old _ new h step (jobs_kept old _ new step)
      (subst (Has (Some held.claim.0) None) (sym moves.1) (abandoned_has held wish (Ok done)))
      (at_one old.claims held.claim.0 claim _ moves.0 h.claims) h.batches
  moves_hold t seat (Abandoning held wish) (Abandon claim (Err refused)) next moves old new step h =
      holds_by (Some held.claim.0) None (Abandoning held wish) next old _ new h step (jobs_kept old _ new step)
      (subst (Has (Some held.claim.0) None) (sym moves.1) (abandoned_has held wish (Err refused))) h.claims h.batches
  moves_hold t seat (Releasing held fault) (Release claim) next moves old new step h =
      holds_by None None (Releasing held fault) next old _ new h step (jobs_kept old _ new step)
      (subst (Has None None) (sym moves.1) (released_has A t held fault))
      (subst (λ (n : ℕ). Only None (remove old.claims n)) (sym moves.0) (none_left old.claims held.claim.0 h.claims)) h.batches
  moves_hold t seat (Releasing held fault) (Abandon claim (Ok done)) next moves old new step h =
      holds_by (Some held.claim.0) None (Releasing held fault) next old _ new h step (jobs_kept old _ new step)
      (subst (Has (Some held.claim.0) None) (sym moves.1) (refl, refl)) (at_one old.claims held.claim.0 claim _ moves.0 h.claims) h.batches
  moves_hold t seat (Releasing held fault) (Abandon claim (Err refused)) next moves old new step h =
      holds_by (Some held.claim.0) None (Releasing held fault) next old _ new h step (jobs_kept old _ new step)
      (subst (Has (Some held.claim.0) None) (sym moves.1) (refl, refl)) h.claims h.batches
  moves_hold t seat BeginningFlush (FlushBegin answer) next moves old new step h =
      holds_by None None BeginningFlush next old _ new h step (jobs_kept old _ new step) (subst (Has None None) (sym moves) (begun_has A answer)) h.claims
      h.batches
  moves_hold t seat (Flushing flush) (FlushState f answer) next moves old new step h =
      holds_by None None (Flushing flush) next old _ new h step (jobs_kept old _ new step)
      (subst (Has None None) (sym moves.1) (state_has A flush answer)) h.claims h.batches
  moves_hold t seat stage act next moves old new step h = absurd moves

  -- no event can be made
  strays_hold : (core : Core) (stage next : Stage A) → Strays core stage next → Holds stage core → Holds next core
  strays_hold core (Asking purpose pages) next strays h =
      holds_at (claim_for purpose) None next core h.jobs (subst (Has (claim_for purpose) None) (sym strays) (stopped_has A purpose Lost)) h.claims h.batches
  strays_hold core (Reading purpose batch) next strays h =
      holds_at (claim_for purpose) None next core h.jobs (subst (Has (claim_for purpose) None) (sym strays.1) (stopped_has A purpose Lost)) h.claims
      (none_open core.batches batch.0 strays.0 h.batches)
  strays_hold core (Leaving purpose batch fault) next strays h =
      holds_at (claim_for purpose) None next core h.jobs (subst (Has (claim_for purpose) None) (sym strays.1) (stopped_has A purpose fault)) h.claims
      (none_open core.batches batch.0 strays.0 h.batches)
  strays_hold core (Claiming page) next strays h =
      holds_at None None next core h.jobs (subst (Has None None) (sym strays.1) (refl, refl)) h.claims h.batches
  strays_hold core (Reserving held wish) next strays h =
      holds_at (Some held.claim.0) None next core h.jobs (subst (Has (Some held.claim.0) None) (sym strays) (refl, refl)) h.claims h.batches
  strays_hold core (Committing held wish) next strays h =
      holds_at (Some held.claim.0) None next core h.jobs (subst (Has (Some held.claim.0) None) (sym strays.1) (refl, refl)) h.claims h.batches
  strays_hold core (Abandoning held wish) next strays h =
      holds_at (Some held.claim.0) None next core h.jobs (subst (Has (Some held.claim.0) None) (sym strays.1) (refl, refl)) h.claims h.batches
  strays_hold core (Releasing held fault) next strays h =
      holds_at None None next core h.jobs (subst (Has None None) (sym strays.1) (refl, refl)) (none_open core.claims held.claim.0 strays.0 h.claims)
      h.batches
  strays_hold core stage next strays h = absurd strays

  fold_holds : (stage : Stage A) (old new : Core) → Step old Fold new → Holds stage old → Holds stage new
  fold_holds stage old new step h =
      holds_by (claim_at stage) (batch_at stage) stage stage old Fold new h step (jobs_kept old Fold new step) (refl, refl) h.claims h.batches

  turn_holds : {L : Type 0} (t : Task) (before after : Seat L) (old : Core) (stage : Stage A) (new : Core) (next : Stage A)
      → Turned t before after old stage new next → Holds stage old → Holds next new
  turn_holds t before after old stage new next (Rested same commits here) h =
      subst (λ (s : Stage A). Holds s new) (sym here) (subst (Holds stage) (sym same) h)
  turn_holds t before after old stage new next (Moved act step commits moves founded) h =
      moves_hold t (number_of before) stage act next moves old new step h
  turn_holds t before after old stage new next (Folded between act full fold step commits moves founded) h =
      moves_hold t (number_of before) stage act next moves between new step (fold_holds stage old between fold h)
  turn_holds t before after old stage new next (Strayed same commits strays barred) h =
      subst (Holds next) (sym same) (strays_hold old stage next strays h)

  -- what a request prepares
  listed_has : (r : Range) (purpose : Purpose) (next : Stage A) → IsListed r purpose next → Has (claim_for purpose) None next
  listed_has r (Merge held) (Asking n pages) is = (ap claim_for is.0, refl)
  listed_has r (Answer page) (Asking n pages) is = (ap claim_for is.0, refl)
  listed_has r purpose next is = subst (Has (claim_for purpose) None) (sym is) (stopped_has A purpose NoMemory)

  released : (held : PageClaim) (next : Stage A) (fault : BlockFault) → next ≡ Releasing held (Some fault) → Has (Some held.claim.0) None next
  released held next fault is = subst (Has (Some held.claim.0) None) (sym is) (refl, refl)

  filled_has : (t : Task) (bytes : List ℕ) (held : PageClaim) (fewer : Bool) (next : Stage A) → IsFilled t bytes held fewer next
      → Has (Some held.claim.0) None next
  filled_has t bytes held fewer (Reserving k wish) is = (ap (λ (c : PageClaim). Some c.claim.0) is.0, refl)
  filled_has t bytes held fewer next (inl is) = released held next NoMemory is
  filled_has t bytes held fewer next (inr (none, is)) = released held next Lost is

  merged_has : (t : Task) (bytes : List ℕ) (held : PageClaim) (given : List ℕ) (next : Stage A) → IsMerged t bytes held given next
      → Has (Some held.claim.0) None next
  merged_has t bytes held given (Reserving k (Data payload)) is = (ap (λ (c : PageClaim). Some c.claim.0) is.0, refl)
  merged_has t bytes held given next (inl is) = released held next NoMemory is
  merged_has t bytes held given next (inr (none, is)) = released held next Lost is

  sorted_has : (t : Task) (bytes : List ℕ) (held : PageClaim) (given : List (ℕ × List ℕ)) (next : Stage A) → SortsPage t bytes held given next
      → Has (Some held.claim.0) None next
  sorted_has t bytes held [] next is = released held next Lost is
  sorted_has t bytes held (e ∷ rest) next is = merged_has t bytes held e.1 next is

  answered_has : (r : Range) (page : ℕ) (given : List (ℕ × List ℕ)) (before : List ℕ) (next : Stage A) (after : List ℕ)
      → SortsAnswer r page given before next after → Has None None next
  answered_has r page given before next after (inl is) = subst (Has None None) (sym is.1) (batch_has A r page after)
  answered_has r page given before next after (inr (inl is)) = subst (Has None None) (sym is) (refl, refl)
  answered_has r page given before next after (inr (inr (none, is))) = subst (Has None None) (sym is) (refl, refl)

  prepares_has : (t : Task) (bytes : List ℕ) (stage : Stage A) (before : List ℕ) (next : Stage A) (after : List ℕ)
      → Prepares t bytes stage before next after → Has (claim_at stage) (batch_at stage) next
  prepares_has t bytes (Listing purpose) before next after is = listed_has t.range purpose next is.0
  prepares_has t bytes (Filling held fewer) before next after is = filled_has t bytes held fewer next is.0
  prepares_has t bytes (Sorting (Merge held) answers) before next after is = sorted_has t bytes held _ next is.0
  prepares_has t bytes (Sorting (Answer page) answers) before next after is = answered_has t.range page _ before next after is
  prepares_has t bytes stage before next after is = subst (Has (claim_at stage) (batch_at stage)) (sym is.0) (refl, refl)

  ready_holds : (t : Task) (bytes : List ℕ) (stage : Stage A) (before : List ℕ) (next : Stage A) (after : List ℕ) (core : Core)
      → Prepares t bytes stage before next after → Holds stage core → Holds next core
  ready_holds t bytes stage before next after core is h =
      holds_at (claim_at stage) (batch_at stage) next core h.jobs (prepares_has t bytes stage before next after is) h.claims h.batches

  without_has : (fault : BlockFault) (stage : Stage A) → Has (claim_at stage) (batch_at stage) (without_room fault stage)
  without_has fault (Reserving held wish) = (refl, refl)
  without_has fault stage = (refl, refl)

-- events that open and end nothing
pub record IsLeaving (P : Act → Type 0) : Type 0 where
  pub batches : (core : Core) (act : Act) → P act → batches_after core act ≡ core.batches
  pub claims : (core : Core) (act : Act) → P act → claims_after core act ≡ core.claims
  pub jobs : (old : Core) (act : Act) (new : Core) → P act → Step old act new → new.jobs ≡ old.jobs

order_jobs : (old : Core) (act : Act) (new : Core) → IsForOrder act → Step old act new → new.jobs ≡ old.jobs
order_jobs old (Admit (page ∷ []) (Err refused)) new may step = jobs_kept old _ new step
order_jobs old (ReserveCopy page seq payload (Err refused)) new may step = jobs_kept old _ new step
order_jobs old (Take die seat None) new may step = jobs_kept old _ new step
order_jobs old (Window die rounds answer) new may step = jobs_kept old _ new step
order_jobs old (Advance answer) new may step = jobs_kept old _ new step
order_jobs old (SpareIn die answer) new may step = jobs_kept old _ new step
order_jobs old Fold new may step = jobs_kept old _ new step
order_jobs old act new may step = absurd may

order_leaves : IsLeaving IsForOrder
order_leaves = record { batches = order_batches; claims = order_claims; jobs = order_jobs }

narrower : (P Q : Act → Type 0) → ((act : Act) → Q act → P act) → IsLeaving P → IsLeaving Q
narrower P Q is leaves = record {
  batches = λ core act may. leaves.batches core act (is act may);
  claims = λ core act may. leaves.claims core act (is act may);
  jobs = λ old act new may. leaves.jobs old act new (is act may);
}

dies_leave : IsLeaving IsForDies
dies_leave = narrower IsForOrder IsForDies for_order order_leaves

pub requests_leave : IsLeaving IsForRequests
requests_leave = narrower IsForOrder IsForRequests requests_for_order order_leaves

meanwhile_leaves : (flush : Bool) → IsLeaving (IsMeanwhile flush)
meanwhile_leaves true = dies_leave
meanwhile_leaves false = requests_leave

copy_leaves : IsLeaving IsForCopy
copy_leaves = record { batches = kept_batches; claims = kept_claims; jobs = kept_jobs }
  where
    kept_batches : (core : Core) (act : Act) → IsForCopy act → batches_after core act ≡ core.batches
    kept_batches core (CommitCopy answer) may = refl
    kept_batches core (Take die seat None) may = refl
    kept_batches core (Window die rounds answer) may = refl
    kept_batches core (Advance answer) may = refl
    kept_batches core Fold may = refl
    kept_batches core act may = absurd may

    kept_claims : (core : Core) (act : Act) → IsForCopy act → claims_after core act ≡ core.claims
    kept_claims core (CommitCopy answer) may = refl
    kept_claims core (Take die seat None) may = refl
    kept_claims core (Window die rounds answer) may = refl
    kept_claims core (Advance answer) may = refl
    kept_claims core Fold may = refl
    kept_claims core act may = absurd may

    kept_jobs : (old : Core) (act : Act) (new : Core) → IsForCopy act → Step old act new → new.jobs ≡ old.jobs
    kept_jobs old (CommitCopy answer) new may step = jobs_kept old _ new step
    kept_jobs old (Take die seat None) new may step = jobs_kept old _ new step
    kept_jobs old (Window die rounds answer) new may step = jobs_kept old _ new step
    kept_jobs old (Advance answer) new may step = jobs_kept old _ new step
    kept_jobs old Fold new may step = jobs_kept old _ new step
    kept_jobs old act new may step = absurd may

module _ {I : Type 0} (made : I → ImageCall → ImageAnswer → I → Type 0) (array : List ℕ) (dies : List Standing) (seat : ℕ) where
  -- behind a job of a die
  job_none : (die : ℕ) (old new : House I) → MakesJob made array dies seat die old new → HasNoJob old.core → HasNoJob new.core
  job_none die old new job none other =
      let takes = jobs_kept old.core (Take die seat (Some job.job)) job.taken job.takes in
      let ends = jobs_kept job.taken (Done die job.outcome) new.core job.ends in
      elim (cases_eq other die) [
        | inl same ↦ ap (get new.core.jobs) same ∙ ends.0
        | inr apart ↦ ends.1.others other apart ∙ takes.3.others other apart ∙ none other
      ]

  goes_none : (P : Act → Type 0) → IsLeaving P → (old new : House I) → Goes made array dies seat P old new → HasNoJob old.core → HasNoJob new.core
  goes_none P leaves old new Stays none die = none die
  goes_none P leaves old new (Makes middle here act before may due step images) none die =
      ap (λ (m : FinMap nat_cmp Flight). get m die) (leaves.jobs middle.core act new.core may step) ∙ goes_none P leaves old middle before none die
  goes_none P leaves old new (Runs middle here at before job) none die =
      job_none at middle new job (λ other. goes_none P leaves old middle before none other) die

  pub goes_hold : {A : Type 0} (P : Act → Type 0) → IsLeaving P → (stage : Stage A) (old new : House I) → Goes made array dies seat P old new
      → Holds stage old.core → Holds stage new.core
  goes_hold P leaves stage old new goes h = record {
    jobs = goes_none P leaves old new goes h.jobs;
    claims = same_keys (claim_at stage) old.core.claims new.core.claims (goes_claims made array dies seat P leaves.claims old new goes) h.claims;
    batches = same_keys (batch_at stage) old.core.batches new.core.batches (goes_batches made array dies seat P leaves.batches old new goes) h.batches;
  }

  -- a request
  pub asks_hold : {L A : Type 0} (task : Task) (bytes : List ℕ) (a : AskingHouse L I A) (n : ℕ) (b : AskingHouse L I A)
      → Asks made array dies seat task bytes a n b → Holds a.stage a.house.core → Holds b.stage b.house.core
  asks_hold task bytes a n b Begins h = h
  asks_hold task bytes a n b (Turns turns middle here before turn) h =
      turn_holds task middle.seat b.seat middle.house.core middle.stage b.house.core b.stage turn.turned (asks_hold task bytes a turns middle before h)
  asks_hold {A = A} task bytes a n b (Readies turns middle here before ready) h =
      subst (λ (k : House I). Holds b.stage k.core) (sym ready.same_house)
      (ready_holds task bytes middle.stage middle.answer b.stage b.answer middle.house.core ready.prepares (asks_hold task bytes a turns middle before h))
  asks_hold {A = A} task bytes a n b (Waits turns middle here before time) h =
      subst (λ (s : Stage A). Holds s b.house.core) (sym time.stage)
      (goes_hold (IsMeanwhile (awaits_flush middle.stage)) (meanwhile_leaves (awaits_flush middle.stage)) middle.stage middle.house b.house time.goes
      (asks_hold task bytes a turns middle before h))
  asks_hold {A = A} task bytes a n b (Refuses turns middle here before up) h =
      let was = asks_hold task bytes a turns middle before h in
      subst (λ (s : Stage A). Holds s b.house.core) (sym up.stage)
      (subst (λ (k : House I). Holds (without_room up.fault middle.stage) k.core) (sym up.same_house)
      (holds_at (claim_at middle.stage) (batch_at middle.stage) (without_room up.fault middle.stage) middle.house.core was.jobs
      (without_has up.fault middle.stage) was.claims was.batches))

  -- what is done for the array's order
  module _ (A : Type 0) where
    abbrev HasNone : House I → Type 0
    HasNone house = Holds {A = A} (Ended None) house.core

    -- a batch of a page from its Admit to its end
    batch_none : (page : ℕ) (admitted : Admitted) (answers : List (ℕ × List ℕ)) (old asked waited new : House I) → HasNone old
        → Step old.core (Admit (page ∷ []) (Ok admitted)) asked.core → Goes made array dies seat IsForDies asked waited
        → Step waited.core (EndBatch admitted.batch.0 answers) new.core → HasNone new
    batch_none page admitted answers old asked waited new h asks waits ends =
        let reading : Stage A = Reading (Answer page) admitted.batch in
        let one = holds_by None (Some admitted.batch.0) (Ended None) reading old.core _ asked.core h asks (jobs_kept old.core _ asked.core asks)
        (refl, refl) h.claims (one_more old.core.batches admitted.batch.0 _ h.batches) in
        let two = goes_hold IsForDies dies_leave reading asked waited waits one in
        holds_by None None reading (Ended None) waited.core _ new.core two ends (jobs_kept waited.core _ new.core ends) (refl, refl) two.claims
        (none_left waited.core.batches admitted.batch.0 two.batches)

    pub orders_hold : (old new : House I) → Orders made array dies seat old new → HasNone old → HasNone new
    orders_hold old new Rests h = h
    orders_hold old new (Deals middle here before goes) h =
        goes_hold IsForOrder order_leaves (Ended None) middle new goes (orders_hold old middle before h)
    orders_hold old new (Reads middle here before reads) h =
        batch_none reads.page reads.admitted reads.answers middle reads.asked reads.waited new (orders_hold old middle before h) reads.asks
        (awaits_goes made array dies seat reads.admitted.batch.0 reads.asked reads.looks reads.waited reads.waits) reads.ends
    orders_hold old new (Copies middle copied here before c settles) h =
        let ended = batch_none c.page c.admitted (c.others ++ (c.given, c.bytes) ∷ []) middle c.asked c.waited c.ended (orders_hold old middle before h)
        c.asks c.waits c.ends in
        let there = holds_by None None (Ended None) (Ended None) c.ended.core _ copied.core ended c.reserves
        (jobs_kept c.ended.core (ReserveCopy c.page c.version.seq.0 c.bytes (Ok tt)) copied.core c.reserves) (refl, refl) ended.claims ended.batches in
        goes_hold IsForCopy copy_leaves (Ended None) copied new (settles_goes made array dies seat copied new settles) there
