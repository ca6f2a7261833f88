-- Tallies of requests, from what each turn and each preparation does.
use Rattle.std.proofs.Common.{◌≡◌, ◌∙◌, ◌+◌, ◌-◌, ◌≤◌, ◌∷◌, [], ℕ, Bool, IsTrue, List, Option, Some, None, refl, sym, ap, subst}
use Rattle.std.proofs.Common.{arith}
use Rattle.std.proofs.Common.{inl, inr}
use Rattle.std.proofs.lemmas.Bool.Decides.{nat_tests}
use Rattle.std.proofs.lemmas.Option.{none-some, same_Some}
use Rattle.fa_machine.specs.Reading.{Admitted, Planned}
use Rattle.fa_machine.specs.State.{Core}
use Rattle.fa_machine.specs.Step.{Act, Claim, Release, Reserve, ReserveHole, ReserveFewer, Commit, Abandon}
use Rattle.fa_machine.specs.Step.{Admit, Replan, EndBatch, FlushBegin, FlushState}
use Rattle.fa_machine.specs.declared.answers.Flush.{Flush}
use Rattle.fa_machine.specs.declared.answers.FlushState.{FlushState as StateOfFlush}
use Rattle.fa_machine.specs.declared.ids.BatchId.{BatchId}
use Rattle.fa_machine.specs.declared.ids.ClaimId.{ClaimId}
use Rattle.fa_machine.specs.declared.refusals.AbandonRefused.{AbandonRefused}
use Rattle.fa_machine.specs.declared.refusals.ClaimRefused.{ClaimRefused}
use Rattle.fa_machine.specs.declared.refusals.CommitRefused.{CommitRefused}
use Rattle.fa_machine.specs.declared.refusals.FlushRefused.{FlushRefused}
use Rattle.fa_machine.specs.declared.refusals.ReserveRefused.{ReserveRefused}
use Rattle.fa_machine.specs.declared.answers.FlushState.TheVariants.{Waiting, Synced, NoDie}
use Rattle.fa_machine.specs.declared.refusals.AdmitRefused.{AdmitRefused}
use Rattle.fa_machine.specs.declared.refusals.AbandonRefused.TheVariants.{Pending as AbandonPending, Programmed}
use Rattle.fa_machine.specs.declared.refusals.AdmitRefused.TheVariants.{Lost as PageLost, CalendarFull, Spent as RoundsSpent}
use Rattle.fa_machine.specs.declared.refusals.AdmitRefused.TheVariants.{NoMemory as AdmitNoMemory}
use Rattle.fa_machine.specs.declared.refusals.ClaimRefused.TheVariants.{Claimed, NoMemory as ClaimNoMemory}
use Rattle.fa_machine.specs.declared.refusals.CommitRefused.TheVariants.{Pending as CommitPending, Failed}
use Rattle.fa_machine.specs.declared.refusals.FlushRefused.TheVariants.{Spent as FlushesSpent}
use Rattle.fa_machine.specs.declared.refusals.ReserveRefused.TheVariants.{NoRoom as ReserveNoRoom, NoDie as ReserveNoDie}
use Rattle.fa_machine.specs.declared.refusals.ReserveRefused.TheVariants.{Spent as NumbersSpent}
use Rattle.fa_machine.specs.declared.refusals.ReserveRefused.TheVariants.{NoMemory as ReserveNoMemory}
use Rattle.std.proofs.Common.{Result, Ok, Err, Vec}
use Rattle.fa_shared_request.specs.Counts.{Counts, GoesOn, IsMade}
use Rattle.fa_shared_request.proofs.Begun.{left_from, none_refused}
use Rattle.fa_shared_request.specs.Tallies.{Tally, left, left_for, pages_in, refusals, refusals_by, tally_at, tally_of}
use Rattle.fa_shared_lock.specs.Moves.{Moves, Strays, Turned, Rested, Moved, Folded, Strayed}
use Rattle.fa_shared_steps.specs.Stages.{AfterAdmit, AfterPlanned, AfterReserve}
use Rattle.fa_shared_lock.specs.Accounts.{commits_in}
use Rattle.fa_shared_steps.specs.Stages.{after_abandon, after_begin, after_claim, after_commit, after_release, after_state}
use Rattle.fa_shared_steps.specs.Stages.{opened, stopped}
use Rattle.fa_shared_steps.specs.Stages.{IsSorting, with_fewer}
use Rattle.fa_shared_steps.specs.declared.request.Task.{Task}
use Rattle.fa_shared_steps.specs.declared.stage.PageClaim.{PageClaim}
use Rattle.fa_shared_steps.specs.declared.stage.Purpose.{Purpose}
use Rattle.fa_shared_steps.specs.declared.stage.Purpose.TheVariants.{Answer, Merge}
use Rattle.fa_shared_steps.specs.declared.stage.Stage.{Stage}
use Rattle.fa_shared_steps.specs.declared.stage.Stage.TheVariants.{Listing, Asking, Reading, Leaving, Sorting, Claiming, Filling, Reserving}
use Rattle.fa_shared_steps.specs.declared.stage.Stage.TheVariants.{Committing, Abandoning, Releasing, BeginningFlush, Flushing, Ended}
use Rattle.fa_shared_steps.specs.declared.stage.Wish.{Wish}
use Rattle.fa_shared_steps.specs.declared.stage.Wish.TheVariants.{Data, Fewer, Hole}
use Rattle.fa_shared_request.specs.Ops.{OpView, Prepares, answer_of, ended, stage_of, task_in}
use Rattle.fa_shared_steps.specs.Tasks.{task_of}
use Rattle.fa_shared_steps.specs.declared.request.Request.{Request}
use Rattle.fa_shared_steps.specs.Prepared.{IsFilled, IsListed, IsMerged, SortsAnswer, SortsPage, after_batch}
use Rattle.fa_shared_steps.specs.declared.range.Range.{Range}
use Rattle.fa_shared_lock.specs.Seats.{commits_with, number_of}
use Rattle.fa_shared_lock.specs.declared.seat.Seat.{Seat}
use Rattle.fa_types.specs.declared.blocks.BlockFault.{BlockFault}
use Rattle.fa_types.specs.declared.blocks.BlockFault.TheVariants.{Lost, NoMemory, Spent}
use Rattle.fa_types.specs.declared.numbers.Page.{Page}
use Rattle.fa_types.specs.declared.numbers.Seq.{Seq}

pub counts_on : (a b c : Tally) → Counts a b → Counts b c → Counts a c
counts_on a b c one two = record {
  rises = omega (arith, one.rises, two.rises);
  stays = omega (arith, one.stays, two.stays);
  most = omega (arith, one.most, two.most);
  all = λ same. omega (arith, two.all (omega (arith, one.stays, two.stays)), one.all (omega (arith, one.stays, two.stays)));
}

-- A step of a request: so many Commits, from a stage to a stage.
record Counted {A : Type 0} (t : Task) (stage : Stage A) (rise : ℕ) (next : Stage A) : Type 0 where
  stays : refusals stage ≤ refusals next
  most : rise + left t next ≤ left t stage
  all : refusals next ≡ refusals stage → rise + left t next ≡ left t stage

counted_to : {A : Type 0} (t : Task) (stage next : Stage A) (rise : ℕ) (same : Stage A) → next ≡ same → Counted t stage rise same
    → Counted t stage rise next
counted_to t stage next rise same e counted = let P : Stage _ → Type 0 = λ s. Counted t stage rise s in subst P (sym e) counted

counted_same : {A : Type 0} (t : Task) (stage : Stage A) → Counted t stage 0 stage
counted_same t stage = record { stays = omega arith; most = omega arith; all = λ same. omega arith }

counted_stopped : {A : Type 0} (t : Task) (stage : Stage A) (purpose : Purpose) (fault : BlockFault) → refusals stage ≡ 0
    → Counted t stage 0 (stopped purpose fault)
counted_stopped t stage (Answer page) fault none = record { stays = omega arith; most = omega arith; all = λ same. omega arith }
counted_stopped t stage (Merge held) fault none = record { stays = omega arith; most = omega arith; all = λ same. omega arith }

counted_leave : (A : Type 0) (t : Task) (purpose : Purpose) (batch : BatchId) (fault : BlockFault)
    → Counted {A = A} t (Leaving purpose batch fault) 0 (stopped purpose fault)
counted_leave A t (Answer page) batch fault = record { stays = omega arith; most = omega arith; all = λ same. omega arith }
counted_leave A t (Merge held) batch fault = record { stays = omega arith; most = omega arith; all = λ same. omega arith }

counted_dropped : (A : Type 0) (t : Task) (held : PageClaim) (fault : Option BlockFault)
    → Counted {A = A} t (Releasing held fault) 0 (Ended (Some Lost))
counted_dropped A t held None = record { stays = omega arith; most = omega arith; all = λ same. omega arith }
counted_dropped A t held (Some fault) = record { stays = omega arith; most = omega arith; all = λ same. omega arith }

counted_opened : (A : Type 0) (t : Task) (held : PageClaim) → Counted {A = A} t (Claiming held.page) 0 (opened t held)
counted_opened A t held =
    record { stays = grind (arith, nat_tests); most = grind (arith, nat_tests); all = λ same. grind (arith, nat_tests) }

counted_fewer : {A : Type 0} (t : Task) (held : PageClaim) (wish : Wish A) → Counted t (Reserving held wish) 0 (with_fewer held wish)
counted_fewer t held (Data payload) = record { stays = omega arith; most = omega arith; all = λ same. omega arith }
counted_fewer t held (Fewer payload) = record { stays = omega arith; most = omega arith; all = λ same. omega arith }
counted_fewer t held Hole = record { stays = omega arith; most = omega arith; all = λ same. omega arith }

counted_planned : {A : Type 0} (t : Task) (stage planned : Stage A) (refused : BlockFault → Stage A) (answer : Result Planned AdmitRefused)
    (next : Stage A) → Counted t stage 0 planned → ((fault : BlockFault) → Counted t stage 0 (refused fault))
    → AfterPlanned stage planned refused answer next → Counted t stage 0 next
counted_planned t stage planned refused (Ok plan) next goes stops e = counted_to t stage next 0 planned e goes
counted_planned t stage planned refused (Err (PageLost page)) next goes stops (inl e) = counted_to t stage next 0 _ e (stops Lost)
counted_planned t stage planned refused (Err (PageLost page)) next goes stops (inr e) =
    counted_to t stage next 0 stage e (counted_same t stage)
counted_planned t stage planned refused (Err CalendarFull) next goes stops e = counted_to t stage next 0 stage e (counted_same t stage)
counted_planned t stage planned refused (Err RoundsSpent) next goes stops e = counted_to t stage next 0 _ e (stops Spent)
counted_planned t stage planned refused (Err AdmitNoMemory) next goes stops e = counted_to t stage next 0 _ e (stops NoMemory)

counted_admit : {A : Type 0} (t : Task) (purpose : Purpose) (pages : List Page) (answer : Result Admitted AdmitRefused) (next : Stage A)
    → AfterAdmit purpose (Asking purpose pages) answer next → Counted t (Asking purpose pages) 0 next
counted_admit t purpose pages (Ok admitted) next after =
    counted_planned t (Asking purpose pages) (Reading purpose admitted.batch) (stopped purpose) (Ok admitted.planned) next
    record { stays = omega arith; most = omega arith; all = λ same. omega arith }
    (λ fault. counted_stopped t (Asking purpose pages) purpose fault refl) after
counted_admit t purpose pages (Err refused) next after =
    counted_planned t (Asking purpose pages) (Asking purpose pages) (stopped purpose) (Err refused) next
    (counted_same t (Asking purpose pages)) (λ fault. counted_stopped t (Asking purpose pages) purpose fault refl) after

counted_claim : (A : Type 0) (t : Task) (page : Page) (answer : Result ClaimId ClaimRefused)
    → Counted {A = A} t (Claiming page) 0 (after_claim t page answer)
counted_claim A t page (Ok claim) = counted_opened _ t (record { page = page; claim = claim })
counted_claim A t page (Err Claimed) = counted_same t (Claiming page)
counted_claim A t page (Err ClaimNoMemory) = record { stays = omega arith; most = omega arith; all = λ same. omega arith }

counted_reserve : {A : Type 0} (t : Task) (held : PageClaim) (wish : Wish A) (answer : Result Seq ReserveRefused) (next : Stage A)
    → AfterReserve held wish answer next → Counted t (Reserving held wish) 0 next
counted_reserve t held wish (Ok seq) next e =
    counted_to t _ next 0 _ e record { stays = omega arith; most = omega arith; all = λ same. omega arith }
counted_reserve t held wish (Err ReserveNoRoom) next (inl e) = counted_to t _ next 0 _ e (counted_fewer t held wish)
counted_reserve t held wish (Err ReserveNoRoom) next (inr e) = counted_to t _ next 0 _ e (counted_same t (Reserving held wish))
counted_reserve t held wish (Err ReserveNoDie) next e =
    counted_to t _ next 0 _ e record { stays = omega arith; most = omega arith; all = λ same. omega arith }
counted_reserve t held wish (Err NumbersSpent) next e =
    counted_to t _ next 0 _ e record { stays = omega arith; most = omega arith; all = λ same. omega arith }
counted_reserve t held wish (Err ReserveNoMemory) next e =
    counted_to t _ next 0 _ e record { stays = omega arith; most = omega arith; all = λ same. omega arith }

counted_commit : {A : Type 0} (t : Task) (held : PageClaim) (wish : Wish A) (claim seat : ℕ) (answer : Result Seq CommitRefused)
    → Counted t (Committing held wish) (commits_in (Commit claim seat answer)) (after_commit held wish answer)
counted_commit t held wish claim seat (Ok seq) = record { stays = omega arith; most = omega arith; all = λ same. omega arith }
counted_commit t held wish claim seat (Err CommitPending) = counted_same t (Committing held wish)
counted_commit t held wish claim seat (Err Failed) = record { stays = omega arith; most = omega arith; all = λ same. omega arith }

counted_abandon : {A : Type 0} (t : Task) (held : PageClaim) (wish : Wish A) (answer : Result (Unit {0}) AbandonRefused)
    → Counted t (Abandoning held wish) 0 (after_abandon held wish answer)
counted_abandon t held wish (Ok done) = record { stays = omega arith; most = omega arith; all = λ same. omega arith }
counted_abandon t held wish (Err AbandonPending) = counted_same t (Abandoning held wish)
counted_abandon t held wish (Err Programmed) = record { stays = omega arith; most = omega arith; all = λ same. omega arith }

counted_release : (A : Type 0) (t : Task) (held : PageClaim) (fault : Option BlockFault)
    → Counted {A = A} t (Releasing held fault) 0 (after_release t held fault)
counted_release A t held None =
    record {
      stays = omega (arith, none_refused A t (held.page.0 + 1));
      most = omega (arith, left_from A t (held.page.0 + 1));
      all = λ same. omega (arith, left_from A t (held.page.0 + 1));
    }
counted_release A t held (Some fault) = record { stays = omega arith; most = omega arith; all = λ same. omega arith }

counted_begin : (A : Type 0) (t : Task) (answer : Result Flush FlushRefused) → Counted {A = A} t BeginningFlush 0 (after_begin answer)
counted_begin A t (Ok flush) = record { stays = omega arith; most = omega arith; all = λ same. omega arith }
counted_begin A t (Err FlushesSpent) = record { stays = omega arith; most = omega arith; all = λ same. omega arith }

counted_state : (A : Type 0) (t : Task) (flush : Flush) (answer : StateOfFlush)
    → Counted {A = A} t (Flushing flush) 0 (after_state flush answer)
counted_state A t flush Waiting = counted_same t (Flushing flush)
counted_state A t flush Synced = record { stays = omega arith; most = omega arith; all = λ same. omega arith }
counted_state A t flush NoDie = record { stays = omega arith; most = omega arith; all = λ same. omega arith }

counted_sorting : {A : Type 0} (t : Task) (purpose : Purpose) (batch : BatchId) (answers : List (ℕ × List ℕ)) (next : Stage A)
    → IsSorting purpose answers next → Counted t (Reading purpose batch) 0 next
counted_sorting t purpose batch answers (Sorting p given) sorts =
    record { stays = omega arith; most = omega (arith, ap (left_for t) sorts.0); all = λ same. omega (arith, ap (left_for t) sorts.0) }
counted_sorting t purpose batch answers next sorts = absurd sorts

-- what a turn does to how many pages are left, by its event
counted_move : {A : Type 0} (t : Task) (seat : ℕ) (stage : Stage A) (act : Act) (next : Stage A) → Moves t seat stage act next
    → Counted t stage (commits_in act) next
counted_move t seat (Asking purpose pages) (Admit asked answer) next m = counted_admit t purpose pages answer next (m.1)
counted_move t seat (Reading purpose batch) (Replan b answer) next m =
    counted_planned t (Reading purpose batch) (Reading purpose batch) (Leaving purpose batch) answer next
    (counted_same t (Reading purpose batch)) (λ fault. record { stays = omega arith; most = omega arith; all = λ same. omega arith }) (m.1)
counted_move t seat (Reading purpose batch) (EndBatch b answers) next m = counted_sorting t purpose batch answers next (m.1)
counted_move t seat (Leaving purpose batch fault) (EndBatch b answers) next m =
    counted_to t _ next 0 _ (m.1) (counted_leave _ t purpose batch fault)
counted_move t seat (Claiming page) (Claim p answer) next m = counted_to t _ next 0 _ (m.1) (counted_claim _ t page answer)
counted_move t seat (Reserving held (Data payload)) (Reserve claim bytes answer) next m =
    counted_reserve t held (Data payload) answer next (m.2)
counted_move t seat (Reserving held (Fewer payload)) (ReserveFewer claim bytes answer) next m =
    counted_reserve t held (Fewer payload) answer next (m.2)
counted_move t seat (Reserving held Hole) (ReserveHole claim answer) next m = counted_reserve t held Hole answer next (m.1)
counted_move t seat (Committing held wish) (Commit claim by answer) next m =
    counted_to t _ next _ _ (m.2) (counted_commit t held wish claim by answer)
counted_move t seat (Abandoning held wish) (Abandon claim answer) next m =
    counted_to t _ next 0 _ (m.1) (counted_abandon t held wish answer)
counted_move t seat (Releasing held fault) (Release claim) next m = counted_to t _ next 0 _ (m.1) (counted_release _ t held fault)
counted_move t seat (Releasing held fault) (Abandon claim answer) next m =
    counted_to t _ next 0 _ (m.1) (counted_same t (Releasing held fault))
counted_move t seat BeginningFlush (FlushBegin answer) next m = counted_to t _ next 0 _ m (counted_begin _ t answer)
counted_move t seat (Flushing flush) (FlushState f answer) next m = counted_to t _ next 0 _ (m.1) (counted_state _ t flush answer)
counted_move t seat stage act next m = absurd m

-- what a turn does where no event can be made
counted_stray : {A : Type 0} (t : Task) (old : Core) (stage next : Stage A) → Strays old stage next → Counted t stage 0 next
counted_stray t old (Asking purpose pages) next e = counted_to t _ next 0 _ e (counted_stopped t (Asking purpose pages) purpose Lost refl)
counted_stray t old (Reading purpose batch) next e =
    counted_to t _ next 0 _ (e.1) (counted_stopped t (Reading purpose batch) purpose Lost refl)
counted_stray t old (Leaving purpose batch fault) next e = counted_to t _ next 0 _ (e.1) (counted_leave _ t purpose batch fault)
counted_stray t old (Claiming page) next e =
    counted_to t _ next 0 _ (e.1) record { stays = omega arith; most = omega arith; all = λ same. omega arith }
counted_stray t old (Reserving held wish) next e =
    counted_to t _ next 0 _ e record { stays = omega arith; most = omega arith; all = λ same. omega arith }
counted_stray t old (Committing held wish) next e =
    counted_to t _ next 0 _ (e.1) record { stays = omega arith; most = omega arith; all = λ same. omega arith }
counted_stray t old (Abandoning held wish) next e =
    counted_to t _ next 0 _ (e.1) record { stays = omega arith; most = omega arith; all = λ same. omega arith }
counted_stray t old (Releasing held fault) next e = counted_to t _ next 0 _ (e.1) (counted_dropped _ t held fault)
counted_stray t old stage next e = absurd e

counts_by : {A : Type 0} (t : Task) (before after : ℕ) (stage next : Stage A) (rise : ℕ) → after ≡ before + rise → Counted t stage rise next
    → Counts (tally_at before t stage) (tally_at after t next)
counts_by t before after stage next rise e counted = record {
  rises = omega (arith, e);
  stays = counted.stays;
  most = omega (arith, e, counted.most);
  all = λ same. omega (arith, e, counted.all same);
}

-- what a turn does to the tally of its request and seat
pub turned_counts : {L A : Type 0} (t : Task) (before after : Seat L) (old : Core) (stage : Stage A) (new : Core) (next : Stage A)
    → Turned t before after old stage new next
    → Counts (tally_at (commits_with before) t stage) (tally_at (commits_with after) t next)
turned_counts t before after old stage new next (Rested same kept stays) =
    counts_by t _ _ stage next 0 (omega (arith, kept)) (counted_to t stage next 0 stage stays (counted_same t stage))
turned_counts t before after old stage new next (Moved act step rise moves founded) =
    counts_by t _ _ stage next (commits_in act) rise (counted_move t _ stage act next moves)
turned_counts t before after old stage new next (Folded between act full fold step rise moves founded) =
    counts_by t _ _ stage next (commits_in act) rise (counted_move t _ stage act next moves)
turned_counts t before after old stage new next (Strayed same kept strays barred) =
    counts_by t _ _ stage next 0 (omega (arith, kept)) (counted_stray t old stage next strays)

-- what is prepared leaves as many pages, or the request is refused
counted_listing : {A : Type 0} (t : Task) (purpose : Purpose) (next : Stage A) → IsListed t.range purpose next
    → Counted t (Listing purpose) 0 next
counted_listing t (Merge held) (Asking p pages) listed =
    record { stays = omega arith; most = omega (arith, ap (left_for t) listed.0); all = λ same. omega (arith, ap (left_for t) listed.0) }
counted_listing t (Answer page) (Asking p pages) listed =
    record { stays = omega arith; most = omega (arith, ap (left_for t) listed.0); all = λ same. omega (arith, ap (left_for t) listed.0) }
counted_listing t purpose next e = counted_to t _ next 0 _ e (counted_stopped t (Listing purpose) purpose NoMemory refl)

counted_filling : {A : Type 0} (t : Task) (bytes : List ℕ) (held : PageClaim) (fewer : Bool) (next : Stage A) → IsFilled t bytes held fewer next
    → Counted t (Filling held fewer) 0 next
counted_filling t bytes held fewer (Reserving h wish) filled =
    let same_page : h.page.0 ≡ held.page.0 = ap (λ (x : PageClaim). x.page.0) filled.0 in
    record { stays = omega arith; most = omega (arith, same_page); all = λ same. omega (arith, same_page) }
counted_filling t bytes held fewer next (inl e) =
    counted_to t _ next 0 _ e (record { stays = omega arith; most = omega arith; all = λ same. omega arith })
counted_filling t bytes held fewer next (inr e) =
    counted_to t _ next 0 _ (e.1) (record { stays = omega arith; most = omega arith; all = λ same. omega arith })

counted_merging : {A : Type 0} (t : Task) (bytes : List ℕ) (held : PageClaim) (given : List ℕ) (answers : Vec (Page × Vec ℕ A) A)
    (next : Stage A)
    → IsMerged t bytes held given next → Counted t (Sorting (Merge held) answers) 0 next
counted_merging t bytes held given answers (Reserving h (Data payload)) merged =
    let same_page : h.page.0 ≡ held.page.0 = ap (λ (x : PageClaim). x.page.0) merged.0 in
    record { stays = omega arith; most = omega (arith, same_page); all = λ same. omega (arith, same_page) }
counted_merging t bytes held given answers next (inl e) =
    counted_to t _ next 0 _ e (record { stays = omega arith; most = omega arith; all = λ same. omega arith })
counted_merging t bytes held given answers next (inr e) =
    counted_to t _ next 0 _ (e.1) (record { stays = omega arith; most = omega arith; all = λ same. omega arith })

counted_sorted : {A : Type 0} (t : Task) (bytes : List ℕ) (held : PageClaim) (given : List (ℕ × List ℕ)) (answers : Vec (Page × Vec ℕ A) A)
    (next : Stage A) → SortsPage t bytes held given next → Counted t (Sorting (Merge held) answers) 0 next
counted_sorted t bytes held [] answers next e =
    counted_to t _ next 0 _ e (record { stays = omega arith; most = omega arith; all = λ same. omega arith })
counted_sorted t bytes held (g ∷ rest) answers next merged = counted_merging t bytes held g.1 answers next merged

left_after : (A : Type 0) (t : Task) (r : Range) (page : ℕ) (answer : List ℕ) → left t (after_batch {A = A} r page answer) ≡ 0
left_after A t r page answer = grind (arith, nat_tests)

counted_answer : {A : Type 0} (t : Task) (page : ℕ) (given : List (ℕ × List ℕ)) (answers : Vec (Page × Vec ℕ A) A) (before : List ℕ)
    (next : Stage A) (after : List ℕ) → SortsAnswer t.range page given before next after → Counted t (Sorting (Answer page) answers) 0 next
counted_answer {A = A} t page given answers before next after (inl e) =
    counted_to t _ next 0 _ (e.1) (record {
      stays = omega arith;
      most = omega (arith, left_after A t t.range page after);
      all = λ same. omega (arith, left_after A t t.range page after);
    })
counted_answer t page given answers before next after (inr (inl e)) =
    counted_to t _ next 0 _ e (record { stays = omega arith; most = omega arith; all = λ same. omega arith })
counted_answer t page given answers before next after (inr (inr e)) =
    counted_to t _ next 0 _ (e.1) (record { stays = omega arith; most = omega arith; all = λ same. omega arith })

counted_prepare : {A : Type 0} (t : Task) (bytes : List ℕ) (stage : Stage A) (before : List ℕ) (next : Stage A) (after : List ℕ)
    → Prepares t bytes stage before next after → Counted t stage 0 next
counted_prepare t bytes (Listing purpose) before next after p = counted_listing t purpose next (p.0)
counted_prepare t bytes (Filling held fewer) before next after p = counted_filling t bytes held fewer next (p.0)
counted_prepare t bytes (Sorting (Merge held) answers) before next after p = counted_sorted t bytes held _ answers next (p.0)
counted_prepare t bytes (Sorting (Answer page) answers) before next after p = counted_answer t page _ answers before next after p
counted_prepare t bytes stage before next after p = counted_to t stage next 0 stage (p.0) (counted_same t stage)

pub prepared_counts : {A : Type 0} (commits : ℕ) (t : Task) (bytes : List ℕ) (stage : Stage A) (before : List ℕ) (next : Stage A)
    (after : List ℕ)
    → Prepares t bytes stage before next after → Counts (tally_at commits t stage) (tally_at commits t next)
prepared_counts commits t bytes stage before next after p =
    counts_by t commits commits stage next 0 (omega arith) (counted_prepare t bytes stage before next after p)

-- A request that has ended has no page left.
pub ended_left : {A : Type 0} (t : Task) (stage : Stage A) (fault : Option BlockFault) → ended stage ≡ Some fault
    → (left t stage ≡ 0) × (refusals stage ≡ refusals_by fault)
ended_left t (Ended f) fault e = (refl, ap refusals_by (same_Some f fault e))
ended_left t stage fault e = absurd (none-some fault e)

-- One after the other.
pub goes_further : {L A : Type 0} (a b c : Seat L) (x y z : OpView A) → GoesOn a x b y → GoesOn b y c z → GoesOn a x c z
goes_further a b c x y z one two = record {
  counts = counts_on _ _ _ one.counts two.counts;
  task = two.task ∙ one.task;
  number = two.number ∙ one.number;
}

-- a tally of a task that is the same
pub retasked : {A : Type 0} (old : Tally) (commits : ℕ) (t u : Task) (stage : Stage A) → u ≡ t → Counts old (tally_at commits t stage)
    → Counts old (tally_at commits u stage)
retasked old commits t u stage e counts = let P : Task → Type 0 = λ x. Counts old (tally_at commits x stage) in subst P (sym e) counts

pub turned_on : {L A : Type 0} (before after : Seat L) (op next : OpView A) (old new : Core)
    → Turned (task_in op) before after old (stage_of op) new (stage_of next) → task_in next ≡ task_in op
    → number_of after ≡ number_of before
    → GoesOn before op after next
turned_on before after op next old new turned task number = record {
  counts = retasked _ (commits_with after) (task_in op) (task_in next) (stage_of next) task
      (turned_counts (task_in op) before after old (stage_of op) new (stage_of next) turned);
  task = task;
  number = number;
}

pub prepared_on : {L A : Type 0} (seat : Seat L) (op next : OpView A) (bytes : List ℕ)
    → Prepares (task_in op) bytes (stage_of op) (answer_of op) (stage_of next) (answer_of next) → task_in next ≡ task_in op
    → GoesOn seat op seat next
prepared_on seat op next bytes prepared task = record {
  counts = retasked _ (commits_with seat) (task_in op) (task_in next) (stage_of next) task
      (prepared_counts (commits_with seat) (task_in op) bytes (stage_of op) (answer_of op) (stage_of next) (answer_of next) prepared);
  task = task;
  number = refl;
}

-- How a request was made, by its tally at the end.
pub made_whole : {L : Type 0} (before after : Seat L) (old new : Tally) (pages : ℕ) (accepted : Bool) → old.commits ≡ commits_with before
    → new.commits ≡ commits_with after → old.left ≡ pages → old.refused ≡ 0 → new.left ≡ 0 → (IsTrue accepted → new.refused ≡ 0)
    → Counts old new → number_of after ≡ number_of before → IsMade pages before accepted after
made_whole before after old new pages accepted begins ends lefts none no_left none_refused counts number = record {
  least = omega (arith, counts.rises);
  most = omega (arith, counts.most);
  all = λ is. omega (arith, counts.all (omega (arith, none_refused is)));
  number = number;
}

pub made_op : {L A : Type 0} (before after : Seat L) (op next : OpView A) (pages : ℕ) (end : Option BlockFault) (accepted : Bool)
    → ((commits : ℕ) → tally_of commits op ≡ record { commits = commits; left = pages; refused = 0 }) → GoesOn before op after next
    → ended (stage_of next) ≡ Some end → (IsTrue accepted → end ≡ None) → IsMade pages before accepted after
made_op before after op next pages end accepted begins goes ends well =
    let at_end = ended_left (task_in next) (stage_of next) end ends in
    made_whole before after (tally_of (commits_with before) op) (tally_of (commits_with after) next) pages accepted refl refl
    (ap (λ (t : Tally). t.left) (begins 0)) (ap (λ (t : Tally). t.refused) (begins 0)) (at_end.0)
    (λ is. at_end.1 ∙ ap refusals_by (well is)) goes.counts goes.number

pub made_new : {L A : Type 0} (before after : Seat L) (op next : OpView A) (request : Request) (page_bytes same : ℕ) (end : Option BlockFault)
    (accepted : Bool) → same ≡ page_bytes
    → ((commits : ℕ) → tally_of commits op ≡ record { commits = commits; left = pages_in (task_of same request); refused = 0 })
    → GoesOn before op after next → ended (stage_of next) ≡ Some end → (IsTrue accepted → end ≡ None)
    → IsMade (pages_in (task_of page_bytes request)) before accepted after
made_new before after op next request page_bytes same end accepted e begins goes ends well =
    let P : ℕ → Type 0 = λ n. IsMade (pages_in (task_of n request)) before accepted after in
    subst P e (made_op before after op next (pages_in (task_of same request)) end accepted begins goes ends well)
