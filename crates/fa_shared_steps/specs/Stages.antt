-- How a request goes on, by what the array answered.
use Rattle.std.specs.Prelude.{◌≡◌, ℕ, ◌+◌, ◌⊎◌, ◌==◌, true, false, nat_lt, if◌then◌else◌, List, map, Option, Some, None, Result, Ok, Err}
use Rattle.fa_machine.specs.Reading.{Admitted, Planned}
use Rattle.fa_machine.specs.declared.answers.Flush.{Flush}
use Rattle.fa_machine.specs.declared.answers.FlushState.{FlushState as StateOfFlush}
use Rattle.fa_machine.specs.declared.answers.FlushState.TheVariants.{Waiting, Synced, NoDie}
use Rattle.fa_machine.specs.declared.ids.ClaimId.{ClaimId}
use Rattle.fa_machine.specs.declared.refusals.AbandonRefused.{AbandonRefused}
use Rattle.fa_machine.specs.declared.refusals.AbandonRefused.TheVariants.{Pending as AbandonPending, Programmed}
use Rattle.fa_machine.specs.declared.refusals.AdmitRefused.{AdmitRefused}
use Rattle.fa_machine.specs.declared.refusals.AdmitRefused.TheVariants.{Lost as PageLost, CalendarFull, Spent as RoundsSpent}
use Rattle.fa_machine.specs.declared.refusals.AdmitRefused.TheVariants.{NoMemory as AdmitNoMemory}
use Rattle.fa_machine.specs.declared.refusals.ClaimRefused.{ClaimRefused}
use Rattle.fa_machine.specs.declared.refusals.ClaimRefused.TheVariants.{Claimed, NoMemory as ClaimNoMemory}
use Rattle.fa_machine.specs.declared.refusals.CommitRefused.{CommitRefused}
use Rattle.fa_machine.specs.declared.refusals.CommitRefused.TheVariants.{Pending as CommitPending, Failed}
use Rattle.fa_machine.specs.declared.refusals.FlushRefused.{FlushRefused}
use Rattle.fa_machine.specs.declared.refusals.FlushRefused.TheVariants.{Spent as FlushesSpent}
use Rattle.fa_machine.specs.declared.refusals.ReserveRefused.{ReserveRefused}
use Rattle.fa_machine.specs.declared.refusals.ReserveRefused.TheVariants.{NoRoom as ReserveNoRoom, NoDie as ReserveNoDie}
use Rattle.fa_machine.specs.declared.refusals.ReserveRefused.TheVariants.{Spent as NumbersSpent}
use Rattle.fa_machine.specs.declared.refusals.ReserveRefused.TheVariants.{NoMemory as ReserveNoMemory}
use Rattle.fa_shared_steps.specs.Ranges.{covers, first_page, past_page}
use Rattle.fa_shared_steps.specs.declared.request.Fill.{Fill}
use Rattle.fa_shared_steps.specs.declared.request.Task.{Task}
use Rattle.fa_shared_steps.specs.declared.stage.PageClaim.{PageClaim}
use Rattle.fa_shared_steps.specs.declared.stage.Purpose.{Purpose}
use Rattle.fa_shared_steps.specs.declared.stage.Purpose.TheVariants.{Answer, Merge}
use Rattle.fa_shared_steps.specs.declared.stage.Stage.{Stage}
use Rattle.fa_shared_steps.specs.declared.stage.Stage.TheVariants.{Listing, Reading, Sorting, Claiming, Filling, Reserving}
use Rattle.fa_shared_steps.specs.declared.stage.Stage.TheVariants.{Committing, Abandoning, Releasing, BeginningFlush, Flushing, Ended}
use Rattle.fa_shared_steps.specs.declared.stage.Wish.{Wish}
use Rattle.fa_shared_steps.specs.declared.stage.Wish.TheVariants.{Data, Fewer, Hole}
use Rattle.fa_types.specs.declared.blocks.BlockFault.{BlockFault}
use Rattle.fa_types.specs.declared.blocks.BlockFault.TheVariants.{Lost, NoRoom, NoMemory, Spent}
use Rattle.fa_types.specs.declared.numbers.Page.{Page}
use Rattle.fa_types.specs.declared.numbers.Seq.{Seq}

module _ {A : Type 0} where
  -- the request is refused: a page that is claimed is released first
  abbrev pub stopped : Purpose → BlockFault → Stage A
  stopped (Answer page) fault = Ended (Some fault)
  stopped (Merge held) fault = Releasing held (Some fault)

  -- behind the last page a flush is made, if there is to be one
  abbrev pub after_pages : Task → Stage A
  after_pages t = if t.flush then BeginningFlush else Ended None

  -- the page is written next, if it is one of the range
  abbrev pub from_page : Task → ℕ → Stage A
  from_page t page = if nat_lt page (past_page t.range) then Claiming (record { 0 = page }) else after_pages t

  -- how a request begins: a write with its first page, a read with the list of its first pages
  abbrev pub beginning_by : Task → Option Fill → Stage A
  beginning_by t (Some fill) = from_page t (first_page t.range)
  beginning_by t None = if t.flush then after_pages t else (if t.range.from == t.range.to then Ended None else Listing (Answer (first_page t.range)))

  abbrev pub beginning : Task → Stage A
  beginning t = beginning_by t t.fill

  -- a page that is written in part is read first
  abbrev pub opened : Task → PageClaim → Stage A
  opened t held = if covers t.range held.page.0 then Filling held false else Listing (Merge held)

  abbrev pub after_claim : Task → Page → Result ClaimId ClaimRefused → Stage A
  after_claim t page (Ok claim) = opened t (record { page = page; claim = claim })
  after_claim t page (Err Claimed) = Claiming page
  after_claim t page (Err ClaimNoMemory) = Ended (Some NoMemory)

  -- A page that is lost is waited for where a copy is under way, which may be one of it.
  abbrev pub AfterPlanned : Stage A → Stage A → (BlockFault → Stage A) → Result Planned AdmitRefused → Stage A → Type 0
  AfterPlanned stage planned refused (Ok plan) next = next ≡ planned
  AfterPlanned stage planned refused (Err (PageLost page)) next = (next ≡ refused Lost) ⊎ (next ≡ stage)
  AfterPlanned stage planned refused (Err CalendarFull) next = next ≡ stage
  AfterPlanned stage planned refused (Err RoundsSpent) next = next ≡ refused Spent
  AfterPlanned stage planned refused (Err AdmitNoMemory) next = next ≡ refused NoMemory

  abbrev pub AfterAdmit : Purpose → Stage A → Result Admitted AdmitRefused → Stage A → Type 0
  AfterAdmit purpose stage (Ok admitted) next = AfterPlanned stage (Reading purpose admitted.batch) (stopped purpose) (Ok admitted.planned) next
  AfterAdmit purpose stage (Err refused) next = AfterPlanned stage stage (stopped purpose) (Err refused) next

  abbrev pub IsSorting : Purpose → List (ℕ × List ℕ) → Stage A → Type 0
  IsSorting purpose answers (Sorting p given) = (p ≡ purpose) × (answers ≡ map (λ e. (e.0.0, e.1.items)) given.items)
  IsSorting purpose answers stage = ⊥

  -- with fewer copies, where there is no room for as many as are asked for
  abbrev pub with_fewer : PageClaim → Wish A → Stage A
  with_fewer held (Data payload) = Reserving held (Fewer payload)
  with_fewer held (Fewer payload) = Releasing held (Some NoRoom)
  with_fewer held Hole = Filling held true

  abbrev pub AfterReserve : PageClaim → Wish A → Result Seq ReserveRefused → Stage A → Type 0
  AfterReserve held wish (Ok seq) next = next ≡ Committing held wish
  AfterReserve held wish (Err ReserveNoRoom) next = (next ≡ with_fewer held wish) ⊎ (next ≡ Reserving held wish)
  AfterReserve held wish (Err ReserveNoDie) next = next ≡ Releasing held (Some Lost)
  AfterReserve held wish (Err NumbersSpent) next = next ≡ Releasing held (Some Spent)
  AfterReserve held wish (Err ReserveNoMemory) next = next ≡ Releasing held (Some NoMemory)

  abbrev pub after_commit : PageClaim → Wish A → Result Seq CommitRefused → Stage A
  after_commit held wish (Ok seq) = Releasing held None
  after_commit held wish (Err CommitPending) = Committing held wish
  after_commit held wish (Err Failed) = Abandoning held wish

  abbrev pub after_abandon : PageClaim → Wish A → Result (Unit {0}) AbandonRefused → Stage A
  after_abandon held wish (Ok done) = Reserving held wish
  after_abandon held wish (Err AbandonPending) = Abandoning held wish
  after_abandon held wish (Err Programmed) = Committing held wish

  abbrev pub after_release : Task → PageClaim → Option BlockFault → Stage A
  after_release t held None = from_page t (held.page.0 + 1)
  after_release t held (Some fault) = Ended (Some fault)

  abbrev pub after_begin : Result Flush FlushRefused → Stage A
  after_begin (Ok flush) = Flushing flush
  after_begin (Err FlushesSpent) = Ended (Some Spent)

  abbrev pub after_state : Flush → StateOfFlush → Stage A
  after_state flush Waiting = Flushing flush
  after_state flush Synced = Ended None
  after_state flush NoDie = Ended (Some Lost)
