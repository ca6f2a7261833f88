-- One turn of a request: at most one event of the array, and how far the request is behind it.
use Rattle.std.specs.Prelude.{◌≡◌, ℕ, ◌+◌, true, false, map, Some}
use Rattle.fa_machine.specs.Conditions.{batch_open, claim_open, history_full, is_reserved}
use Rattle.fa_machine.specs.State.{Core}
use Rattle.fa_machine.specs.Step.{Act, Step, is_page, Claim, Release, Reserve, ReserveHole, ReserveFewer, Commit, Abandon}
use Rattle.fa_machine.specs.Step.{Admit, Replan, EndBatch, FlushBegin, FlushState, Fold}
use Rattle.fa_shared_lock.specs.Accounts.{commits_in}
use Rattle.fa_shared_lock.specs.Founded.{IsBarred, IsFounded}
use Rattle.fa_shared_steps.specs.Stages.{AfterAdmit, AfterPlanned, AfterReserve, IsSorting, after_abandon, after_begin, after_claim}
use Rattle.fa_shared_steps.specs.Stages.{after_commit, after_release}
use Rattle.fa_shared_steps.specs.Stages.{after_state, stopped}
use Rattle.fa_shared_steps.specs.declared.request.Task.{Task}
use Rattle.fa_shared_steps.specs.declared.stage.Stage.{Stage}
use Rattle.fa_shared_steps.specs.declared.stage.Stage.TheVariants.{Asking, Reading, Leaving, Claiming, Reserving}
use Rattle.fa_shared_steps.specs.declared.stage.Stage.TheVariants.{Committing, Abandoning, Releasing, BeginningFlush, Flushing, Ended}
use Rattle.fa_shared_steps.specs.declared.stage.Wish.TheVariants.{Data, Fewer, Hole}
use Rattle.fa_shared_lock.specs.Seats.{commits_with, number_of}
use Rattle.fa_shared_lock.specs.declared.seat.Seat.{Seat}
use Rattle.fa_types.specs.declared.blocks.BlockFault.TheVariants.{Lost}

module _ {A : Type 0} where
  -- Which event a request makes at each stage, of its own page, claim, batch and flush alone, and how far it is then.
  abbrev pub Moves : Task → ℕ → Stage A → Act → Stage A → Type 0
  Moves t seat (Asking purpose pages) (Admit asked answer) next =
      (asked ≡ map (λ page. page.0) pages) × AfterAdmit purpose (Asking purpose pages) answer next
  Moves t seat (Reading purpose batch) (Replan b answer) next =
      (b ≡ batch.0) × AfterPlanned (Reading purpose batch) (Reading purpose batch) (Leaving purpose batch) answer next
  Moves t seat (Reading purpose batch) (EndBatch b answers) next = (b ≡ batch.0) × IsSorting purpose answers next
  Moves t seat (Leaving purpose batch fault) (EndBatch b answers) next = (b ≡ batch.0) × (next ≡ stopped purpose fault)
  Moves t seat (Claiming page) (Claim p answer) next = (p ≡ page.0) × (next ≡ after_claim t page answer)
  Moves t seat (Reserving held (Data payload)) (Reserve claim bytes answer) next =
      (claim ≡ held.claim.0) × (bytes ≡ payload) × AfterReserve held (Data payload) answer next
  Moves t seat (Reserving held (Fewer payload)) (ReserveFewer claim bytes answer) next =
      (claim ≡ held.claim.0) × (bytes ≡ payload) × AfterReserve held (Fewer payload) answer next
  Moves t seat (Reserving held Hole) (ReserveHole claim answer) next = (claim ≡ held.claim.0) × AfterReserve held Hole answer next
  Moves t seat (Committing held wish) (Commit claim by answer) next =
      (claim ≡ held.claim.0) × (by ≡ seat) × (next ≡ after_commit held wish answer)
  Moves t seat (Abandoning held wish) (Abandon claim answer) next = (claim ≡ held.claim.0) × (next ≡ after_abandon held wish answer)
  Moves t seat (Releasing held fault) (Release claim) next = (claim ≡ held.claim.0) × (next ≡ after_release t held fault)
  Moves t seat (Releasing held fault) (Abandon claim answer) next = (claim ≡ held.claim.0) × (next ≡ Releasing held fault)
  Moves t seat BeginningFlush (FlushBegin answer) next = next ≡ after_begin answer
  Moves t seat (Flushing flush) (FlushState f answer) next = (f ≡ flush) × (next ≡ after_state flush answer)
  Moves t seat stage act next = ⊥

  -- What a request comes to where a condition of its event does not hold, so that no event was made. Its batch is not open then, or its
  -- page is claimed by it no more; what it still has it lets go of first.
  abbrev pub Strays : Core → Stage A → Stage A → Type 0
  Strays old (Asking purpose pages) next = next ≡ stopped purpose Lost
  Strays old (Reading purpose batch) next = (batch_open old batch.0 ≡ false) × (next ≡ stopped purpose Lost)
  Strays old (Leaving purpose batch fault) next = (batch_open old batch.0 ≡ false) × (next ≡ stopped purpose fault)
  Strays old (Claiming page) next = (is_page old page.0 ≡ false) × (next ≡ Ended (Some Lost))
  Strays old (Reserving held wish) next = next ≡ Releasing held (Some Lost)
  Strays old (Committing held wish) next = (is_reserved old held.claim.0 ≡ false) × (next ≡ Releasing held (Some Lost))
  Strays old (Abandoning held wish) next = (is_reserved old held.claim.0 ≡ false) × (next ≡ Releasing held (Some Lost))
  Strays old (Releasing held fault) next = (claim_open old held.claim.0 ≡ false) × (next ≡ Ended (Some Lost))
  Strays old stage next = ⊥

module _ {L A : Type 0} where
  -- A turn with a seat: the request waits; or it makes its event; or it makes it after a Fold, where the history is full; or no event can
  -- be made. The seat's Commits rise by those of the event. The event is founded in the state that it meets, and where none can be made a
  -- condition of it does not hold.
  pub data Turned (t : Task) (before after : Seat L) (old : Core) (stage : Stage A) (new : Core) (next : Stage A) : Type 0 where
    Rested : new ≡ old → commits_with after ≡ commits_with before → next ≡ stage → Turned t before after old stage new next
    Moved : (act : Act) → Step old act new → commits_with after ≡ commits_with before + commits_in act
        → Moves t (number_of before) stage act next → IsFounded old stage act next → Turned t before after old stage new next
    Folded : (between : Core) (act : Act) → history_full old ≡ true → Step old Fold between → Step between act new
        → commits_with after ≡ commits_with before + commits_in act → Moves t (number_of before) stage act next
        → IsFounded between stage act next → Turned t before after old stage new next
    Strayed : new ≡ old → commits_with after ≡ commits_with before → Strays old stage next → IsBarred old stage
        → Turned t before after old stage new next
