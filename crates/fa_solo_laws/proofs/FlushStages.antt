-- What is known at each stage of a request with a flush, which reads for no answer: one thing of the flush that is waited for, and another once the
-- request has ended without a fault.
use Rattle.fa_machine.specs.State.{Core}
use Rattle.fa_machine.specs.Step.{Abandon, Act, Admit, Claim, Commit, EndBatch, FlushBegin, FlushState, Release, Replan, Reserve}
use Rattle.fa_machine.specs.Step.{ReserveFewer, ReserveHole}
use Rattle.fa_machine.specs.declared.answers.Flush.{Flush}
use Rattle.fa_machine.specs.declared.answers.FlushState.TheVariants.{NoDie as FlushNoDie, Synced, Waiting}
use Rattle.fa_machine.specs.declared.refusals.AbandonRefused.TheVariants.{Pending as AbandonPending, Programmed}
use Rattle.fa_machine.specs.declared.refusals.AdmitRefused.TheVariants.{CalendarFull, Lost as PageLost, NoMemory as AdmitNoMemory}
use Rattle.fa_machine.specs.declared.refusals.AdmitRefused.TheVariants.{Spent as RoundsSpent}
use Rattle.fa_machine.specs.declared.refusals.ClaimRefused.TheVariants.{Claimed, NoMemory as ClaimNoMemory}
use Rattle.fa_machine.specs.declared.refusals.CommitRefused.TheVariants.{Failed, Pending as CommitPending}
use Rattle.fa_machine.specs.declared.refusals.FlushRefused.TheVariants.{Spent as FlushesSpent}
use Rattle.fa_machine.specs.declared.refusals.ReserveRefused.{ReserveRefused}
use Rattle.fa_machine.specs.declared.refusals.ReserveRefused.TheVariants.{NoDie as ReserveNoDie, NoMemory as ReserveNoMemory}
use Rattle.fa_machine.specs.declared.refusals.ReserveRefused.TheVariants.{NoRoom as ReserveNoRoom}
use Rattle.fa_machine.specs.declared.refusals.ReserveRefused.TheVariants.{Spent as NumbersSpent}
use Rattle.fa_shared_lock.specs.Moves.{Moves, Strays}
use Rattle.fa_shared_steps.specs.Stages.{AfterReserve, after_pages, from_page, opened, with_fewer}
use Rattle.fa_shared_request.specs.Ops.{Prepares}
use Rattle.fa_shared_steps.specs.Stages.{beginning, beginning_by}
use Rattle.fa_shared_steps.specs.Prepared.{IsMerged, SortsPage}
use Rattle.fa_shared_steps.specs.Ranges.{covers, first_page, past_page}
use Rattle.fa_shared_request.specs.Waiting.{without_room}
use Rattle.fa_shared_steps.specs.declared.request.Fill.{Fill}
use Rattle.fa_shared_steps.specs.declared.request.Task.{Task}
use Rattle.fa_shared_steps.specs.declared.stage.PageClaim.{PageClaim}
use Rattle.fa_shared_steps.specs.declared.stage.Purpose.TheVariants.{Answer, Merge}
use Rattle.fa_shared_steps.specs.declared.stage.Stage.{Stage}
use Rattle.fa_shared_steps.specs.declared.stage.Stage.TheVariants.{Abandoning, Asking, BeginningFlush, Claiming, Committing, Ended, Filling}
use Rattle.fa_shared_steps.specs.declared.stage.Stage.TheVariants.{Flushing, Leaving}
use Rattle.fa_shared_steps.specs.declared.stage.Stage.TheVariants.{Listing, Reading, Releasing, Reserving, Sorting}
use Rattle.fa_shared_steps.specs.declared.stage.Wish.{Wish}
use Rattle.fa_shared_steps.specs.declared.stage.Wish.TheVariants.{Data, Fewer, Hole}
use Rattle.fa_types.specs.declared.blocks.BlockFault.{BlockFault}
use Rattle.fa_types.specs.declared.numbers.Seq.{Seq}
use Rattle.std.proofs.Common.{Bool, List, None, Option, Some, [], ap, false, inl, inr, refl, subst, sym, true, ℕ, ◌+◌, ◌==◌, ◌∷◌, ◌≡◌}
use Rattle.std.specs.Prelude.{Err, Ok, Result, if◌then◌else◌, nat_lt}

module _ {A : Type 0} (F : Flush → Type 0) (E : Type 0) where
  abbrev pub KnownAt : Stage A → Type 0
  KnownAt (Listing (Answer page)) = ⊥
  KnownAt (Asking (Answer page) pages) = ⊥
  KnownAt (Reading (Answer page) batch) = ⊥
  KnownAt (Leaving (Answer page) batch fault) = ⊥
  KnownAt (Sorting (Answer page) answers) = ⊥
  KnownAt (Flushing flush) = F flush
  KnownAt (Ended None) = E
  KnownAt stage = Unit {0}

module _ (A : Type 0) where
  -- the same stage, of which another thing is known then
  pub known_then : (F G : Flush → Type 0) (E H : Type 0) (stage : Stage A) → ((flush : Flush) → F flush → G flush)
      → (stage ≡ Ended None → E → H) → KnownAt F E stage → KnownAt G H stage
  known_then F G E H (Flushing flush) waits ends k = waits flush k
  known_then F G E H (Ended None) waits ends k = ends refl k
  known_then F G E H (Listing (Answer page)) waits ends k = k
  known_then F G E H (Asking (Answer page) pages) waits ends k = k
  known_then F G E H (Reading (Answer page) batch) waits ends k = k
  known_then F G E H (Leaving (Answer page) batch fault) waits ends k = k
  known_then F G E H (Sorting (Answer page) answers) waits ends k = k
  known_then F G E H stage waits ends k = tt

  module _ (F : Flush → Type 0) (E : Type 0) where
    abbrev At : Stage A → Type 0
    At stage = KnownAt F E stage

    pub known_without_room : (fault : BlockFault) (stage : Stage A) → At stage → At (without_room fault stage)
    known_without_room fault (Reserving held wish) k = tt
    known_without_room fault stage k = k

    -- the request makes no event
    pub known_strayed : (core : Core) (stage next : Stage A) → At stage → Strays core stage next → At next
    known_strayed core (Asking (Merge held) pages) next k strays = subst At (sym strays) tt
    known_strayed core (Reading (Merge held) batch) next k strays = subst At (sym strays.1) tt
    known_strayed core (Leaving (Merge held) batch fault) next k strays = subst At (sym strays.1) tt
    known_strayed core (Claiming page) next k strays = subst At (sym strays.1) tt
    known_strayed core (Reserving held wish) next k strays = subst At (sym strays) tt
    known_strayed core (Committing held wish) next k strays = subst At (sym strays.1) tt
    known_strayed core (Abandoning held wish) next k strays = subst At (sym strays.1) tt
    known_strayed core (Releasing held fault) next k strays = subst At (sym strays.1) tt
    known_strayed core (Asking (Answer page) pages) next k strays = absurd k
    known_strayed core (Reading (Answer page) batch) next k strays = absurd k
    known_strayed core (Leaving (Answer page) batch fault) next k strays = absurd k
    known_strayed core stage next k strays = absurd strays

    -- something is prepared
    merged : (t : Task) (bytes : List ℕ) (held : PageClaim) (given : List ℕ) (next : Stage A) → IsMerged t bytes held given next → At next
    merged t bytes held given (Reserving h (Data payload)) made = tt
    merged t bytes held given next (inl none) = subst At (sym none) tt
    merged t bytes held given next (inr short) = subst At (sym short.1) tt

    sorts : (t : Task) (bytes : List ℕ) (held : PageClaim) (given : List (ℕ × List ℕ)) (next : Stage A) → SortsPage t bytes held given next → At next
    sorts t bytes held [] next made = subst At (sym made) tt
    sorts t bytes held (e ∷ rest) next made = merged t bytes held e.1 next made

    pub known_ready : (t : Task) (bytes answer after : List ℕ) (stage next : Stage A) → At stage → Prepares t bytes stage answer next after → At next
    known_ready t bytes answer after (Listing (Merge held)) (Asking (Merge other) pages) k made = tt
    known_ready t bytes answer after (Listing (Merge held)) (Asking (Answer page) pages) k made =
        let other : Answer page ≡ Merge held = made.0.0 in cc
    known_ready t bytes answer after (Listing (Merge held)) next k made = subst At (sym made.0) tt
    known_ready t bytes answer after (Filling held less) (Reserving h wish) k made = tt
    known_ready t bytes answer after (Filling held less) next k made =
        elim (made.0) [ inl none ↦ subst At (sym none) tt | inr short ↦ subst At (sym short.1) tt ]
    known_ready t bytes answer after (Sorting (Merge held) answers) next k made = sorts t bytes held _ next made.0
    known_ready t bytes answer after (Listing (Answer page)) next k made = absurd k
    known_ready t bytes answer after (Sorting (Answer page) answers) next k made = absurd k
    known_ready t bytes answer after stage next k made = subst At (sym made.0) k

    module _ (t : Task) (flushes : t.flush ≡ true) where
      pages_behind : At (after_pages t)
      pages_behind = subst (λ b. At (if b then BeginningFlush else Ended None)) (sym flushes) tt

      pages_on : (page : ℕ) → At (from_page t page)
      pages_on page = by_past (nat_lt page (past_page t.range))
        where
          by_past : (b : Bool) → At (if b then Claiming (record { 0 = page }) else after_pages t)
          by_past true = tt
          by_past false = pages_behind

      -- as it begins
      begun_by : (fill : Option Fill) → At (beginning_by t fill)
      begun_by (Some fill) = pages_on (first_page t.range)
      begun_by None =
          subst (λ b. At (if b then after_pages t else (if t.range.from == t.range.to then Ended None else Listing (Answer (first_page t.range)))))
          (sym flushes) pages_behind

      pub known_first : At (beginning t)
      known_first = begun_by t.fill

      opens_on : (held : PageClaim) → At (opened t held)
      opens_on held = by_covers (covers t.range held.page.0)
        where
          by_covers : (b : Bool) → At (if b then Filling held false else Listing (Merge held))
          by_covers true = tt
          by_covers false = tt

      reserves_on : (held : PageClaim) (wish : Wish A) (answer : Result Seq ReserveRefused) (next : Stage A) → At (with_fewer held wish)
          → AfterReserve held wish answer next → At next
      reserves_on held wish (Ok seq) next fewer m = subst At (sym m) tt
      reserves_on held wish (Err ReserveNoRoom) next fewer (inl less) = subst At (sym less) fewer
      reserves_on held wish (Err ReserveNoRoom) next fewer (inr stays) = subst At (sym stays) tt
      reserves_on held wish (Err ReserveNoDie) next fewer m = subst At (sym m) tt
      reserves_on held wish (Err NumbersSpent) next fewer m = subst At (sym m) tt
      reserves_on held wish (Err ReserveNoMemory) next fewer m = subst At (sym m) tt

  -- The request makes its event: what is known then of a flush that was begun, that is waited for still, and that is synced.
  module _ (F G : Flush → Type 0) (E H : Type 0) (t : Task) (flushes : t.flush ≡ true) (seat : ℕ) where
    abbrev Then : Stage A → Type 0
    Then stage = KnownAt G H stage

    pub known_moved : (stage : Stage A) (act : Act) (next : Stage A) → ((flush : Flush) → act ≡ FlushBegin (Ok flush) → G flush)
        → ((flush : Flush) → act ≡ FlushState flush Waiting → F flush → G flush)
        → ((flush : Flush) → act ≡ FlushState flush Synced → F flush → H) → KnownAt F E stage → Moves t seat stage act next → Then next
    known_moved (Claiming page) (Claim p (Ok id)) next begins waits syncs k m =
        subst Then (sym m.1) (opens_on G H t flushes (record { page = page; claim = id }))
    known_moved (Claiming page) (Claim p (Err Claimed)) next begins waits syncs k m = subst Then (sym m.1) tt
    known_moved (Claiming page) (Claim p (Err ClaimNoMemory)) next begins waits syncs k m = subst Then (sym m.1) tt
    known_moved (Asking (Merge held) pages) (Admit asked (Ok made)) next begins waits syncs k m = subst Then (sym m.1) tt
    known_moved (Asking (Merge held) pages) (Admit asked (Err (PageLost page))) next begins waits syncs k m =
        elim (m.1) [ inl stops ↦ subst Then (sym stops) tt | inr stays ↦ subst Then (sym stays) tt ]
    known_moved (Asking (Merge held) pages) (Admit asked (Err CalendarFull)) next begins waits syncs k m = subst Then (sym m.1) tt
    known_moved (Asking (Merge held) pages) (Admit asked (Err RoundsSpent)) next begins waits syncs k m = subst Then (sym m.1) tt
    known_moved (Asking (Merge held) pages) (Admit asked (Err AdmitNoMemory)) next begins waits syncs k m = subst Then (sym m.1) tt
    known_moved (Reading (Merge held) batch) (Replan b (Ok planned)) next begins waits syncs k m = subst Then (sym m.1) tt
    known_moved (Reading (Merge held) batch) (Replan b (Err (PageLost page))) next begins waits syncs k m =
        elim (m.1) [ inl stops ↦ subst Then (sym stops) tt | inr stays ↦ subst Then (sym stays) tt ]
    known_moved (Reading (Merge held) batch) (Replan b (Err CalendarFull)) next begins waits syncs k m = subst Then (sym m.1) tt
    known_moved (Reading (Merge held) batch) (Replan b (Err RoundsSpent)) next begins waits syncs k m = subst Then (sym m.1) tt
    known_moved (Reading (Merge held) batch) (Replan b (Err AdmitNoMemory)) next begins waits syncs k m = subst Then (sym m.1) tt
    known_moved (Reading (Merge held) batch) (EndBatch b answers) (Sorting (Merge other) given) begins waits syncs k m = tt
    known_moved (Reading (Merge held) batch) (EndBatch b answers) (Sorting (Answer page) given) begins waits syncs k m =
        let other : Answer page ≡ Merge held = m.1.0 in cc
    known_moved (Reading (Merge held) batch) (EndBatch b answers) next begins waits syncs k m = absurd m.1
    known_moved (Leaving (Merge held) batch fault) (EndBatch b answers) next begins waits syncs k m = subst Then (sym m.1) tt
    known_moved (Reserving held (Data payload)) (Reserve claim b answer) next begins waits syncs k m =
        reserves_on G H t flushes held (Data payload) answer next tt m.2
    known_moved (Reserving held (Fewer payload)) (ReserveFewer claim b answer) next begins waits syncs k m =
        reserves_on G H t flushes held (Fewer payload) answer next tt m.2
    known_moved (Reserving held Hole) (ReserveHole claim answer) next begins waits syncs k m =
        reserves_on G H t flushes held Hole answer next tt m.1
    known_moved (Reserving held (Data payload)) act next begins waits syncs k m = absurd m
    known_moved (Reserving held (Fewer payload)) act next begins waits syncs k m = absurd m
    known_moved (Reserving held Hole) act next begins waits syncs k m = absurd m
    known_moved (Committing held wish) (Commit claim by (Ok given)) next begins waits syncs k m = subst Then (sym m.2) tt
    known_moved (Committing held wish) (Commit claim by (Err CommitPending)) next begins waits syncs k m = subst Then (sym m.2) tt
    known_moved (Committing held wish) (Commit claim by (Err Failed)) next begins waits syncs k m = subst Then (sym m.2) tt
    known_moved (Abandoning held wish) (Abandon claim (Ok made)) next begins waits syncs k m = subst Then (sym m.1) tt
    known_moved (Abandoning held wish) (Abandon claim (Err AbandonPending)) next begins waits syncs k m = subst Then (sym m.1) tt
    known_moved (Abandoning held wish) (Abandon claim (Err Programmed)) next begins waits syncs k m = subst Then (sym m.1) tt
    known_moved (Releasing held None) (Release claim) next begins waits syncs k m =
        subst Then (sym m.1) (pages_on G H t flushes (held.page.0 + 1))
    known_moved (Releasing held (Some fault)) (Release claim) next begins waits syncs k m = subst Then (sym m.1) tt
    known_moved (Releasing held fault) (Abandon claim answer) next begins waits syncs k m = subst Then (sym m.1) tt
    known_moved BeginningFlush (FlushBegin (Ok flush)) next begins waits syncs k m = subst Then (sym m) (begins flush refl)
    known_moved BeginningFlush (FlushBegin (Err FlushesSpent)) next begins waits syncs k m = subst Then (sym m) tt
    known_moved (Flushing flush) (FlushState b Waiting) next begins waits syncs k m =
        subst Then (sym m.1) (waits flush (ap (λ (f : Flush). FlushState f Waiting) m.0) k)
    known_moved (Flushing flush) (FlushState b Synced) next begins waits syncs k m =
        subst Then (sym m.1) (syncs flush (ap (λ (f : Flush). FlushState f Synced) m.0) k)
    known_moved (Flushing flush) (FlushState b FlushNoDie) next begins waits syncs k m = subst Then (sym m.1) tt
    known_moved (Asking (Answer page) pages) act next begins waits syncs k m = absurd k
    known_moved (Reading (Answer page) batch) act next begins waits syncs k m = absurd k
    known_moved (Leaving (Answer page) batch fault) act next begins waits syncs k m = absurd k
    known_moved stage act next begins waits syncs k m = absurd m
