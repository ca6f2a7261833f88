-- A request with a flush that ends without a fault has begun its flush among all that happens, and it was answered as synced.
use Rattle.fa_crash.proofs.Begun.{IsBegun, IsSynced, begun_now, begun_on, synced_between, synced_now}
use Rattle.fa_crash.specs.Among.{AskedAmong, IsBeforeFlush}
use Rattle.fa_machine.specs.Run.{Event, Happening, Run}
use Rattle.fa_machine.specs.Step.{Act, FlushState}
use Rattle.fa_machine.specs.World.{World}
use Rattle.fa_machine.specs.declared.answers.Flush.{Flush}
use Rattle.fa_machine.specs.declared.answers.FlushState.TheVariants.{Waiting}
use Rattle.fa_shared_lock.specs.Moves.{Moves}
use Rattle.fa_shared_steps.specs.Ranges.{first_page, past_page}
use Rattle.fa_shared_steps.specs.Stages.{after_pages, beginning, beginning_by, from_page}
use Rattle.fa_shared_steps.specs.declared.request.Fill.{Fill}
use Rattle.fa_shared_steps.specs.declared.request.Task.{Task}
use Rattle.fa_shared_steps.specs.declared.stage.Purpose.TheVariants.{Answer}
use Rattle.fa_shared_steps.specs.declared.stage.Stage.{Stage}
use Rattle.fa_shared_steps.specs.declared.stage.Stage.TheVariants.{Asking, BeginningFlush, Claiming, Ended, Flushing, Leaving, Listing, Reading}
use Rattle.fa_shared_steps.specs.declared.stage.Stage.TheVariants.{Sorting}
use Rattle.fa_solo_laws.proofs.FlushStages.{KnownAt, known_moved, known_ready, known_strayed, known_then, known_without_room}
use Rattle.fa_solo_laws.specs.Asked.{Asked, GivesUp, Makes, Meanwhile, Moment, Readies, Strayed, Turn, happenings_of}
use Rattle.fa_solo_laws.specs.Unwritten.{WritesNothing}
use Rattle.std.proofs.Common.{Bool, List, None, Option, Some, [], false, subst, sym, true, ℕ, ap, ◌++◌, ◌∷◌, ◌==◌, ◌≡◌}
use Rattle.std.proofs.lemmas.List.{append-nil, append_assoc}
use Rattle.std.specs.List.{AllByRecursion}
use Rattle.std.specs.Prelude.{if◌then◌else◌, nat_lt}

-- what becomes of a request among all else that happens is a run
pub among_run : (A : Type 0) (t : Task) (seat : ℕ) (bytes : List ℕ) (before : Moment A) (turns : List Turn) (after : Moment A)
    → AskedAmong t seat bytes before turns after → Run before.world (happenings_of turns) after.world
among_run A t seat bytes before [] after asked = ap (λ (m : Moment A). m.world) asked
among_run A t seat bytes before (Makes act ∷ turns) after asked =
    (asked.0.world, asked.1.0, among_run A t seat bytes asked.0 turns after asked.2)
among_run A t seat bytes before (Meanwhile happening ∷ turns) after asked =
    (asked.0.world, asked.1.0, among_run A t seat bytes asked.0 turns after asked.2)
among_run A t seat bytes before (Readies ∷ turns) after asked =
    subst (λ (w : World). Run w (happenings_of turns) after.world) asked.1.0 (among_run A t seat bytes asked.0 turns after asked.2)
among_run A t seat bytes before (Strayed ∷ turns) after asked =
    subst (λ (w : World). Run w (happenings_of turns) after.world) asked.1.0 (among_run A t seat bytes asked.0 turns after asked.2)
among_run A t seat bytes before (GivesUp fault ∷ turns) after asked =
    subst (λ (w : World). Run w (happenings_of turns) after.world) asked.1.0 (among_run A t seat bytes asked.0 turns after asked.2)

-- A request that is alone is one among all else that happens.
pub among_alone : (A : Type 0) (t : Task) (seat : ℕ) (bytes : List ℕ) (before : Moment A) (turns : List Turn) (after : Moment A)
    → Asked t seat bytes before turns after → AskedAmong t seat bytes before turns after
among_alone A t seat bytes before [] after asked = asked
among_alone A t seat bytes before (Meanwhile happening ∷ turns) after asked =
    (asked.0, (asked.1.0, asked.1.2, asked.1.3), among_alone A t seat bytes asked.0 turns after asked.2)
among_alone A t seat bytes before (Makes act ∷ turns) after asked =
    (asked.0, asked.1, among_alone A t seat bytes asked.0 turns after asked.2)
among_alone A t seat bytes before (Readies ∷ turns) after asked =
    (asked.0, asked.1, among_alone A t seat bytes asked.0 turns after asked.2)
among_alone A t seat bytes before (Strayed ∷ turns) after asked =
    (asked.0, asked.1, among_alone A t seat bytes asked.0 turns after asked.2)
among_alone A t seat bytes before (GivesUp fault ∷ turns) after asked =
    (asked.0, asked.1, among_alone A t seat bytes asked.0 turns after asked.2)

-- what else happens is one of these
abbrev pub OtherIs : (Happening → Type 0) → Turn → Type 0
OtherIs Q (Meanwhile happening) = Q happening
OtherIs Q turn = Unit {0}

pub others_any : (turns : List Turn) → AllByRecursion (OtherIs (λ happening. Unit {0})) turns
others_any [] = tt
others_any (Meanwhile happening ∷ turns) = (tt, others_any turns)
others_any (Makes act ∷ turns) = (tt, others_any turns)
others_any (Readies ∷ turns) = (tt, others_any turns)
others_any (Strayed ∷ turns) = (tt, others_any turns)
others_any (GivesUp fault ∷ turns) = (tt, others_any turns)

-- Where the request is alone nothing else is written.
others_silent : (A : Type 0) (t : Task) (seat : ℕ) (bytes : List ℕ) (before : Moment A) (turns : List Turn) (after : Moment A)
    → Asked t seat bytes before turns after → AllByRecursion (OtherIs WritesNothing) turns
others_silent A t seat bytes before [] after asked = tt
others_silent A t seat bytes before (Meanwhile happening ∷ turns) after asked =
    (asked.1.1.writes_nothing, others_silent A t seat bytes asked.0 turns after asked.2)
others_silent A t seat bytes before (Makes act ∷ turns) after asked = (tt, others_silent A t seat bytes asked.0 turns after asked.2)
others_silent A t seat bytes before (Readies ∷ turns) after asked = (tt, others_silent A t seat bytes asked.0 turns after asked.2)
others_silent A t seat bytes before (Strayed ∷ turns) after asked = (tt, others_silent A t seat bytes asked.0 turns after asked.2)
others_silent A t seat bytes before (GivesUp fault ∷ turns) after asked = (tt, others_silent A t seat bytes asked.0 turns after asked.2)

module _ (A : Type 0) where
  -- A request with a flush begins before its flush.
  module _ (t : Task) (flushes : t.flush ≡ true) where
    abbrev IsBefore : Stage A → Type 0
    IsBefore stage = IsBeforeFlush stage

    before_behind : IsBefore (after_pages t)
    before_behind = subst (λ b. IsBefore (if b then BeginningFlush else Ended None)) (sym flushes) tt

    before_on : (page : ℕ) → IsBefore (from_page t page)
    before_on page = by_past (nat_lt page (past_page t.range))
      where
        by_past : (b : Bool) → IsBefore (if b then Claiming (record { 0 = page }) else after_pages t)
        by_past true = tt
        by_past false = before_behind

    before_by : (fill : Option Fill) → IsBefore (beginning_by t fill)
    before_by (Some fill) = before_on (first_page t.range)
    before_by None =
        subst
        (λ b. IsBefore (if b then after_pages t else (if t.range.from == t.range.to then Ended None else Listing (Answer (first_page t.range)))))
        (sym flushes) before_behind

    pub before_first : IsBefore (beginning t)
    before_first = before_by t.fill

  -- At such a stage nothing is known yet.
  known_before : (F : Flush → Type 0) (E : Type 0) (stage : Stage A) → IsBeforeFlush stage → KnownAt F E stage
  known_before F E (Flushing flush) before = absurd before
  known_before F E (Ended fault) before = absurd before
  known_before F E (Listing (Answer page)) before = before
  known_before F E (Asking (Answer page) pages) before = before
  known_before F E (Reading (Answer page) batch) before = before
  known_before F E (Leaving (Answer page) batch fault) before = before
  known_before F E (Sorting (Answer page) answers) before = before
  known_before F E stage before = tt

  module _ (Q : Happening → Type 0) (waits : (flush : Flush) → Q (Event (FlushState flush Waiting))) (t : Task) (seat : ℕ) (bytes : List ℕ)
      (flushes : t.flush ≡ true) where
    abbrev Begun : List Happening → Flush → Type 0
    Begun so_far flush = IsBegun Q flush so_far

    abbrev FlushedAt : List Happening → Stage A → Type 0
    FlushedAt so_far stage = KnownAt (Begun so_far) (IsSynced Q so_far) stage

    -- the request makes its event
    own : (so_far : List Happening) (stage : Stage A) (act : Act) (next : Stage A) → FlushedAt so_far stage → Moves t seat stage act next
        → FlushedAt (so_far ++ Event act ∷ []) next
    own so_far stage act next known moves =
        let done = so_far ++ Event act ∷ [] in
        known_moved A (Begun so_far) (Begun done) (IsSynced Q so_far) (IsSynced Q done) t flushes seat stage act next
        (λ flush is. begun_now Q flush so_far act is)
        (λ flush is begun. begun_on Q flush so_far (Event act) begun (subst (λ (a : Act). Q (Event a)) (sym is) (waits flush)))
        (λ flush is begun. synced_now Q flush so_far act is begun)
        known moves

    -- something else happens
    other : (so_far : List Happening) (stage : Stage A) (happening : Happening) → FlushedAt so_far stage → Q happening
        → FlushedAt (so_far ++ happening ∷ []) stage
    other so_far stage happening known is =
        let done = so_far ++ happening ∷ [] in
        known_then A (Begun so_far) (Begun done) (IsSynced Q so_far) (IsSynced Q done) stage
        (λ flush begun. begun_on Q flush so_far happening begun is)
        (λ ended synced. synced_between Q [] so_far (happening ∷ []) synced (is, tt)) known

    flushed_on : (so_far : List Happening) (before : Moment A) (turns : List Turn) (after : Moment A) → FlushedAt so_far before.stage
        → AskedAmong t seat bytes before turns after → AllByRecursion (OtherIs Q) turns
        → FlushedAt (so_far ++ happenings_of turns) after.stage
    flushed_on so_far before [] after known asked others =
        subst (λ (m : Moment A). FlushedAt (so_far ++ []) m.stage) (sym asked)
        (subst (λ done. FlushedAt done before.stage) (sym (append-nil so_far)) known)
    flushed_on so_far before (Makes act ∷ turns) after known asked others =
        subst (λ done. FlushedAt done after.stage) (append_assoc so_far (Event act ∷ []) (happenings_of turns))
        (flushed_on (so_far ++ Event act ∷ []) asked.0 turns after
        (own so_far before.stage act asked.0.stage known asked.1.1) asked.2 others.1)
    flushed_on so_far before (Meanwhile happening ∷ turns) after known asked others =
        subst (λ done. FlushedAt done after.stage) (append_assoc so_far (happening ∷ []) (happenings_of turns))
        (flushed_on (so_far ++ happening ∷ []) asked.0 turns after
        (subst (FlushedAt (so_far ++ happening ∷ [])) (sym asked.1.1) (other so_far before.stage happening known others.0)) asked.2 others.1)
    flushed_on so_far before (Readies ∷ turns) after known asked others =
        flushed_on so_far asked.0 turns after
        (known_ready A (Begun so_far) (IsSynced Q so_far) t bytes before.answer asked.0.answer before.stage asked.0.stage known asked.1.1)
        asked.2 others.1
    flushed_on so_far before (Strayed ∷ turns) after known asked others =
        flushed_on so_far asked.0 turns after
        (known_strayed A (Begun so_far) (IsSynced Q so_far) before.world.core before.stage asked.0.stage known asked.1.2) asked.2 others.1
    flushed_on so_far before (GivesUp fault ∷ turns) after known asked others =
        flushed_on so_far asked.0 turns after
        (subst (FlushedAt so_far) (sym asked.1.2) (known_without_room A (Begun so_far) (IsSynced Q so_far) fault before.stage known))
        asked.2 others.1

    pub has_flushed : (before : Moment A) (turns : List Turn) (after : Moment A) → IsBeforeFlush before.stage
        → AskedAmong t seat bytes before turns after → AllByRecursion (OtherIs Q) turns → after.stage ≡ Ended None
        → IsSynced Q (happenings_of turns)
    has_flushed before turns after early asked others ended =
        subst (FlushedAt (happenings_of turns)) ended
        (flushed_on [] before turns after (known_before (Begun []) (IsSynced Q []) before.stage early) asked others)

  -- The same of a request that is alone: from the beginning of its flush on nothing is written.
  pub alone_flushed : (t : Task) (seat : ℕ) (bytes : List ℕ) → t.flush ≡ true → (before : Moment A) (turns : List Turn) (after : Moment A)
      → IsBeforeFlush before.stage → Asked t seat bytes before turns after → after.stage ≡ Ended None
      → IsSynced WritesNothing (happenings_of turns)
  alone_flushed t seat bytes flushes before turns after early asked ended =
      has_flushed WritesNothing (λ flush. tt) t seat bytes flushes before turns after early (among_alone A t seat bytes before turns after asked)
      (others_silent A t seat bytes before turns after asked) ended
