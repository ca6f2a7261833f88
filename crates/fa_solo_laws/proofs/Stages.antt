-- How far a read is over an array at rest, and that its turns keep that.
use Rattle.fa_machine.specs.Reading.{Admitted, results}
use Rattle.fa_machine.specs.State.{Core, MapState}
use Rattle.fa_machine.specs.Step.{Act, Admit, EndBatch, Fold, Replan, Step}
use Rattle.fa_machine.specs.declared.refusals.AdmitRefused.{AdmitRefused}
use Rattle.fa_machine.specs.declared.refusals.AdmitRefused.TheVariants.{Lost as PageLost, CalendarFull, Spent as RoundsSpent}
use Rattle.fa_machine.specs.declared.refusals.AdmitRefused.TheVariants.{NoMemory as AdmitNoMemory}
use Rattle.fa_shared_lock.specs.Founded.{IsFounded}
use Rattle.fa_shared_lock.specs.Moves.{Folded, Moved, Moves, Rested, Strayed, Strays, Turned}
use Rattle.fa_shared_steps.specs.Stages.{AfterPlanned, IsSorting, stopped}
use Rattle.fa_shared_request.specs.Ops.{Prepares}
use Rattle.fa_shared_steps.specs.Prepared.{IsListed, SortsAnswer, after_batch, pages_between, until}
use Rattle.fa_shared_steps.specs.Ranges.{first_page, past_page}
use Rattle.fa_shared_steps.specs.declared.range.Range.{Range}
use Rattle.fa_shared_steps.specs.declared.request.Task.{Task}
use Rattle.fa_shared_steps.specs.declared.stage.Purpose.{Purpose}
use Rattle.fa_shared_steps.specs.declared.stage.Purpose.TheVariants.{Answer, Merge}
use Rattle.fa_shared_steps.specs.declared.stage.Stage.{Stage}
use Rattle.fa_shared_steps.specs.declared.stage.Stage.TheVariants.{Listing, Asking, Reading, Sorting, Ended}
use Rattle.fa_solo_laws.proofs.Admitting.{admit_read}
use Rattle.fa_solo_laws.proofs.ClosedRounds.{IsQuiet, Keeps, keeps_both, quiet_fold}
use Rattle.fa_solo_laws.proofs.Ending.{end_read, never_torn}
use Rattle.fa_solo_laws.proofs.Epochs.{From, from_step}
use Rattle.fa_solo_laws.proofs.Waiting.{IsRead, read_fold}
use Rattle.fa_solo_laws.specs.Rest.{pages_of}
use Rattle.fa_shared_lock.specs.Seats.{number_of}
use Rattle.fa_shared_lock.specs.declared.seat.Seat.{Seat}
use Rattle.fa_types.specs.declared.blocks.BlockFault.TheVariants.{Lost}
use Rattle.fa_types.specs.declared.numbers.Page.{Page}
use Rattle.std.proofs.Common.{Bool, List, None, Some, [], ap, arith, false, inl, inr, length, map, refl, subst, sym, true, ℕ, ◌+◌, ◌-◌}
use Rattle.std.proofs.Common.{◌==◌, ◌∙◌, ◌∷◌, ◌≡◌, ◌≤◌}
use Rattle.std.proofs.lemmas.Bool.{false≢true, le-ltb}
use Rattle.std.specs.Prelude.{Err, Ok, if◌then◌else◌, is_some, nat_lt}

numbers_of : (xs : List ℕ) → map (λ (page : Page). page.0) (map
    (λ (number : ℕ). let numbered : Page = record { 0 = number } in numbered) xs) ≡ xs
numbers_of [] = refl
numbers_of (x ∷ xs) = ap (λ ys. x ∷ ys) (numbers_of xs)

module _ (m : MapState) (copies : ℕ) (first : Core) where
  -- Nothing was admitted yet.
  pub record IsBefore (core : Core) : Type 0 where
    pub quiet : IsQuiet m copies core
    pub keeps : Keeps first core

  pub before_still : (old new : Core) → IsBefore old → IsQuiet m copies new × Keeps old new → IsBefore new
  before_still old new before kept = record { quiet = kept.0; keeps = keeps_both first old new before.keeps kept.1 }

  -- A batch of these pages that is admitted then is planned before a round that is in time.
  abbrev pub ArePlannedInTime : (ℕ → Type 0) → List ℕ → Type 0
  ArePlannedInTime in_time pages =
      (old new : Core) (admitted : Admitted) → IsBefore old → Step old (Admit pages (Ok admitted)) new
      → in_time (old.calendar.round + admitted.planned.rounds)

module _ (m : MapState) (copies : ℕ) (in_time : ℕ → Type 0) where
  -- Nothing is under way any more, and no round has begun behind one that is in time.
  pub record IsBehind (core : Core) : Type 0 where
    pub quiet : IsQuiet m copies core
    pub until : ℕ
    pub is_in_time : in_time until
    pub round : core.calendar.round ≤ until

  pub behind_still : (old new : Core) → IsBehind old → IsQuiet m copies new × Keeps old new → IsBehind new
  behind_still old new behind kept = record {
    quiet = kept.0;
    until = behind.until;
    is_in_time = behind.is_in_time;
    round = let same = kept.1.round in let low = behind.round in omega (arith, same, low);
  }

  -- The batch is being read.
  pub record IsAmidst (batch : ℕ) (core : Core) : Type 0 where
    pub read : IsRead m copies batch in_time core

  module _ (first : Core) (A : Type 0) (r : Range) where
    -- What is known of the array at each stage of a read.
    abbrev pub At : Core → Stage A → Type 0
    At core (Listing (Answer page)) = IsBefore m copies first core × (page ≡ first_page r)
    At core (Asking (Answer page) pages) =
        IsBefore m copies first core × (page ≡ past_page r) × (map (λ page. page.0) pages ≡ pages_of r)
    At core (Reading (Answer page) batch) = IsAmidst batch.0 core × (page ≡ past_page r)
    At core (Sorting (Answer page) given) = IsBehind core × (page ≡ past_page r)
    At core (Ended fault) = IsBehind core
    At core stage = ⊥

    module _ (now : in_time first.calendar.round) (planned : ArePlannedInTime m copies first in_time (pages_of r))
        (short : past_page r ≤ first_page r + 1024) where
      pub ends_early : (core : Core) → IsBefore m copies first core → IsBehind core
      ends_early core before = record {
        quiet = before.quiet;
        until = first.calendar.round;
        is_in_time = now;
        round = let same = before.keeps.round in omega (arith, same);
      }

      admitted_in_time : (old new : Core) (asked : List ℕ) (admitted : Admitted) → IsBefore m copies first old → asked ≡ pages_of r
          → Step old (Admit asked (Ok admitted)) new → IsAmidst admitted.batch.0 new
      admitted_in_time old new asked admitted before is step =
          let step_of : Step old (Admit (pages_of r) (Ok admitted)) new =
          subst (λ (pages : List ℕ). Step old (Admit pages (Ok admitted)) new) is step in
          record {
            read = admit_read m copies old new (pages_of r) admitted in_time before.quiet step_of (planned old new admitted before step_of);
          }

      refused_at : (old : Core) (stage next : Stage A) (refused : AdmitRefused) → At old stage → IsBefore m copies first old
          → AfterPlanned stage stage (stopped (Answer (past_page r))) (Err refused) next → At old next
      refused_at old stage next (PageLost page) at before after = elim after [
        | inl lost ↦ subst (At old) (sym lost) (ends_early old before)
        | inr waits ↦ subst (At old) (sym waits) at
      ]
      refused_at old stage next CalendarFull at before after = subst (At old) (sym after) at
      refused_at old stage next RoundsSpent at before after = subst (At old) (sym after) (ends_early old before)
      refused_at old stage next AdmitNoMemory at before after = subst (At old) (sym after) (ends_early old before)

      sorted_at : (new : Core) (page : ℕ) (answers : List (ℕ × List ℕ)) (next : Stage A) → IsBehind new → page ≡ past_page r
          → IsSorting (Answer page) answers next → At new next
      sorted_at new page answers (Sorting p given) behind is sorting =
          subst (λ (q : Purpose). At new (Sorting q given)) (sym sorting.0) (behind, is)
      sorted_at new page answers next behind is sorting = absurd sorting

      move : (t : Task) (seat : ℕ) (old : Core) (stage : Stage A) (act : Act) (new : Core) (next : Stage A) → At old stage
          → Step old act new
          → Moves t seat stage act next → IsFounded old stage act next → At new next
      move t seat old (Listing purpose) act new next at step moves founded = absurd moves
      move t seat old (Asking (Merge held) pages) act new next at step moves founded = absurd at
      move t seat old (Asking (Answer page) pages) (Admit asked (Ok admitted)) new next at step moves founded =
          subst (At new) (sym moves.1) (admitted_in_time old new asked admitted at.0 (moves.0 ∙ at.2) step, at.1)
      move t seat old (Asking (Answer page) pages) (Admit asked (Err refused)) new next at step moves founded =
          subst (λ (c : Core). At c next) (sym step.does.1) (refused_at old (Asking (Answer page) pages) next refused at at.0
          (subst (λ (p : ℕ). AfterPlanned (Asking (Answer page) pages) (Asking (Answer page) pages) (stopped (Answer p))
          (Err refused) next) at.1 moves.1))
      move t seat old (Asking (Answer page) pages) act new next at step moves founded = absurd moves
      move t seat old (Reading (Merge held) batch) act new next at step moves founded = absurd at
      move t seat old (Reading (Answer page) batch) (Replan b answer) new next at step moves founded =
          absurd (never_torn m copies batch.0 in_time old at.0.read (sym (ap (results old) moves.0) ∙ founded))
      move t seat old (Reading (Answer page) batch) (EndBatch b answers) new next at step moves founded =
          let ends = end_read m copies batch.0 in_time old new answers at.0.read
          (subst (λ n. Step old (EndBatch n answers) new) moves.0 step) in
          let low = at.0.read.round in
          let same = ends.1 in
          sorted_at new page answers next (record {
            quiet = ends.0;
            until = at.0.read.until;
            is_in_time = at.0.read.is_in_time;
            round = omega (arith, low, same);
          }) at.1 moves.1
      move t seat old (Reading (Answer page) batch) act new next at step moves founded = absurd moves
      move t seat old (Sorting purpose given) act new next at step moves founded = absurd moves
      move t seat old (Ended fault) act new next at step moves founded = absurd moves
      move t seat old stage act new next at step moves founded = absurd at

      fold_at : (old : Core) (stage : Stage A) (new : Core) → At old stage → Step old Fold new → At new stage
      fold_at old (Listing (Answer page)) new at step = (
        before_still m copies first old new at.0
            (quiet_fold m copies old new at.0.quiet step),
        at.1,
      )
      fold_at old (Asking (Answer page) pages) new at step =
          (before_still m copies first old new at.0 (quiet_fold m copies old new at.0.quiet step), at.1, at.2)
      fold_at old (Reading (Answer page) batch) new at step =
          (record { read = read_fold m copies batch.0 in_time old at.0.read new step }, at.1)
      fold_at old (Sorting (Answer page) given) new at step =
          (behind_still old new at.0 (quiet_fold m copies old new at.0.quiet step), at.1)
      fold_at old (Ended fault) new at step = behind_still old new at (quiet_fold m copies old new at.quiet step)
      fold_at old stage new at step = absurd at

      stray_at : (old : Core) (stage next : Stage A) → At old stage → Strays old stage next → At old next
      stray_at old (Listing purpose) next at strays = absurd strays
      stray_at old (Asking (Answer page) pages) next at strays = subst (At old) (sym strays) (ends_early old at.0)
      stray_at old (Reading (Answer page) batch) next at strays =
          absurd (false≢true (sym strays.0 ∙ ap is_some at.0.read.is_state))
      stray_at old (Sorting purpose given) next at strays = absurd strays
      stray_at old (Ended fault) next at strays = absurd strays
      stray_at old stage next at strays = absurd at

      pub turn_at : (epoch : ℕ) {L : Type 0} (t : Task) (before after : Seat L) (old : Core) (stage : Stage A) (new : Core) (next : Stage A)
          → From epoch (λ core. At core stage) old → Turned t before after old stage new next → From epoch (λ core. At core next) new
      turn_at epoch t before after old stage new next from (Rested same commits here) =
          subst (λ (c : Core). From epoch (λ core. At core next) c) (sym same)
          (subst (λ (s : Stage A). From epoch (λ core. At core s) old) (sym here) from)
      turn_at epoch t before after old stage new next from (Moved act step commits moves founded) =
          from_step epoch (λ core. At core stage) (λ core. At core next) old new act from step
          (λ at same. move t (number_of before) old stage act new next at step moves founded)
      turn_at epoch t before after old stage new next from (Folded between act full fold step commits moves founded) =
          from_step epoch (λ core. At core stage) (λ core. At core next) between new act
          (from_step epoch (λ core. At core stage) (λ core. At core stage) old between Fold from fold
          (λ at same. fold_at old stage between at fold)) step
          (λ at same. move t (number_of before) between stage act new next at step moves founded)
      turn_at epoch t before after old stage new next from (Strayed same commits strays barred) =
          subst (λ (c : Core). From epoch (λ core. At core next) c) (sym same) (from.0, λ is. stray_at old stage next (from.1 is) strays)

      listed_at : (core : Core) (next : Stage A) → IsBefore m copies first core → IsListed r (Answer (first_page r)) next → At core next
      listed_at core (Asking purpose pages) before listed =
          let all : ◌≡◌ {A = ℕ} (until r (first_page r)) (past_page r) = let s = short in omega (arith, s) in
          let is : purpose ≡ Answer (past_page r) = listed.0 ∙ ap Answer all in
          subst (λ (q : Purpose). At core (Asking q pages)) (sym is)
          (before, refl, ap (map (λ (page : Page). page.0)) (listed.1 ∙ ap (pages_between (first_page r)) all) ∙ numbers_of (pages_of r))
      listed_at core next before listed = subst (At core) (sym listed) (ends_early core before)

      sorts_at : (core : Core) (given : List (ℕ × List ℕ)) (answer after : List ℕ) (next : Stage A) → IsBehind core
          → SortsAnswer r (past_page r) given answer next after → At core next
      sorts_at core given answer after next behind sorts =
          elim sorts [
            | inl whole ↦ subst (At core) (sym whole.1) (at_end after)
            | inr refused ↦ elim refused [
              | inl memory ↦ subst (At core) (sym memory) behind
              | inr lost ↦ subst (At core) (sym lost.1) behind
            ]
          ]
        where
          ended_at : (b : Bool) → At core (if b then Ended None else Ended (Some Lost))
          ended_at true = behind
          ended_at false = behind

          at_end : (after : List ℕ) → At core (after_batch r (past_page r) after)
          at_end after =
              subst (λ b. At core (if b then Listing (Answer (past_page r)) else
              (if length after == r.to - r.from then Ended None else Ended (Some Lost))))
              (sym not_less) (ended_at (length after == r.to - r.from))
            where
              not_less : nat_lt (past_page r) (past_page r) ≡ false
              not_less = le-ltb (past_page r) (past_page r) (omega arith)

      pub ready_at : (t : Task) → t.range ≡ r → (bytes : List ℕ) (core : Core) (stage : Stage A) (answer : List ℕ) (next : Stage A)
          (after : List ℕ)
          → At core stage → Prepares t bytes stage answer next after → At core next
      ready_at t is bytes core (Listing (Answer page)) answer next after at prepares =
          listed_at core next at.0 ((subst (λ (k : Range × ℕ). IsListed k.0 (Answer k.1) next) {x = (t.range, page)} {y = (r, first_page r)}
          (λ i. (is i, at.1 i)) prepares.0))
      ready_at t is bytes core (Sorting (Answer page) given) answer next after at prepares =
          sorts_at core (map (λ e. (e.0.0, e.1.items)) given.items) answer after next at.0
          (subst (λ (k : Range × ℕ). SortsAnswer k.0 k.1 (map (λ e. (e.0.0, e.1.items)) given.items) answer next after)
          {x = (t.range, page)} {y = (r, past_page r)} (λ i. (is i, at.1 i)) prepares)
      ready_at t is bytes core (Asking (Answer page) pages) answer next after at prepares = subst (At core) (sym prepares.0) at
      ready_at t is bytes core (Reading (Answer page) batch) answer next after at prepares = subst (At core) (sym prepares.0) at
      ready_at t is bytes core (Ended fault) answer next after at prepares = subst (At core) (sym prepares.0) at
      ready_at t is bytes core stage answer next after at prepares = absurd at
