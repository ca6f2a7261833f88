-- What one call of the array does: the machine's event of that call with the call's answer.
use Rattle.std.specs.FinMap.{get}
use Rattle.std.specs.List.{list_all}
use Rattle.std.specs.Option.{option_map_or}
use Rattle.std.specs.Prelude.{◌≡◌, ◌&&◌, ℕ, Bool, true, false, not, nat_le, length, map, option_map, List, Ok, Some}
use Rattle.fa_core_calls.specs.declared.call.Answer.{Answer}
use Rattle.fa_core_calls.specs.declared.call.Answer.TheVariants.{Stranger, Claim as GaveClaim, Release as GaveRelease, Reserve as GaveReserve}
use Rattle.fa_core_calls.specs.declared.call.Answer.TheVariants.{Commit as GaveCommit, Abandon as GaveAbandon, Admit as GaveAdmit}
use Rattle.fa_core_calls.specs.declared.call.Answer.TheVariants.{Replan as GaveReplan, EndBatch as GaveEndBatch, Take as GaveTake}
use Rattle.fa_core_calls.specs.declared.call.Answer.TheVariants.{Done as GaveDone, Window as GaveWindow, Advance as GaveAdvance}
use Rattle.fa_core_calls.specs.declared.call.Answer.TheVariants.{SpareIn as GaveSpareIn, ReserveCopy as GaveReserveCopy}
use Rattle.fa_core_calls.specs.declared.call.Answer.TheVariants.{CommitCopy as GaveCommitCopy, FlushBegin as GaveFlushBegin}
use Rattle.fa_core_calls.specs.declared.call.Answer.TheVariants.{FlushState as GaveFlushState, Fold as GaveFold}
use Rattle.fa_core_calls.specs.declared.call.Call.{Call}
use Rattle.fa_core_calls.specs.declared.call.Call.TheVariants.{Claim, Release, Reserve, ReserveHole, ReserveFewer, Commit, Abandon, Admit}
use Rattle.fa_core_calls.specs.declared.call.Call.TheVariants.{Replan, EndBatch, Take, Done, Window, Advance, SpareIn, ReserveCopy, CommitCopy}
use Rattle.fa_core_calls.specs.declared.call.Call.TheVariants.{FlushBegin, FlushState, Fold}
use Rattle.fa_core_outcome.specs.Outcomes.{outcome_of}
use Rattle.fa_machine.specs.Cells.{is_of_kind}
use Rattle.fa_machine.specs.Conditions.{batch_open, claim_open, copy_open, history_full, is_reserved}
use Rattle.fa_machine.specs.Reading.{left_of, to_read}
use Rattle.fa_machine.specs.State.{Core}
use Rattle.fa_machine.specs.Step.{Step, is_die, is_distinct, is_page, is_sized, Claim as ActClaim, Release as ActRelease}
use Rattle.fa_machine.specs.Step.{Reserve as ActReserve, ReserveHole as ActReserveHole, ReserveFewer as ActReserveFewer}
use Rattle.fa_machine.specs.Step.{Commit as ActCommit, Abandon as ActAbandon, Admit as ActAdmit, Replan as ActReplan}
use Rattle.fa_machine.specs.Step.{EndBatch as ActEndBatch, Take as ActTake, Done as ActDone, Window as ActWindow, Advance as ActAdvance}
use Rattle.fa_machine.specs.Step.{SpareIn as ActSpareIn, ReserveCopy as ActReserveCopy, CommitCopy as ActCommitCopy}
use Rattle.fa_machine.specs.Step.{FlushBegin as ActFlushBegin, FlushState as ActFlushState, Fold as ActFold}
use Rattle.fa_core_calls.specs.Answers.{IsHandedOut, admit_answer, plan_answer}
use Rattle.fa_core_outcome.specs.Fits.{IsJobFor}
use Rattle.fa_core_outcome.specs.Handed.{handed_of}
use Rattle.fa_types.specs.declared.geometry.Geometry.{Geometry}
use Rattle.fa_types.specs.declared.numbers.Page.{Page}

module _ {A : Type 0} where
  -- The machine's condition of a call. That of a Done is stricter than the machine's: its buffer has the bytes of a page by
  -- whatever outcome the job ends.
  abbrev pub may_make : Core → ℕ → Call A → Bool
  may_make old seat (Claim page) = is_page old page.0
  may_make old seat (Release claim) = claim_open old claim.0 && not (is_reserved old claim.0)
  may_make old seat (Reserve claim payload) =
      claim_open old claim.0 && not (is_reserved old claim.0) && is_sized old payload.now
  may_make old seat (ReserveHole claim) = claim_open old claim.0 && not (is_reserved old claim.0)
  may_make old seat (ReserveFewer claim payload) =
      claim_open old claim.0 && not (is_reserved old claim.0) && is_sized old payload.now
  may_make old seat (Commit claim) = is_reserved old claim.0 && not (history_full old)
  may_make old seat (Abandon claim) = is_reserved old claim.0
  may_make old seat (Admit pages) =
      let numbers = map (λ (page : Page). page.0) pages.now in
      is_distinct numbers && list_all (is_page old) numbers && nat_le (length numbers) 1024
  may_make old seat (Replan batch) = batch_open old batch.0
  may_make old seat (EndBatch batch) = batch_open old batch.0
  may_make old seat (Take die) = is_die old die.0 && not (history_full old)
  may_make old seat (Done die outcome buffer) =
      option_map_or (λ job. is_of_kind job (outcome_of outcome buffer.items)) (get old.jobs die.0) false && is_sized old buffer.items
  may_make old seat (Window die rounds) = is_die old die.0 && nat_le 1 rounds && nat_le rounds 64
  may_make old seat (SpareIn die) = is_die old die.0
  may_make old seat (ReserveCopy page seq payload) = is_page old page.0 && is_sized old payload.now
  may_make old seat CommitCopy = copy_open old
  may_make old seat call = true

  -- A call that is answered by its own answer is the machine's event. A Stranger says that the condition does not hold, and nothing
  -- has changed.
  abbrev pub Makes : Core → ℕ → Call A → Answer A → Core → Type 0
  Makes old seat call (Stranger buffer) new = (may_make old seat call ≡ false) × (new ≡ old)
  Makes old seat (Claim page) (GaveClaim answer) new = Step old (ActClaim page.0 answer) new
  Makes old seat (Release claim) GaveRelease new = Step old (ActRelease claim.0) new
  Makes old seat (Reserve claim payload) (GaveReserve answer) new =
      Step old (ActReserve claim.0 payload.now answer) new
  Makes old seat (ReserveHole claim) (GaveReserve answer) new = Step old (ActReserveHole claim.0 answer) new
  Makes old seat (ReserveFewer claim payload) (GaveReserve answer) new =
      Step old (ActReserveFewer claim.0 payload.now answer) new
  Makes old seat (Commit claim) (GaveCommit answer) new = Step old (ActCommit claim.0 seat answer) new
  Makes old seat (Abandon claim) (GaveAbandon answer) new = Step old (ActAbandon claim.0 answer) new
  Makes old seat (Admit pages) (GaveAdmit answer) new =
      Step old (ActAdmit (map (λ (page : Page). page.0) pages.now) (admit_answer answer)) new
  Makes old seat (Replan batch) (GaveReplan answer) new = Step old (ActReplan batch.0 (plan_answer answer)) new
  Makes old seat (EndBatch batch) (GaveEndBatch answers) new =
      Step old (ActEndBatch batch.0 (map (λ e. (e.0.0, e.1.items)) answers.items)) new
  Makes old seat (Take die) (GaveTake job) new = Step old (ActTake die.0 seat (option_map handed_of job)) new
  Makes old seat (Done die outcome buffer) (GaveDone left) new = Step old (ActDone die.0 (outcome_of outcome buffer.items)) new
  Makes old seat (Window die rounds) (GaveWindow answer) new = Step old (ActWindow die.0 rounds answer) new
  Makes old seat Advance (GaveAdvance answer) new = Step old (ActAdvance answer) new
  Makes old seat (SpareIn die) (GaveSpareIn answer) new = Step old (ActSpareIn die.0 answer) new
  Makes old seat (ReserveCopy page seq payload) (GaveReserveCopy answer) new =
      Step old (ActReserveCopy page.0 seq.0 payload.now answer) new
  Makes old seat CommitCopy (GaveCommitCopy answer) new = Step old (ActCommitCopy answer) new
  Makes old seat FlushBegin (GaveFlushBegin answer) new = Step old (ActFlushBegin answer) new
  Makes old seat (FlushState flush) (GaveFlushState answer) new = Step old (ActFlushState flush answer) new
  Makes old seat Fold GaveFold new = Step old ActFold new
  Makes old seat call answer new = ⊥

  -- A job that is handed out fits its die and the image of an array of this geometry and number.
  abbrev pub FitsAnswer : Geometry → List ℕ → Call A → Answer A → Type 0
  FitsAnswer geometry number (Take die) (GaveTake (Some job)) = IsJobFor geometry number die.0 (handed_of job)
  FitsAnswer geometry number call answer = Unit {0}

  -- A plan that is handed out tells its own rounds, and how many searches and looks it took for the pages that it is for.
  abbrev pub HandsOutWhole : Core → Call A → Answer A → Type 0
  HandsOutWhole old (Admit pages) (GaveAdmit (Ok admitted)) =
      IsHandedOut (length (to_read old.page_map (map (λ (page : Page). page.0) pages.now))) admitted.planned
  HandsOutWhole old (Replan batch) (GaveReplan (Ok planned)) = IsHandedOut (length (left_of old batch.0)) planned
  HandsOutWhole old call answer = Unit {0}

  -- how many Commits were accepted
  abbrev pub commits_of_answer : Answer A → ℕ
  commits_of_answer (GaveCommit (Ok seq)) = 1
  commits_of_answer answer = 0
