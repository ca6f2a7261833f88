-- What an answer of a call says, whichever call it is.
use Rattle.fa_core_calls.specs.Calls.{FitsAnswer, HandsOutWhole, Makes, commits_of_answer}
use Rattle.fa_core_calls.specs.declared.call.Answer.TheVariants.{Abandon as GaveAbandon, Admit as GaveAdmit, Advance as GaveAdvance}
use Rattle.fa_core_calls.specs.declared.call.Answer.TheVariants.{Claim as GaveClaim, Commit as GaveCommit, CommitCopy as GaveCommitCopy}
use Rattle.fa_core_calls.specs.declared.call.Answer.TheVariants.{Done as GaveDone, EndBatch as GaveEndBatch, FlushBegin as GaveFlushBegin}
use Rattle.fa_core_calls.specs.declared.call.Answer.TheVariants.{FlushState as GaveFlushState, Fold as GaveFold, Release as GaveRelease}
use Rattle.fa_core_calls.specs.declared.call.Answer.TheVariants.{Replan as GaveReplan, Reserve as GaveReserve, ReserveCopy as GaveReserveCopy}
use Rattle.fa_core_calls.specs.declared.call.Answer.TheVariants.{SpareIn as GaveSpareIn, Stranger, Take as GaveTake, Window as GaveWindow}
use Rattle.fa_core_calls.specs.declared.call.Answer.{Answer}
use Rattle.fa_core_calls.specs.declared.call.Call.TheVariants.{Abandon, Admit, Advance, Claim, Commit, CommitCopy, Done, EndBatch, FlushBegin}
use Rattle.fa_core_calls.specs.declared.call.Call.TheVariants.{FlushState, Fold, Release, Replan, Reserve, ReserveCopy, ReserveFewer}
use Rattle.fa_core_calls.specs.declared.call.Call.TheVariants.{ReserveHole, SpareIn, Take, Window}
use Rattle.fa_core_calls.specs.declared.call.Call.{Call}
use Rattle.fa_laws.specs.Counted.{commits_of}
use Rattle.fa_machine.specs.Looks.{counts}
use Rattle.fa_machine.specs.Run.{Event}
use Rattle.fa_machine.specs.State.{Core}
use Rattle.fa_machine.specs.Step.{Act, Step}
use Rattle.fa_types.specs.declared.geometry.Geometry.{Geometry}
use Rattle.std.proofs.Common.{Err, List, Ok, Option, Some, ap, arith, ℕ, ◌+◌, ◌≡◌}
use Rattle.std.specs.declared.vec.Vec.{Vec}

-- A Stranger hands out no job.
pub stranger_fits : {A : Type 0} (geometry : Geometry) (number : List ℕ) (call : Call A) (buffer : Option (Vec ℕ A))
    → FitsAnswer geometry number call (Stranger buffer)
stranger_fits geometry number (Take die) buffer = tt
stranger_fits geometry number call buffer = tt

-- A Stranger hands out no plan.
pub stranger_hands_out : {A : Type 0} (old : Core) (call : Call A) (buffer : Option (Vec ℕ A)) → HandsOutWhole old call (Stranger buffer)
stranger_hands_out old (Admit pages) buffer = tt
stranger_hands_out old (Replan batch) buffer = tt
stranger_hands_out old call buffer = tt

-- An answer counts a Commit where the event does, whose law this takes.
pub counts_made : {A : Type 0} (old new : Core) (seat : ℕ) (call : Call A) (answer : Answer A)
    → ((a b : Core) (act : Act) → Step a act b → (counts b).0 ≡ (counts a).0 + commits_of (Event act))
    → Makes old seat call answer new → (counts new).0 ≡ (counts old).0 + commits_of_answer answer
counts_made old new seat call (Stranger buffer) law made =
    let same = ap (λ (core : Core). (counts core).0) made.1 in omega (arith, same)
counts_made old new seat (Claim page) (GaveClaim answer) law made = law old new _ made
counts_made old new seat (Release claim) GaveRelease law made = law old new _ made
counts_made old new seat (Reserve claim payload) (GaveReserve answer) law made = law old new _ made
counts_made old new seat (ReserveHole claim) (GaveReserve answer) law made = law old new _ made
counts_made old new seat (ReserveFewer claim payload) (GaveReserve answer) law made = law old new _ made
counts_made old new seat (Commit claim) (GaveCommit (Ok seq)) law made = law old new _ made
counts_made old new seat (Commit claim) (GaveCommit (Err refused)) law made = law old new _ made
counts_made old new seat (Abandon claim) (GaveAbandon answer) law made = law old new _ made
counts_made old new seat (Admit pages) (GaveAdmit answer) law made = law old new _ made
counts_made old new seat (Replan batch) (GaveReplan answer) law made = law old new _ made
counts_made old new seat (EndBatch batch) (GaveEndBatch answers) law made = law old new _ made
counts_made old new seat (Take die) (GaveTake job) law made = law old new _ made
counts_made old new seat (Done die outcome buffer) (GaveDone left) law made = law old new _ made
counts_made old new seat (Window die rounds) (GaveWindow answer) law made = law old new _ made
counts_made old new seat Advance (GaveAdvance answer) law made = law old new _ made
counts_made old new seat (SpareIn die) (GaveSpareIn answer) law made = law old new _ made
counts_made old new seat (ReserveCopy page seq payload) (GaveReserveCopy answer) law made = law old new _ made
counts_made old new seat CommitCopy (GaveCommitCopy answer) law made = law old new _ made
counts_made old new seat FlushBegin (GaveFlushBegin answer) law made = law old new _ made
counts_made old new seat (FlushState flush) (GaveFlushState answer) law made = law old new _ made
counts_made old new seat Fold GaveFold law made = law old new _ made
counts_made old new seat call answer law made = absurd made
