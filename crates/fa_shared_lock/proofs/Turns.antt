-- Turns, from what the calls of the array tell.
use Rattle.std.proofs.Common.{◌≡◌, ◌∙◌, ◌+◌, ℕ, List, false, Option, Some, None, IfSome, IfNone, Result, refl, sym, ap, subst, arith}
use Rattle.std.proofs.Common.{not, true}
use Rattle.std.proofs.lemmas.Bool.{and_left}
use Rattle.std.specs.Prelude.{◌&&◌}
use Rattle.fa_machine.specs.Conditions.{batch_open, claim_open, history_full, is_reserved}
use Rattle.fa_machine.specs.State.{Core}
use Rattle.fa_machine.specs.Step.{Step, Abandon, EndBatch, Fold}
use Rattle.fa_machine.specs.declared.ids.BatchId.{BatchId}
use Rattle.fa_machine.specs.declared.refusals.AbandonRefused.{AbandonRefused}
use Rattle.fa_shared_lock.specs.Accounts.{IsAccounted}
use Rattle.fa_shared_lock.specs.Moves.{Turned, Moved, Rested, Strayed}
use Rattle.fa_shared_steps.specs.Stages.{stopped}
use Rattle.fa_shared_steps.specs.declared.request.Task.{Task}
use Rattle.fa_shared_steps.specs.declared.stage.PageClaim.{PageClaim}
use Rattle.fa_shared_steps.specs.declared.stage.Purpose.{Purpose}
use Rattle.fa_shared_steps.specs.declared.stage.Stage.{Stage}
use Rattle.fa_shared_steps.specs.declared.stage.Stage.TheVariants.{Leaving, Releasing}
use Rattle.fa_shared_lock.specs.Locked.{LockedState}
use Rattle.fa_shared_lock.specs.Seats.{commits_with}
use Rattle.fa_shared_lock.specs.declared.seat.Seat.{Seat}
use Rattle.fa_types.specs.declared.blocks.BlockFault.{BlockFault}

-- a turn at a stage that is the same
pub at_stage : {L A : Type 0} {t : Task} {before after : Seat L} {old new : Core} {stage same next : Stage A} → stage ≡ same
    → Turned t before after old same new next → Turned t before after old stage new next
at_stage {A = A} {t = t} {before = before} {after = after} {old = old} {new = new} {next = next} e turned =
    let P : Stage A → Type 0 = λ s. Turned t before after old s new next in subst P (sym e) turned

-- where no Commit was accepted the count of a seat stays
pub no_rise : {after before : ℕ} → after ≡ before → after ≡ before + 0
no_rise kept = omega (arith, kept)

-- and by as many it rises behind a Fold as the Commit has
pub after_fold : {a b c : ℕ} (n : ℕ) → b ≡ a → c ≡ b + n → c ≡ a + n
after_fold n kept rises = omega (arith, kept, rises)

-- a batch that is left is ended, or it was not open
pub left : {L A X : Type 0} (t : Task) (before after : Seat L) (old new : Core) (purpose : Purpose) (batch : BatchId) (fault : BlockFault)
    (next : Stage A)
    (told : X → List (ℕ × List ℕ)) (answers : Option X) → IfSome answers (λ a. Step old (EndBatch batch.0 (told a)) new)
    → IfNone answers ((batch_open old batch.0 ≡ false) × (new ≡ old)) → commits_with after ≡ commits_with before
    → next ≡ stopped purpose fault
    → Turned t before after old (Leaving purpose batch fault) new next
left t before after old new purpose batch fault next told (Some a) some none kept e =
    Moved (EndBatch batch.0 (told a)) some (no_rise kept) (refl, e) tt
left t before after old new purpose batch fault next told None some none kept e = Strayed (none.1) kept (none.0, e) tt

-- what is reserved is given up before the page is released, or it was not reserved
pub gave_up : {L A X : Type 0} (t : Task) (before after : Seat L) (old new : Core) (held : PageClaim) (fault : Option BlockFault)
    (told : X → Result (Unit {0}) AbandonRefused) (answer : Option X) → IfSome answer (λ a. Step old (Abandon held.claim.0 (told a)) new)
    → IfNone answer ((is_reserved old held.claim.0 ≡ false) × (new ≡ old)) → commits_with after ≡ commits_with before
    → Turned {A = A} t before after old (Releasing held fault) new (Releasing held fault)
gave_up t before after old new held fault told (Some a) some none kept =
    Moved (Abandon held.claim.0 (told a)) some (no_rise kept) (refl, refl) tt
gave_up t before after old new held fault told None some none kept = Rested (none.1) kept refl

-- a hole can't be reserved where its claim is not open, or something is reserved under it
pub barred_hole : (core : Core) (claim : ℕ) → (claim_open core claim && not (is_reserved core claim)) ≡ false
    → (claim_open core claim && not (is_reserved core claim) && true) ≡ false
barred_hole core claim none = and_left (claim_open core claim && not (is_reserved core claim)) true none

-- behind a Fold the history has room
pub has_room : (old new : Core) → Step old Fold new → history_full new ≡ false
has_room old new step = ap history_full step.does

-- and what is reserved is reserved still
pub keeps_reserved : (old new : Core) (claim : ℕ) → Step old Fold new → is_reserved new claim ≡ is_reserved old claim
keeps_reserved old new claim step = ap (λ (c : Core). is_reserved c claim) step.does

-- two accounts, one after the other
pub join_accounts : {L : Type 0} (a b c : LockedState) (s t u : Seat L) → IsAccounted a s b t → IsAccounted b t c u → IsAccounted a s c u
join_accounts a b c s t u one two = record {
  rest = two.rest ∙ ap (λ (l : LockedState). record l { core = c.core; book = c.book }) one.rest;
  commits = omega (arith, one.commits, two.commits);
  number = two.number ∙ one.number;
}
