-- Turns, by what is seen of a request before and behind them.
use Rattle.std.proofs.Common.{◌≡◌, subst}
use Rattle.fa_machine.specs.State.{Core}
use Rattle.fa_shared_lock.specs.Moves.{Turned}
use Rattle.fa_shared_lock.specs.declared.seat.Seat.{Seat}
use Rattle.fa_shared_steps.specs.declared.request.Task.{Task}
use Rattle.fa_shared_steps.specs.declared.stage.Stage.{Stage}

-- a turn of the same task, from a stage that is the same to one that is
pub at_view : {L A : Type 0} {before after : Seat L} {old new : Core} {t u : Task} {stage same next end : Stage A} → t ≡ u → stage ≡ same
    → next ≡ end → Turned t before after old stage new next → Turned u before after old same new end
at_view {A = A} {before = before} {after = after} {old = old} {new = new} {t = t} {u = u} {stage = stage} {same = same} {next = next} e f g turned =
    let first : Turned u before after old stage new next = subst (λ (x : Task). Turned x before after old stage new next) e turned in
    let second : Turned u before after old same new next = subst (λ (s : Stage A). Turned u before after old s new next) f first in
    subst (λ (s : Stage A). Turned u before after old same new s) g second
