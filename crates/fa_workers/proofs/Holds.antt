-- Dies of the array, whatever event was made.
use Rattle.std.proofs.Common.{◌≡◌, ℕ, Err, ap}
use Rattle.fa_machine.specs.State.{Core}
use Rattle.fa_machine.specs.Step.{Advance, Step, is_die}
use Rattle.fa_machine.specs.declared.refusals.AdvanceRefused.{AdvanceRefused}
use Rattle.fa_shared_lock.specs.Rest.{Folded, Folds, HadRoom}

-- a Fold leaves the dies
pub fold_keeps_dies : (old new : Core) (die : ℕ) → Folds old new → is_die new die ≡ is_die old die
fold_keeps_dies old new die (Folded full step) = ap (λ (c : Core). is_die c die) step.does
fold_keeps_dies old new die (HadRoom same) = ap (λ (c : Core). is_die c die) same

-- and so does an Advance that is refused
pub refused_keeps_dies : (old new : Core) (refused : AdvanceRefused) (die : ℕ) → Step old (Advance (Err refused)) new
    → is_die new die ≡ is_die old die
refused_keeps_dies old new refused die step = ap (λ (c : Core). is_die c die) step.does.1
