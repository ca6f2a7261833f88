-- What a later round is awaited for, and where the round is refused to pass.
use Rattle.std.proofs.Common.{◌≡◌, ◌∙◌, ℕ, Option, Some, None, Result, Ok, Err, ap, false, is_ok, is_some, option_map, subst, sym, true}
use Rattle.std.proofs.lemmas.Bool.{false≢true}
use Rattle.std.specs.Prelude.{IfSome}
use Rattle.fa_machine.specs.Reading.{results}
use Rattle.fa_machine.specs.State.{Core}
use Rattle.fa_machine.specs.Step.{Advance, Step}
use Rattle.fa_machine.specs.declared.answers.ReadState.{ReadState}
use Rattle.fa_machine.specs.declared.answers.ReadState.TheVariants.{Waiting}
use Rattle.fa_machine.specs.declared.ids.BatchId.{BatchId}
use Rattle.fa_machine.specs.declared.ids.Block.{Block}
use Rattle.fa_machine.specs.declared.refusals.AdvanceRefused.{AdvanceRefused}
use Rattle.fa_solo.specs.Rebuilding.{IsStuck}
use Rattle.fa_types.specs.declared.numbers.Round.{Round}

pub victim_some : (o : Option Block) (v : Option ℕ) → option_map (λ (b : Block). b.0) o ≡ v → is_some o ≡ true → is_some v ≡ true
victim_some (Some b) v is some = ap is_some (sym is)
victim_some None v is some = absurd (false≢true some)

-- a round that was refused to pass is refused to pass still
pub stuck_behind : (old new : Core) (answer : Result Round AdvanceRefused) → Step old (Advance answer) new → is_ok answer ≡ false → IsStuck new
stuck_behind old new (Ok round) step is = absurd (false≢true (sym is))
stuck_behind old new (Err refused) step is =
    (refused, let P : Core → Type 0 = λ k. Step k (Advance (Err refused)) new in subst P (sym step.does.1) step)

-- no batch waits
pub no_batch_waits : (o : Option BatchId) (k core : Core) → k ≡ core → IfSome o (λ batch. results k batch.0 ≡ Waiting → ⊥)
    → IfSome o (λ batch. results core batch.0 ≡ Waiting → IsStuck core)
no_batch_waits None k core same none = tt
no_batch_waits (Some batch) k core same none =
    λ waits. absurd (none (ap (λ (c : Core). results c batch.0) same ∙ waits))

pub stuck_any : (o : Option BatchId) (core : Core) → IsStuck core → IfSome o (λ batch. results core batch.0 ≡ Waiting → IsStuck core)
stuck_any None core stuck = tt
stuck_any (Some batch) core stuck = λ waits. stuck

-- a batch that stands otherwise does not wait
pub not_waiting : (o : Option BatchId) (batch : BatchId) (core : Core) (state : ReadState) → o ≡ Some batch → state ≡ results core batch.0
    → (state ≡ Waiting → ⊥) → IfSome o (λ b. results core b.0 ≡ Waiting → ⊥)
not_waiting o batch core state is stands never =
    let P : Option BatchId → Type 0 = λ o. IfSome o (λ b. results core b.0 ≡ Waiting → ⊥) in
    subst P (sym is) (λ waits. never (stands ∙ waits))
