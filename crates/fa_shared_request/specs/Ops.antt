-- What contracts see of a request, and what each of its calls does beside its turns.
use Rattle.std.specs.Prelude.{◌≡◌, ℕ, List, map, Option, Some, None}
use Rattle.fa_shared_steps.specs.Prepared.{IsFilled, IsListed, SortsAnswer, SortsPage}
use Rattle.fa_shared_steps.specs.declared.request.Task.{Task}
use Rattle.fa_shared_steps.specs.declared.stage.Purpose.TheVariants.{Answer, Merge}
use Rattle.fa_shared_steps.specs.declared.stage.Stage.{Stage}
use Rattle.fa_shared_steps.specs.declared.stage.Stage.TheVariants.{Ended, Filling, Listing, Sorting}
use Rattle.fa_types.specs.declared.blocks.BlockFault.{BlockFault}

-- what the request comes to, how far it is, and the answer so far
pub record OpView (A : Type 0) : Type 0 where
  pub task : Task
  pub stage : Stage A
  pub answer : List ℕ

module _ {A : Type 0} where
  abbrev pub task_in : OpView A → Task
  task_in op = op.task

  abbrev pub stage_of : OpView A → Stage A
  stage_of op = op.stage

  abbrev pub answer_of : OpView A → List ℕ
  answer_of op = op.answer

  -- how a request ended, if it has
  abbrev pub ended : Stage A → Option (Option BlockFault)
  ended (Ended fault) = Some fault
  ended stage = None

  -- What is prepared at each stage. At most stages nothing is.
  abbrev pub Prepares : Task → List ℕ → Stage A → List ℕ → Stage A → List ℕ → Type 0
  Prepares t bytes (Listing purpose) before next after = IsListed t.range purpose next × (after ≡ before)
  Prepares t bytes (Filling held fewer) before next after = IsFilled t bytes held fewer next × (after ≡ before)
  Prepares t bytes (Sorting (Merge held) answers) before next after =
      SortsPage t bytes held (map (λ e. (e.0.0, e.1.items)) answers.items) next × (after ≡ before)
  Prepares t bytes (Sorting (Answer page) answers) before next after =
      SortsAnswer t.range page (map (λ e. (e.0.0, e.1.items)) answers.items) before next after
  Prepares t bytes stage before next after = (next ≡ stage) × (after ≡ before)
