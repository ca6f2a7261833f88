-- The dies whose jobs somebody holds, and what is told of those that were made.
use Rattle.std.specs.Option.{option_map_or}
use Rattle.std.specs.Prelude.{◌≡◌, ◌⊎◌, ℕ, List, [], ◌∷◌, ◌++◌, Option, Some, None, map}
use Rattle.fa_core_outcome.specs.Outcomes.{outcome_of}
use Rattle.fa_shared_lock.specs.Only.{Told}
use Rattle.fa_types.specs.declared.numbers.Die.{Die}
use Rattle.fa_workers_making.specs.declared.bench.MadeJob.{MadeJob}
use Rattle.fa_workers.specs.declared.die_events.Next.{Next}
use Rattle.fa_workers.specs.declared.die_events.Next.TheVariants.{Run}
use Rattle.fa_workers_making.specs.declared.order.Order.{Order}

-- the numbers of dies
abbrev pub numbers_of : List Die → List ℕ
numbers_of dies = map (λ die. die.0) dies

-- Of this die something is told more, or nothing is.
abbrev pub AddsPart : ℕ → List Told → List Told → Type 0
AddsPart die old new = ((told : Told) × (told.die ≡ die) × (new ≡ old ++ told ∷ [])) ⊎ (new ≡ old)

module _ {A : Type 0} where
  -- what is told of a job that was made: its outcome, with the bytes of its memory
  abbrev pub told_of : MadeJob A → Told
  told_of made = record {
    die = made.die.0;
    outcome = outcome_of made.outcome made.memory.buffer.items;
    bytes = made.memory.buffer.items;
  }

  -- the die of a job, if one was taken
  abbrev pub die_taken : Option (Order A) → List ℕ
  die_taken order = option_map_or (λ o. o.die.0 ∷ []) order []

  -- the job that is to be run, if one is
  abbrev pub order_in : Next A → Option (Order A)
  order_in (Run order) = Some order
  order_in next = None
