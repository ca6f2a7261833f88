-- How a request goes on while anything else happens, by whomever.
use Rattle.std.specs.Prelude.{◌≡◌, ℕ, List, [], ◌∷◌}
use Rattle.fa_machine.specs.Run.{Happens}
use Rattle.fa_shared_steps.specs.declared.request.Task.{Task}
use Rattle.fa_shared_steps.specs.declared.stage.Purpose.TheVariants.{Answer}
use Rattle.fa_shared_steps.specs.declared.stage.Stage.{Stage}
use Rattle.fa_shared_steps.specs.declared.stage.Stage.TheVariants.{Asking, Ended, Flushing, Leaving, Listing, Reading, Sorting}
use Rattle.fa_solo_laws.specs.Asked.{Meanwhile, Moment, Turn, TurnsTo}

module _ {A : Type 0} where
  -- One turn of a request with this seat and these bytes, or something else that happens, which leaves the request as it is.
  abbrev pub TurnsAmong : Task → ℕ → List ℕ → Moment A → Turn → Moment A → Type 0
  TurnsAmong t seat bytes before (Meanwhile happening) after =
      Happens before.world happening after.world × (after.stage ≡ before.stage) × (after.answer ≡ before.answer)
  TurnsAmong t seat bytes before turn after = TurnsTo t seat bytes before turn after

  -- What becomes of a request, turn by turn, among all else that happens.
  abbrev pub AskedAmong : Task → ℕ → List ℕ → Moment A → List Turn → Moment A → Type 0
  AskedAmong t seat bytes before [] after = after ≡ before
  AskedAmong t seat bytes before (turn ∷ turns) after =
      (middle : Moment A) × TurnsAmong t seat bytes before turn middle × AskedAmong t seat bytes middle turns after

  -- The request has not begun its flush: it may have just begun itself, or have committed pages. It is none that reads for an answer: such
  -- a request ends with no flush.
  abbrev pub IsBeforeFlush : Stage A → Type 0
  IsBeforeFlush (Listing (Answer page)) = ⊥
  IsBeforeFlush (Asking (Answer page) pages) = ⊥
  IsBeforeFlush (Reading (Answer page) batch) = ⊥
  IsBeforeFlush (Leaving (Answer page) batch fault) = ⊥
  IsBeforeFlush (Sorting (Answer page) answers) = ⊥
  IsBeforeFlush (Flushing flush) = ⊥
  IsBeforeFlush (Ended fault) = ⊥
  IsBeforeFlush stage = Unit {0}
