-- A turn of a request over the locked array as turns of what becomes of it.
use Rattle.fa_solo_laws.specs.Unwritten.{EndsNoBatch}
use Rattle.fa_solo_laws.specs.Asked.{Asked, BringsNoSpare, LeavesClaim, Makes, Meanwhile, OfOne, Strayed, Turn}
use Rattle.fa_solo_laws.specs.Asked.{batch_at, claim_at}
use Rattle.fa_machine.specs.Cells.{Outcome}
use Rattle.fa_machine.specs.Run.{Event, HappensEvent}
use Rattle.fa_machine.specs.State.{Core}
use Rattle.fa_machine.specs.Step.{Act, Admit, Commit, Done, Fold, Reserve, ReserveCopy, ReserveFewer, ReserveHole, Step, Take}
use Rattle.fa_machine.specs.Taking.{Handed}
use Rattle.fa_machine.specs.World.{IsTold, World, followed}
use Rattle.fa_shared_lock.specs.Moves.{Moved, Moves, Rested, Turned, Folded, Strayed as StrayedTurn}
use Rattle.fa_shared_steps.specs.declared.request.Task.{Task}
use Rattle.fa_shared_steps.specs.declared.stage.Stage.{Stage}
use Rattle.fa_shared_steps.specs.declared.stage.Stage.TheVariants.{Flushing, Reserving}
use Rattle.fa_shared_steps.specs.declared.stage.Wish.TheVariants.{Data, Fewer, Hole}
use Rattle.fa_shared_lock.specs.Seats.{number_of}
use Rattle.fa_shared_lock.specs.declared.seat.Seat.{Seat}
use Rattle.std.proofs.Common.{List, None, Option, Some, [], ap, refl, suc, sym, ℕ, ◌∷◌, ◌≡◌}
use Rattle.std.specs.Prelude.{Err, Ok}

of_fold : (o : Option ℕ) → OfOne EndsNoBatch o (Event Fold)
of_fold None = tt
of_fold (Some batch) = tt

under_fold : (o : Option ℕ) → OfOne LeavesClaim o (Event Fold)
under_fold None = tt
under_fold (Some claim) = tt

module _ (A : Type 0) (t : Task) (seat : ℕ) where
  -- no event of a request is one that the world is owed something for
  no_done : (stage : Stage A) (die : ℕ) (outcome : Outcome) (next : Stage A) → Moves t seat stage (Done die outcome) next → ⊥
  no_done (Reserving held (Data payload)) die outcome next m = m
  no_done (Reserving held (Fewer payload)) die outcome next m = m
  no_done (Reserving held Hole) die outcome next m = m
  no_done stage die outcome next m = m

  no_copy : (stage : Stage A) (page seq : ℕ) (payload : List ℕ) (made : Unit {0}) (next : Stage A)
      → Moves t seat stage (ReserveCopy page seq payload (Ok made)) next → ⊥
  no_copy (Reserving held (Data bytes)) page seq payload made next m = m
  no_copy (Reserving held (Fewer bytes)) page seq payload made next m = m
  no_copy (Reserving held Hole) page seq payload made next m = m
  no_copy stage page seq payload made next m = m

  no_take : (stage : Stage A) (die taker : ℕ) (job : Option Handed) (next : Stage A) → Moves t seat stage (Take die taker job) next → ⊥
  no_take (Reserving held (Data payload)) die taker job next m = m
  no_take (Reserving held (Fewer payload)) die taker job next m = m
  no_take (Reserving held Hole) die taker job next m = m
  no_take stage die taker job next m = m

  -- an event of a request changes neither images nor what the dies are at
  own_images : (w : World) (stage : Stage A) (act : Act) (next : Stage A) → Moves t seat stage act next
      → ((followed act w).images ≡ w.images) × ((followed act w).works ≡ w.works)
  own_images w stage (Take die taker job) next m = absurd (no_take stage die taker job next m)
  own_images w stage (Done die outcome) next m = absurd (no_done stage die outcome next m)
  own_images w stage (Reserve claim payload (Ok seq)) next m = (refl, refl)
  own_images w stage (Reserve claim payload (Err refused)) next m = (refl, refl)
  own_images w stage (ReserveHole claim (Ok seq)) next m = (refl, refl)
  own_images w stage (ReserveHole claim (Err refused)) next m = (refl, refl)
  own_images w stage (ReserveFewer claim payload (Ok seq)) next m = (refl, refl)
  own_images w stage (ReserveFewer claim payload (Err refused)) next m = (refl, refl)
  own_images w stage (Commit claim by (Ok seq)) next m = (refl, refl)
  own_images w stage (Commit claim by (Err refused)) next m = (refl, refl)
  own_images w stage (Admit pages (Ok made)) next m = (refl, refl)
  own_images w stage (Admit pages (Err refused)) next m = (refl, refl)
  own_images w stage act next m = (refl, refl)

  own_told : (w : World) (stage : Stage A) (act : Act) (next : Stage A) → Moves t seat stage act next → IsTold w act
  own_told w stage (Done die outcome) next m = absurd (no_done stage die outcome next m)
  own_told w stage (ReserveCopy page seq payload (Ok made)) next m = absurd (no_copy stage page seq payload made next m)
  own_told w stage act next m = tt

  spareless_fold : (stage : Stage A) → BringsNoSpare stage (Event Fold)
  spareless_fold (Flushing flush) = tt
  spareless_fold stage = tt

  -- the world behind an event
  abbrev behind : World → Act → Core → World
  behind w act new = record (followed act w) { core = new; moment = suc w.moment }

  made : (w : World) (stage : Stage A) (act : Act) (next : Stage A) (new : Core) → Step w.core act new → Moves t seat stage act next
      → HappensEvent w act (behind w act new)
  made w stage act next new step m = record { step = step; told = own_told w stage act next m; follows = refl }

  folded : (w : World) (new : Core) → Step w.core Fold new → HappensEvent w Fold (behind w Fold new)
  folded w new step = record { step = step; told = tt; follows = refl }

abbrev pub Turns : {A : Type 0} → Task → ℕ → List ℕ → World → Stage A → List ℕ → Core → Stage A → Type 0
Turns {A} t seat bytes w stage answer new next =
    (v : World) × (turns : List Turn) × (v.core ≡ new) × (v.images ≡ w.images) × (v.works ≡ w.works)
    × Asked {A = A} t seat bytes (record { world = w; stage = stage; answer = answer }) turns (record { world = v; stage = next; answer = answer })

pub turn_asked : (L A : Type 0) (t : Task) (bytes answer : List ℕ) (before after : Seat L) (w : World) (new : Core) (stage next : Stage A)
    → Turned t before after w.core stage new next → Turns t (number_of before) bytes w stage answer new next
turn_asked L A t bytes answer before after w new stage next (Rested same kept stays) =
    (w, [], sym same, refl, refl, ap (λ (s : Stage A). record { world = w; stage = s; answer = answer }) stays)
turn_asked L A t bytes answer before after w new stage next (Moved act step commits moves founded) =
    let kept = own_images A t (number_of before) w stage act next moves in (
      behind A t (number_of before) w act new,
      Makes act ∷ [],
      refl,
      kept.0,
      kept.1,
      (
        record { world = behind A t (number_of before) w act new; stage = next; answer = answer },
        (made A t (number_of before) w stage act next new step moves, moves, founded, refl),
        refl,
      ),
    )
turn_asked L A t bytes answer before after w new stage next (Folded between act full fold step commits moves founded) =
    let middle : World = behind A t (number_of before) w Fold between in
    let kept = own_images A t (number_of before) middle stage act next moves in (
      behind A t (number_of before) middle act new,
      Meanwhile (Event Fold) ∷ Makes act ∷ [],
      refl,
      kept.0,
      kept.1,
      (
        record { world = middle; stage = stage; answer = answer },
        (
          folded A t (number_of before) w between fold,
          record {
            writes_nothing = tt;
            batch = of_fold (batch_at stage);
            claim = under_fold (claim_at stage);
            in_time = tt;
            no_spare = spareless_fold A t (number_of before) stage;
          },
          refl,
          refl,
        ),
        (
          record { world = behind A t (number_of before) middle act new; stage = next; answer = answer },
          (
            made A t (number_of before) middle stage act next new step moves,
            moves,
            founded,
            refl,
          ),
          refl,
        ),
      ),
    )
turn_asked L A t bytes answer before after w new stage next (StrayedTurn same kept strays barred) = (
  w,
  Strayed ∷ [],
  sym same,
  refl,
  refl,
  (record { world = w; stage = next; answer = answer }, (refl, barred, strays, refl), refl),
)
