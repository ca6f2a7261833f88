-- How a request goes on over the array's world while nobody else writes: its own events, what it prepares without one, and what else
-- happens meanwhile.
use Rattle.std.specs.Prelude.{◌≡◌, ℕ, IsTrue, List, [], ◌∷◌, Option, Some, None, Ok}
use Rattle.fa_solo_laws.specs.Unwritten.{EndsNoBatch, WritesNothing}
use Rattle.fa_machine.specs.Run.{Happening, Event, Happens, HappensEvent}
use Rattle.fa_machine.specs.Step.{Act, Abandon, Commit, Fold, Release, Reserve, ReserveFewer, ReserveHole, SpareIn}
use Rattle.fa_machine.specs.World.{World}
use Rattle.fa_shared_lock.specs.Founded.{IsBarred, IsFounded}
use Rattle.fa_shared_lock.specs.Moves.{Moves, Strays}
use Rattle.fa_shared_request.specs.Ops.{Prepares}
use Rattle.fa_shared_request.specs.Waiting.{HasNoWindow, waits, without_room}
use Rattle.fa_shared_steps.specs.declared.request.Task.{Task}
use Rattle.fa_shared_steps.specs.declared.stage.Purpose.{Purpose}
use Rattle.fa_shared_steps.specs.declared.stage.Purpose.TheVariants.{Answer, Merge}
use Rattle.fa_shared_steps.specs.declared.stage.Stage.{Stage}
use Rattle.fa_shared_steps.specs.declared.stage.Stage.TheVariants.{Listing, Asking, Reading, Leaving, Sorting, Filling, Reserving}
use Rattle.fa_shared_steps.specs.declared.stage.Stage.TheVariants.{Committing, Abandoning, Releasing, Flushing}
use Rattle.fa_types.specs.declared.blocks.BlockFault.{BlockFault}

-- the array's world, how far the request is, and its answer so far
pub record Moment (A : Type 0) : Type 0 where
  pub world : World
  pub stage : Stage A
  pub answer : List ℕ

pub data Turn : Type 0 where
  -- the request makes this event
  Makes : (act : Act) → Turn
  -- it prepares what wants no event
  Readies : Turn
  -- it makes no event, as a condition of its event does not hold
  Strayed : Turn
  -- it wants room and is refused so, as no window is to be had
  GivesUp : (fault : BlockFault) → Turn
  -- something else happens
  Meanwhile : (happening : Happening) → Turn

-- the event is none of what is done under the claim
abbrev pub LeavesClaim : ℕ → Happening → Type 0
LeavesClaim claim (Event (Release c)) = c ≡ claim → ⊥
LeavesClaim claim (Event (Reserve c payload answer)) = c ≡ claim → ⊥
LeavesClaim claim (Event (ReserveHole c answer)) = c ≡ claim → ⊥
LeavesClaim claim (Event (ReserveFewer c payload answer)) = c ≡ claim → ⊥
LeavesClaim claim (Event (Commit c seat answer)) = c ≡ claim → ⊥
LeavesClaim claim (Event (Abandon c answer)) = c ≡ claim → ⊥
LeavesClaim claim happening = Unit {0}

-- what is said of a batch or claim, where there is one
abbrev pub OfOne : (ℕ → Happening → Type 0) → Option ℕ → Happening → Type 0
OfOne says None happening = Unit {0}
OfOne says (Some id) happening = says id happening

-- no spare is brought in
abbrev pub IsNoSpare : Happening → Type 0
IsNoSpare (Event (SpareIn die (Ok made))) = ⊥
IsNoSpare happening = Unit {0}

abbrev pub claim_for : Purpose → Option ℕ
claim_for (Answer page) = None
claim_for (Merge held) = Some held.claim.0

module _ {A : Type 0} where
  -- the claim and the batch that a request has at each stage
  abbrev pub claim_at : Stage A → Option ℕ
  claim_at (Listing purpose) = claim_for purpose
  claim_at (Asking purpose pages) = claim_for purpose
  claim_at (Reading purpose batch) = claim_for purpose
  claim_at (Leaving purpose batch fault) = claim_for purpose
  claim_at (Sorting purpose answers) = claim_for purpose
  claim_at (Filling held fewer) = Some held.claim.0
  claim_at (Reserving held wish) = Some held.claim.0
  claim_at (Committing held wish) = Some held.claim.0
  claim_at (Abandoning held wish) = Some held.claim.0
  claim_at (Releasing held fault) = Some held.claim.0
  claim_at stage = None

  abbrev pub batch_at : Stage A → Option ℕ
  batch_at (Reading purpose batch) = Some batch.0
  batch_at (Leaving purpose batch fault) = Some batch.0
  batch_at stage = None

  -- Something else than a Fold happens only where the request may have to wait.
  abbrev pub IsInTime : Stage A → Happening → Type 0
  IsInTime stage (Event Fold) = Unit {0}
  IsInTime stage happening = IsTrue (waits stage)

  -- no spare is brought in while a flush is waited for
  abbrev pub BringsNoSpare : Stage A → Happening → Type 0
  BringsNoSpare (Flushing flush) happening = IsNoSpare happening
  BringsNoSpare stage happening = Unit {0}

  -- What happens is none of the request's: nothing is written, and its batch and its claim are left alone.
  pub record IsAnothers (stage : Stage A) (happening : Happening) : Type 0 where
    pub writes_nothing : WritesNothing happening
    pub batch : OfOne EndsNoBatch (batch_at stage) happening
    pub claim : OfOne LeavesClaim (claim_at stage) happening
    pub in_time : IsInTime stage happening
    pub no_spare : BringsNoSpare stage happening

  -- One turn of what becomes of a request with this seat and these bytes.
  abbrev pub TurnsTo : Task → ℕ → List ℕ → Moment A → Turn → Moment A → Type 0
  TurnsTo t seat bytes before (Makes act) after =
      HappensEvent before.world act after.world × Moves t seat before.stage act after.stage
      × IsFounded before.world.core before.stage act after.stage × (after.answer ≡ before.answer)
  TurnsTo t seat bytes before Readies after =
      (after.world ≡ before.world) × Prepares t bytes before.stage before.answer after.stage after.answer
  TurnsTo t seat bytes before Strayed after =
      (after.world ≡ before.world) × IsBarred before.world.core before.stage × Strays before.world.core before.stage after.stage
      × (after.answer ≡ before.answer)
  TurnsTo t seat bytes before (GivesUp fault) after =
      (after.world ≡ before.world) × HasNoWindow before.world.core fault × (after.stage ≡ without_room fault before.stage)
      × (after.answer ≡ before.answer)
  TurnsTo t seat bytes before (Meanwhile happening) after =
      Happens before.world happening after.world × IsAnothers before.stage happening × (after.stage ≡ before.stage)
      × (after.answer ≡ before.answer)

  -- What becomes of a request, turn by turn.
  abbrev pub Asked : Task → ℕ → List ℕ → Moment A → List Turn → Moment A → Type 0
  Asked t seat bytes before [] after = after ≡ before
  Asked t seat bytes before (turn ∷ turns) after =
      (middle : Moment A) × TurnsTo t seat bytes before turn middle × Asked t seat bytes middle turns after

-- the events and image calls among some turns
abbrev pub happenings_of : List Turn → List Happening
happenings_of [] = []
happenings_of (Makes act ∷ turns) = Event act ∷ happenings_of turns
happenings_of (Meanwhile happening ∷ turns) = happening ∷ happenings_of turns
happenings_of (turn ∷ turns) = happenings_of turns
