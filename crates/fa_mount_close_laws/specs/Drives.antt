-- What drives an array over the images of its dies: its events, and the calls of the jobs that its dies have taken. They come in any
-- order, also between two calls of one job.
use Rattle.std.specs.Prelude.{◌≡◌, ℕ, ◌++◌, List, [], ◌∷◌, Option, Some, None, Ok, Contains, IsTrue, Bool, option_and_then}
use Rattle.std.specs.FinMap.{get}
use Rattle.fa_image.specs.Image.{ImageAnswer, ImageCall, ImageState}
use Rattle.fa_machine.specs.Cells.{DidRead, Outcome, payload_of}
use Rattle.fa_machine.specs.Run.{Event, Happening, ImageCall as CallsImage}
use Rattle.fa_machine.specs.State.{Core}
use Rattle.fa_machine.specs.Step.{Act, Admit, Done, ReserveCopy, Step, Take}
use Rattle.fa_machine.specs.World.{Gave, JobCall, Refused, Told, Work, World, next_call, outcome_of, told_at_once, with_value}
use Rattle.fa_machine.specs.declared.jobs.Flight.{Flight}
use Rattle.fa_machine.specs.declared.jobs.Flight.TheVariants.{Read}
use Rattle.fa_mount_close_laws.specs.Images.{IsImageOf}
use Rattle.fa_core_outcome.specs.Fits.{IsJobFor}
use Rattle.fa_jobs.specs.Made.{MakesCall as MakesJobCall}

-- What there is while an array runs: its state, the images of dies that have one, the job in flight of each die with what its calls
-- gave so far, and what reads have answered.
pub record Driven (I : Type 0) : Type 0 where
  pub core : Core
  pub images : ℕ → Option I
  pub works : ℕ → Option Work
  pub told : List Told

-- an array with nothing under way
abbrev pub beginning : {I : Type 0} → Core → (ℕ → Option I) → Driven I
beginning core images = record { core = core; images = images; works = λ die. None; told = [] }

-- what a read answers that gave these bytes of a page, or none
abbrev pub told_of : ℕ → ℕ → Option (List ℕ) → List Told
told_of page seq None = []
told_of page seq (Some bytes) = (record { page = page; seq = seq; bytes = bytes }) ∷ []

abbrev pub told_at_end : ℕ → Option Flight → Outcome → List Told
told_at_end die (Some (Read batch page version slot)) (DidRead cell) =
    told_of page.0 version.seq.0 (payload_of page.0 version die slot.0 cell)
told_at_end die flight outcome = []

-- what an event answers: the pages that a batch answers as it is admitted, and the page that a read gave
abbrev pub told_by : Core → Act → List Told
told_by core (Admit pages (Ok admitted)) = told_at_once core pages
told_by core (Done die outcome) = told_at_end die (get core.jobs die) outcome
told_by core act = []

-- the jobs in flight after an event
abbrev pub works_after : Act → (ℕ → Option Work) → ℕ → Option Work
works_after (Take die seat (Some job)) works = with_value die (Some (record { job = job; gave = [] })) works
works_after (Done die outcome) works = with_value die None works
works_after act works = works

-- What an event owes to what was before it: a Done tells the outcome that its job's calls gave, and one more copy that is reserved has
-- bytes that a read has answered for the page with this number.
abbrev pub IsOwed : {I : Type 0} → Driven I → Act → Type 0
IsOwed old (Done die outcome) =
    option_and_then (λ work. outcome_of die work.job work.gave) (old.works die) ≡ Some outcome
IsOwed old (ReserveCopy page seq payload (Ok done)) = Contains old.told (record { page = page; seq = seq; bytes = payload })
IsOwed old act = Unit {0}

-- an event of the array
pub record HasEvent {I : Type 0} (old : Driven I) (act : Act) (new : Driven I) : Type 0 where
  pub step : Step old.core act new.core
  pub owed : IsOwed old act
  pub follows : new ≡ record old { core = new.core; works = works_after act old.works; told = old.told ++ told_by old.core act }

-- A die has this job in flight, and this is the job's next call.
pub record HasNext {I : Type 0} (old : Driven I) (die : ℕ) (work : Work) (call : JobCall) : Type 0 where
  pub works : old.works die ≡ Some work
  pub next : next_call die work.job work.gave ≡ Some call

-- The next call of a die's job was made, on the die's image.
pub record MakesNext {I : Type 0} (made : I → ImageCall → ImageAnswer → I → Type 0) (array : List ℕ) (old : Driven I) (die : ℕ)
    (new : Driven I) : Type 0 where
  pub work : Work
  pub call : JobCall
  pub gave : Gave
  pub before : I
  pub after : I
  pub has : HasNext old die work call
  pub fits : IsJobFor old.core.page_map.geometry array die work.job
  pub image : old.images die ≡ Some before
  pub makes : MakesJobCall made old.core.page_map.geometry array die call gave before after
  pub follows : new ≡ record old {
    images = with_value die (Some after) old.images;
    works = with_value die (Some (record work { gave = work.gave ++ gave ∷ [] })) old.works;
  }

-- The next call of a die's job was refused and not made, as where the die has no image.
pub record RefusesNext {I : Type 0} (old : Driven I) (die : ℕ) (new : Driven I) : Type 0 where
  pub work : Work
  pub call : JobCall
  pub has : HasNext old die work call
  pub follows : new ≡ record old { works = with_value die (Some (record work { gave = work.gave ++ Refused ∷ [] })) old.works }

-- an event of the array, or the next call of a die's job, made or refused
pub data Drive : Type 0 where
  MakesEvent : (act : Act) → Drive
  MakesCall : (die : ℕ) → Drive
  RefusesCall : (die : ℕ) → Drive

module _ {I : Type 0} (made : I → ImageCall → ImageAnswer → I → Type 0) (array : List ℕ) where
  abbrev pub Makes : Driven I → Drive → Driven I → Type 0
  Makes old (MakesEvent act) new = HasEvent old act new
  Makes old (MakesCall die) new = MakesNext made array old die new
  Makes old (RefusesCall die) new = RefusesNext old die new

  -- one of these after the other
  abbrev pub Drives : Driven I → List Drive → Driven I → Type 0
  Drives old [] new = new ≡ old
  Drives old (drive ∷ drives) new = (middle : Driven I) × Makes old drive middle × Drives middle drives new

-- the events among them
abbrev pub acts_of : List Drive → List Act
acts_of [] = []
acts_of (MakesEvent act ∷ drives) = act ∷ acts_of drives
acts_of (MakesCall die ∷ drives) = acts_of drives
acts_of (RefusesCall die ∷ drives) = acts_of drives

-- the events of a run
abbrev pub events_of : List Happening → List Act
events_of [] = []
events_of (Event act ∷ happenings) = act ∷ events_of happenings
events_of (CallsImage die gave ∷ happenings) = events_of happenings

-- A die's image and what its job's calls gave are these now, and nothing else has changed.
pub record OnlyMade {I : Type 0} (old : Driven I) (die : ℕ) (work : Work) (after : I) (new : Driven I) : Type 0 where
  pub image : new.images die ≡ Some after
  pub works : new.works die ≡ Some work
  pub other_images : (d : ℕ) → ¬ (d ≡ die) → new.images d ≡ old.images d
  pub other_works : (d : ℕ) → ¬ (d ≡ die) → new.works d ≡ old.works d
  pub rest : new ≡ record old { images = new.images; works = new.works }

-- each of the images is one of the world
abbrev pub AreImages : {I : Type 0} → (I → ImageState) → World → (ℕ → Option I) → Type 0
AreImages view w images = (die : ℕ) (image : _) → images die ≡ Some image → IsImageOf view w die image

-- each of the images has returned what was written
abbrev pub AreHonest : {I : Type 0} → (I → Bool) → (ℕ → Option I) → Type 0
AreHonest honest images = (die : ℕ) (image : _) → images die ≡ Some image → IsTrue (honest image)
