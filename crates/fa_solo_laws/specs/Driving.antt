-- How what the store of one thread has stands for what drives an array, and which of its events are like any other.
use Rattle.std.specs.Prelude.{◌≡◌, ◌⊎◌, ℕ, List, [], ◌∷◌, Option, Some, None, Ok, option_and_then, slice_get}
use Rattle.fa_mount_headers.specs.declared.judging.Standing.{Standing}
use Rattle.fa_machine.specs.Step.{Act, Admit, CommitCopy, Done, EndBatch, ReserveCopy, Take}
use Rattle.fa_mount.specs.Standings.{place_on}
use Rattle.fa_mount_close_laws.specs.Drives.{Driven}
use Rattle.fa_solo_job.specs.Deeds.{IsForDies}
use Rattle.fa_solo_job.specs.House.{House}

-- the image of a die
abbrev pub image_on : {I : Type 0} → List Standing → List I → ℕ → Option I
image_on dies images die = option_and_then (slice_get images) (place_on dies die)

-- The array and the images are those that are driven, and no job is in flight.
pub record StandsFor {I : Type 0} (dies : List Standing) (house : House I) (driven : Driven I) : Type 0 where
  pub core : driven.core ≡ house.core
  pub images : (die : ℕ) → driven.images die ≡ image_on dies house.images die
  pub works : (die : ℕ) → driven.works die ≡ None

-- An event that takes no job and ends none, and that gives no page one more copy.
abbrev pub IsPlain : Act → Type 0
IsPlain (Take die seat (Some job)) = ⊥
IsPlain (Done die outcome) = ⊥
IsPlain (ReserveCopy page seq payload (Ok done)) = ⊥
IsPlain act = Unit {0}

-- an event that is made while a thin page is read by a batch of its own
abbrev pub IsForRead : Act → Type 0
IsForRead (Admit (page ∷ []) answer) = Unit {0}
IsForRead (EndBatch batch answers) = Unit {0}
IsForRead act = IsForDies act

-- an event that is made while a copy is seen through
abbrev pub IsForCopy : Act → Type 0
IsForCopy (CommitCopy answer) = Unit {0}
IsForCopy act = IsForDies act

-- an event that takes a job, or ends one
abbrev pub IsOfJob : Act → Type 0
IsOfJob (Take die seat (Some job)) = Unit {0}
IsOfJob (Done die outcome) = Unit {0}
IsOfJob act = ⊥

-- one of these events, or one of a job
abbrev pub IsDeedOf : (Act → Type 0) → Act → Type 0
IsDeedOf P act = P act ⊎ IsOfJob act
