-- One call of each die of a mask, the dies rising, up to the first that refuses.
use Rattle.std.specs.Prelude.{◌≡◌, ℕ, ◌==◌, ◌&&◌, nat_lt, Bool, true, false, if◌then◌else◌, List, Some, Result, Ok, Err, length}
use Rattle.std.specs.Prelude.{slice_get, slice_set}
use Rattle.fa_mount_headers.specs.declared.judging.Standing.{Standing}
use Rattle.fa_mount_headers.specs.Rules.{is_in}
use Rattle.fa_image.specs.Image.{ImageCall, ImageAnswer, Done, Refused}
use Rattle.fa_image.specs.declared.fault.ImageFault.{ImageFault}
use Rattle.fa_mount.specs.Standings.{place_on}
use Rattle.fa_types.specs.declared.numbers.Die.{Die}

-- The image of each die has changed as is said of that die, and all others are as they were.
pub record ByDie {I : Type 0} (dies : List Standing) (changed : ℕ → I → I → Type 0) (before after : List I) : Type 0 where
  pub as_many : length after ≡ length before
  pub each : (die index : ℕ) (x y : I) → place_on dies die ≡ Some index → slice_get before index ≡ Some x → slice_get after index ≡ Some y
      → changed die x y
  pub others : (index : ℕ) → ((die : ℕ) → place_on dies die ≡ Some index → ⊥) → slice_get after index ≡ slice_get before index

-- whether a call was made of a die, and how it ended
pub data Went : Type 0 where
  NotMade : Went
  WasAccepted : Went
  WasRefused : Went

abbrev pub is_accepted : Went → Bool
is_accepted WasAccepted = true
is_accepted went = false

-- the answer to a call that gives no bytes
abbrev pub answer_of : Result (Unit {0}) ImageFault → ImageAnswer
answer_of (Ok done) = Done
answer_of (Err fault) = Refused fault

-- of the dies of a mask each was called
abbrev pub each_called : ℕ → ℕ → Went
each_called mask die = if is_in mask die then WasAccepted else NotMade

-- of the dies of a mask those below one were called
abbrev pub called_below : ℕ → ℕ → ℕ → Went
called_below mask end die = if is_in mask die && nat_lt die end then WasAccepted else NotMade

-- the same, and that one refused
abbrev pub called_to : ℕ → ℕ → ℕ → Went
called_to mask end die = if die == end then WasRefused else called_below mask end die

-- how far the calls of the dies of a mask went, where the error is the die that refused
abbrev pub called : ℕ → Result (Unit {0}) Die → ℕ → Went
called mask (Ok done) = each_called mask
called mask (Err die) = called_to mask die.0

module _ {I : Type 0} (made : I → ImageCall → ImageAnswer → I → Type 0) where
  -- the call of an image, if it was made
  abbrev pub Makes : ImageCall → Went → I → I → Type 0
  Makes call NotMade before after = after ≡ before
  Makes call WasAccepted before after = made before call Done after
  Makes call WasRefused before after = (fault : ImageFault) × made before call (Refused fault) after

  -- the call of each die went so far
  abbrev pub AreMade : List Standing → (ℕ → ImageCall) → (ℕ → Went) → List I → List I → Type 0
  AreMade dies call went = ByDie dies (λ die. Makes (call die) (went die))

  -- The image of one die was called, and all others are as they were.
  pub record CallsDie (dies : List Standing) (die : ℕ) (call : ImageCall) (answer : ImageAnswer) (before after : List I) : Type 0 where
    pub index : ℕ
    pub place : place_on dies die ≡ Some index
    pub image : I
    pub at : slice_get before index ≡ Some image
    pub result : I
    pub link : made image call answer result
    pub rest : after ≡ slice_set before index result
