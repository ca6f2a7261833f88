-- What a negotiation keeps between two pieces of the client's bytes, and what that stands for.
use Rattle.std.specs.Prelude.{◌≡◌, ◌≢◌, ℕ, ◌+◌, ◌-◌, ◌<◌, nat_lt, if◌then◌else◌, List, [], ◌++◌, length, drop, Option, None, Some}
use Rattle.byteorder.specs.Endian.{big_number}
use Rattle.fa_nego_head.specs.Heads.{IsPart}
use Rattle.fa_nego.specs.Negotiation.{Turn, Opens, Negotiates}
use Rattle.fa_nego.specs.declared.step.Step.{Step}
use Rattle.fa_nego.specs.declared.step.Step.TheVariants.{More, Go, Aborted, Closed}
use Rattle.fa_nego.specs.declared.step.CloseCause.{CloseCause}

-- Which item of the client comes next: its flags, an option after these flags, or none, since it is over.
-- What has come of the item is held.
pub data Stage : Type 0 where
  Flags : (held : List ℕ) → Stage
  Options : (flags : ℕ) (held : List ℕ) → Stage
  Over : (next : Step) → Stage

pub record NegoState : Type 0 where
  pub export : List ℕ
  pub size : ℕ
  pub stage : Stage

-- a negotiation that has heard nothing
abbrev pub new_state : List ℕ → ℕ → NegoState
new_state export size = record { export = export; size = size; stage = Flags [] }

-- how the negotiation stands
abbrev pub step_of : Stage → Step
step_of (Flags held) = More
step_of (Options flags held) = More
step_of (Over next) = next

-- why it was closed, if it was
abbrev pub cause_of : Step → Option CloseCause
cause_of More = None
cause_of Go = None
cause_of Aborted = None
cause_of (Closed cause) = Some cause

-- how many bytes the item that comes needs before it can be judged: four of flags, 16 of an option, and
-- then as many as those say
abbrev pub wanted : Stage → ℕ
wanted (Flags held) = 4 - length held
wanted (Options flags held) =
    if nat_lt (length held) 16 then 16 - length held else 16 + big_number 4 (drop 12 held) - length held
wanted (Over next) = 0

-- A negotiation that has heard and said these bytes is at this stage.
abbrev pub IsAt : NegoState → List ℕ → List ℕ → Type 0
IsAt state heard said = Stands state.export state.size state.stage heard said
  where
    Stands : List ℕ → ℕ → Stage → List ℕ → List ℕ → Type 0
    Stands export size (Flags held) heard said = (length held < 4) × (heard ≡ held) × (said ≡ [])
    Stands export size (Options flags held) heard said =
        (turns : List Turn) × (front : List ℕ) × Opens export size flags turns front said × IsPart held × (heard ≡ front ++ held)
    Stands export size (Over next) heard said = (next ≢ More) × Negotiates export size heard said next
