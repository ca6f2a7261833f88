-- What the parts of a negotiation do with the bytes of one item.
use Rattle.std.specs.Prelude.{◌≡◌, ◌≢◌, ℕ, ◌^◌, ◌<◌, ◌≤◌, ◌⊎◌, List, [], ◌++◌, length, Option, None, Some}
use Rattle.std.specs.List.{AllByRecursion}
use Rattle.fa_nego_head.specs.Heads.{head_bytes, max_data}
use Rattle.fa_nego.specs.Negotiation.{Turn, Opens, Negotiates, kinds_bytes}
use Rattle.fa_nego.specs.declared.step.Step.TheVariants.{More}
use Rattle.fa_nego.specs.NegoState.{Stage, Flags, Options, Over, NegoState, IsAt}
use Rattle.fa_nego.specs.View.{stage_at}
use Rattle.fa_nego.specs.declared.phase.Phase.{Phase}

-- a negotiation about this export at this stage
abbrev pub state_at : List ℕ → ℕ → Stage → NegoState
state_at export size stage = record { export = export; size = size; stage = stage }

-- the bytes are those of these kinds of information
abbrev pub AreKinds : List ℕ → List ℕ → Type 0
AreKinds bytes kinds = AllByRecursion (λ kind. kind < 2 ^ 16) kinds × (kinds_bytes kinds ≡ bytes)

-- no more than a whole option
abbrev pub IsWithin : List ℕ → Type 0
IsWithin held =
    (length held ≤ 16)
    ⊎ ((option len : ℕ) × (more : List ℕ) × (option < 2 ^ 32) × (len ≤ max_data) × (length more ≤ len)
    × (held ≡ head_bytes option len ++ more))

-- A negotiation that has heard and said these bytes is at this stage, but what it holds may be a whole
-- item that is not yet judged.
abbrev pub IsHeldAt : List ℕ → ℕ → Stage → List ℕ → List ℕ → Type 0
IsHeldAt export size (Flags held) heard said = (length held ≤ 4) × (heard ≡ held) × (said ≡ [])
IsHeldAt export size (Options flags held) heard said =
    (turns : List Turn) × (front : List ℕ) × Opens export size flags turns front said × IsWithin held × (heard ≡ front ++ held)
IsHeldAt export size (Over next) heard said = (next ≢ More) × Negotiates export size heard said next

-- the stage after an item of a phase is judged: still its own where the item is not whole
abbrev pub stage_after : Phase → List ℕ → Option Phase → Stage
stage_after phase held None = stage_at phase held
stage_after phase held (Some next) = stage_at next []

-- From a stage whose item is not yet judged the server says these bytes and is at another stage.
abbrev pub Judges : List ℕ → ℕ → Stage → List ℕ → Stage → Type 0
Judges export size from out to =
    (heard said : List ℕ) → IsHeldAt export size from heard said → IsAt (state_at export size to) heard (said ++ out)

-- From a stage the server hears these bytes, says those, and is at another stage.
abbrev pub Hears : List ℕ → ℕ → Stage → List ℕ → List ℕ → Stage → Type 0
Hears export size from piece out to =
    (heard said : List ℕ) → IsAt (state_at export size from) heard said
    → IsAt (state_at export size to) (heard ++ piece) (said ++ out)
