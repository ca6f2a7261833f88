-- The calls that a job makes of its die's image, as the array's machine has them.
use Rattle.std.specs.Prelude.{◌≡◌, ℕ, List, [], ◌∷◌, ◌++◌, Some}
use Rattle.fa_core_outcome.specs.Outcomes.{cell_of, outcome_of as end_of}
use Rattle.fa_core_outcome.specs.declared.outcome.Outcome.{Outcome as JobOutcome}
use Rattle.fa_image.specs.Image.{ImageAnswer, ImageCall, Programming, ReadingSlot, Erasing, WritingHeader, Syncing}
use Rattle.fa_image.specs.Image.{Gave as GaveBytes, Done, Refused as RefusedBy}
use Rattle.fa_machine.specs.Cells.{Cell, Sealed, Outcome}
use Rattle.fa_machine.specs.Taking.{Handed}
use Rattle.fa_machine.specs.World.{JobCall, ReadsSlot, ProgramsSlot, ErasesBlock, WritesHeader, Syncs, Gave, GaveCell, Accepted}
use Rattle.fa_machine.specs.World.{Refused, next_call, outcome_of}
use Rattle.fa_machine.specs.declared.places.Version.{Version}
use Rattle.fa_tag.specs.HeaderGrammar.{header_bytes}
use Rattle.fa_tag.specs.SlotGrammar.{IsOpened, payload_of, slot_2}
use Rattle.fa_tag.specs.declared.tag.Opened.{Opened}
use Rattle.fa_core_outcome.specs.Fits.{header_of, tag_of}
use Rattle.fa_types.specs.declared.geometry.Geometry.{Geometry}

-- What bytes of a slot are to the machine. A slot that was sealed is its page, write and place with its payload.
abbrev pub IsSeen : List ℕ → Cell → Type 0
IsSeen bytes cell = (opened : Opened) × IsOpened bytes opened × (cell ≡ cell_of opened (payload_of bytes))

-- the image's call that a job's call is
abbrev pub IsMadeBy : Geometry → List ℕ → ℕ → JobCall → ImageCall → Type 0
IsMadeBy geometry array die (ReadsSlot slot) call = call ≡ ReadingSlot slot
IsMadeBy geometry array die (ProgramsSlot slot (Sealed page version d s payload)) call =
    call ≡ Programming slot (slot_2 (tag_of page version d s) payload)
IsMadeBy geometry array die (ProgramsSlot slot cell) call = ⊥
IsMadeBy geometry array die (ErasesBlock block) call = call ≡ Erasing block
IsMadeBy geometry array die (WritesHeader epoch live) call =
    call ≡ WritingHeader (header_bytes 2 (header_of geometry array die epoch live))
IsMadeBy geometry array die Syncs call = call ≡ Syncing

-- what the image's answer gave the job
abbrev pub IsGivenBy : Gave → ImageAnswer → Type 0
IsGivenBy (GaveCell cell) (GaveBytes bytes) = IsSeen bytes cell
IsGivenBy Accepted Done = Unit {0}
IsGivenBy Refused (RefusedBy fault) = Unit {0}
IsGivenBy gave answer = ⊥

module _ {I : Type 0} (made : I → ImageCall → ImageAnswer → I → Type 0) (geometry : Geometry) (array : List ℕ) (die : ℕ) where
  -- one call of a job, with what it gave
  pub record MakesCall (call : JobCall) (gave : Gave) (before after : I) : Type 0 where
    pub image_call : ImageCall
    pub answer : ImageAnswer
    pub is_it : IsMadeBy geometry array die call image_call
    pub given : IsGivenBy gave answer
    pub link : made before image_call answer after

  -- the calls of a job from what they gave so far, one after the other
  abbrev pub MakesCalls : Handed → List Gave → List Gave → I → I → Type 0
  MakesCalls job so_far [] before after = before ≡ after
  MakesCalls job so_far (gave ∷ rest) before after =
      (call : JobCall) × (next_call die job so_far ≡ Some call) × (middle : I) × MakesCall call gave before middle
      × MakesCalls job (so_far ++ gave ∷ []) rest middle after

  -- The job made its calls in their order, and the outcome is what they gave.
  pub record Ran (job : Handed) (outcome : Outcome) (before after : I) : Type 0 where
    pub gave : List Gave
    pub calls : MakesCalls job [] gave before after
    pub ends : outcome_of die job gave ≡ Some outcome

module _ {I : Type 0} (made : I → ImageCall → ImageAnswer → I → Type 0) (geometry : Geometry) (array : List ℕ) (die : ℕ) where
  -- The second call of a move, which programs the payload that its first call read, and how the move ends by it.
  pub record ProgramsMoved (page : ℕ) (version : Version) (to : ℕ) (payload : List ℕ) (outcome : JobOutcome) (before after : I) : Type 0 where
    pub gave : Gave
    pub call : MakesCall made geometry array die (ProgramsSlot to (Sealed page version die to payload)) gave before after
    pub ends : (cell : Cell) (job : Handed) (bytes : List ℕ) → outcome_of die job (GaveCell cell ∷ gave ∷ []) ≡ Some (end_of outcome bytes)
