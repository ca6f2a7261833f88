-- How the calls of a job become what it ran.
use Rattle.std.specs.Prelude.{◌≡◌, ℕ, ◌+◌, Bool, true, false, ◌==◌, ◌&&◌, cond, List, [], ◌∷◌, Some, None, is_some, length, take}
use Rattle.std.proofs.Common.{ap, arith, refl, subst, sym, ◌∙◌}
use Rattle.std.proofs.lemmas.Bool.{true≢false}
use Rattle.fa_core_outcome.specs.Outcomes.{cell_of}
use Rattle.fa_image.specs.Image.{ImageAnswer, ImageCall, IsAnswerTo, Refused as RefusedBy, fault_number, fault_of}
use Rattle.fa_image.specs.Image.{ReadingSlot, Programming, Erasing, ReadingHeader, WritingHeader, Syncing}
use Rattle.fa_image.specs.declared.fault.ImageFault.{ImageFault}
use Rattle.fa_machine.specs.Cells.{DidProgram, Outcome, Sealed, is_same_kind, moved_payload}
use Rattle.fa_machine.specs.Taking.{Handed}
use Rattle.fa_machine.specs.World.{Accepted, JobCall, Gave, ProgramsSlot, Syncs, next_call, outcome_of}
use Rattle.fa_machine.specs.declared.jobs.Flight.TheVariants.{Program}
use Rattle.fa_machine.specs.declared.places.Version.{Version}
use Rattle.fa_tag.specs.SlotGrammar.{IsOpened, IsPayloadOf, payload_of}
use Rattle.fa_tag.specs.declared.tag.Opened.{Opened}
use Rattle.fa_tag.specs.declared.tag.Opened.TheVariants.{Erased as OpenedErased, Good, Bad}
use Rattle.fa_types.specs.declared.geometry.Geometry.{Geometry}
use Rattle.fa_types.specs.declared.kind.Kind.{Kind}
use Rattle.fa_types.specs.declared.kind.Kind.TheVariants.{Data, Hole}
use Rattle.fa_types.specs.declared.numbers.Page.{Page}
use Rattle.fa_types.specs.declared.numbers.Slot.{Slot}
use Rattle.fa_jobs.specs.Made.{MakesCall, Ran}

module _ {I : Type 0} {made : I → ImageCall → ImageAnswer → I → Type 0} {geometry : Geometry} {array : List ℕ} {die : ℕ} where
  -- a job of one call
  pub ran_once : (job : Handed) (outcome : Outcome) (call : JobCall) (gave : Gave) (before after : I)
      → next_call die job [] ≡ Some call → MakesCall made geometry array die call gave before after
      → outcome_of die job (gave ∷ []) ≡ Some outcome → Ran made geometry array die job outcome before after
  ran_once job outcome call gave before after next makes ends =
      record { gave = gave ∷ []; calls = (call, next, after, makes, refl); ends = ends }

  -- a job of two
  pub ran_twice : (job : Handed) (outcome : Outcome) (first second : JobCall) (gave then : Gave) (before middle after : I)
      → next_call die job [] ≡ Some first → MakesCall made geometry array die first gave before middle
      → next_call die job (gave ∷ []) ≡ Some second → MakesCall made geometry array die second then middle after
      → outcome_of die job (gave ∷ then ∷ []) ≡ Some outcome → Ran made geometry array die job outcome before after
  ran_twice job outcome first second gave then before middle after next makes next_too makes_too ends =
      record { gave = gave ∷ then ∷ []; calls = (first, next, middle, makes, (second, next_too, after, makes_too, refl)); ends = ends }

  -- a lasting program that was programmed, and its sync
  pub ran_lasting : (page : Page) (version : Version) (slot : Slot) (payload : List ℕ) (lasting : Bool) (outcome : Outcome) (then : Gave)
      (before middle after : I) → lasting ≡ true
      → MakesCall made geometry array die (ProgramsSlot slot.0 (Sealed page.0 version die slot.0 payload)) Accepted before middle
      → MakesCall made geometry array die Syncs then middle after
      → outcome_of die (record { flight = Program page version slot; payload = payload; lasting = true }) (Accepted ∷ then ∷ []) ≡ Some outcome
      → Ran made geometry array die (record { flight = Program page version slot; payload = payload; lasting = lasting }) outcome before after
  ran_lasting page version slot payload lasting outcome then before middle after is programs syncs ends =
      subst (λ (b : Bool). Ran made geometry array die (record { flight = Program page version slot; payload = payload; lasting = b }) outcome before after)
      (sym is)
      (ran_twice (record { flight = Program page version slot; payload = payload; lasting = true }) outcome
      (ProgramsSlot slot.0 (Sealed page.0 version die slot.0 payload)) Syncs Accepted then before middle after refl programs refl syncs ends)

  -- any other program that was programmed
  pub ran_program : (page : Page) (version : Version) (slot : Slot) (payload : List ℕ) (lasting : Bool) (before after : I) → lasting ≡ false
      → MakesCall made geometry array die (ProgramsSlot slot.0 (Sealed page.0 version die slot.0 payload)) Accepted before after
      → Ran made geometry array die (record { flight = Program page version slot; payload = payload; lasting = lasting }) DidProgram before after
  ran_program page version slot payload lasting before after is programs =
      subst (λ (b : Bool). Ran made geometry array die (record { flight = Program page version slot; payload = payload; lasting = b }) DidProgram before after)
      (sym is)
      (ran_once (record { flight = Program page version slot; payload = payload; lasting = false }) DidProgram
      (ProgramsSlot slot.0 (Sealed page.0 version die slot.0 payload)) Accepted before after refl programs refl)

-- the fault that a refused call answers is the call's own
pub refused_by : (call : ImageCall) (fault : ImageFault) (geometry : Geometry) → IsAnswerTo geometry call (RefusedBy fault)
    → fault_number fault ≡ fault_number (fault_of call)
refused_by (ReadingSlot slot) fault geometry is = ap fault_number is
refused_by (Programming slot bytes) fault geometry is = ap fault_number is
refused_by (Erasing block) fault geometry is = ap fault_number is
refused_by ReadingHeader fault geometry is = ap fault_number is
refused_by (WritingHeader bytes) fault geometry is = ap fault_number is
refused_by Syncing fault geometry is = ap fault_number is

-- the payload that was copied out of a slot's bytes
pub payload_read : (bytes payload : List ℕ) (n : ℕ) → length bytes ≡ n + 64 → payload ≡ take n bytes → payload ≡ payload_of bytes
payload_read bytes payload n sized copied = copied ∙ ap (λ k. take k bytes) (omega (arith, sized))

moved_by : (kinds places : Bool) (payload : List ℕ) → is_some (cond kinds (cond places (Some payload) None) None) ≡ true
    → cond kinds (cond places (Some payload) None) None ≡ Some payload
moved_by true true payload is = refl
moved_by true false payload is = absurd (true≢false (sym is))
moved_by false places payload is = absurd (true≢false (sym is))

-- A copy that may be moved has its payload, and its kind is the copy's.
pub moved_some : (page : ℕ) (version : Version) (die slot : ℕ) (opened : Opened) (payload : List ℕ)
    → is_some (moved_payload page version die slot (cell_of opened payload)) ≡ true
    → moved_payload page version die slot (cell_of opened payload) ≡ Some payload
moved_some page version die slot OpenedErased payload is = absurd (true≢false (sym is))
moved_some page version die slot Bad payload is = absurd (true≢false (sym is))
moved_some page version die slot (Good tag) payload is =
    moved_by (is_same_kind tag.kind version.kind)
    (tag.page.0 == page && tag.seq.0 == version.seq.0 && tag.die.0 == die && tag.slot.0 == slot) payload is

kind_kept : (kind wanted : Kind) (places : Bool) (payload : List ℕ) → IsPayloadOf kind payload
    → is_some (cond (is_same_kind kind wanted) (cond places (Some payload) None) None) ≡ true → IsPayloadOf wanted payload
kind_kept Data Data places payload fits is = fits
kind_kept Hole Hole places payload fits is = fits
kind_kept Data Hole places payload fits is = absurd (true≢false (sym is))
kind_kept Hole Data places payload fits is = absurd (true≢false (sym is))

pub moved_kind : (page : ℕ) (version : Version) (die slot : ℕ) (opened : Opened) (bytes : List ℕ) → IsOpened bytes opened
    → is_some (moved_payload page version die slot (cell_of opened (payload_of bytes))) ≡ true → IsPayloadOf version.kind (payload_of bytes)
moved_kind page version die slot OpenedErased bytes opened is = absurd (true≢false (sym is))
moved_kind page version die slot Bad bytes opened is = absurd (true≢false (sym is))
moved_kind page version die slot (Good tag) bytes (is_tag, is_payload, spelled) is =
    kind_kept tag.kind version.kind (tag.page.0 == page && tag.seq.0 == version.seq.0 && tag.die.0 == die && tag.slot.0 == slot)
    (payload_of bytes) is_payload is
