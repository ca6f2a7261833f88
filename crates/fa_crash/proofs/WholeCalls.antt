-- A call of an image that writes whole is one in the world as well.
use Rattle.fa_crash.specs.Whole.{IsLeft, IsWholeCall}
use Rattle.fa_crash.specs.Images.{WriteWhole}
use Rattle.fa_image.specs.Image.{Done, Erasing, Gave as GaveBytes, ImageAnswer, ImageCall, ImageMeets, ImageState, Programming, Refused as RefusedBy, slot_at}
use Rattle.fa_image.specs.Untouched.{block_fits}
use Rattle.fa_image.specs.declared.fault.ImageFault.{ImageFault}
use Rattle.fa_jobs.specs.Made.{IsGivenBy, IsMadeBy}
use Rattle.fa_machine.specs.Cells.{Broken, Cell, Empty, Sealed}
use Rattle.fa_machine.specs.Collecting.{is_in_block}
use Rattle.fa_machine.specs.State.{MapState}
use Rattle.fa_machine.specs.World.{Accepted, DieImage, ErasesBlock, Gave, GaveCell, JobCall, ProgramsSlot, ReadsSlot, Refused, Syncs, WritesHeader}
use Rattle.fa_machine.specs.declared.places.Version.{Version}
use Rattle.fa_mount_close_laws.proofs.OneCall.{IsWritable}
use Rattle.fa_mount_scan.proofs.Cells.{one_cell}
use Rattle.fa_mount_scan.specs.ContentCells.{IsCellOf, tag_of}
use Rattle.fa_tag.specs.SlotGrammar.{slot_2}
use Rattle.fa_types.specs.declared.geometry.Geometry.{Geometry}
use Rattle.std.proofs.Common.{Bool, List, Some, ap, arith, eqb-true, inl, inr, refl, subst, sym, true, ℕ, ◌*◌, ◌+◌, ◌/◌, ◌<◌, ◌≡◌}
use Rattle.std.proofs.Math.Nat.{lt-div-mul-add}

-- a slot of a block lies on the die
inside_block : (g : Geometry) (block slot : ℕ) → block < g.blocks → slot / g.slots ≡ block → slot < g.blocks * g.slots
inside_block g block slot low same =
    let least = g.within.slots_fit.0 in
    let some : 0 < g.slots = omega (arith, least) in
    let up : slot < slot / g.slots * g.slots + g.slots = lt-div-mul-add some in
    let at : slot / g.slots * g.slots ≡ block * g.slots = ap (λ n. n * g.slots) same in
    let room = block_fits block g.slots g.blocks low in
    omega (arith, up, at, room)

module _ {I : Type 0} (view : I → ImageState) (honest : I → Bool) (made : I → ImageCall → ImageAnswer → I → Type 0)
    (meets : (before after : I) (call : ImageCall) (answer : ImageAnswer) → made before call answer after
    → ImageMeets (view before) (honest before) call answer (view after) (honest after)) (writes : WriteWhole view made) (m : MapState) (array : List ℕ)
    (die : ℕ) (before after : I) (shape : (view before).geometry ≡ m.geometry) (was is : DieImage)
    (cells : (slot : ℕ) → slot < m.geometry.blocks * m.geometry.slots → IsCellOf (slot_at slot (view before)) (was.seen slot))
    (then : (slot : ℕ) → slot < m.geometry.blocks * m.geometry.slots → IsCellOf (slot_at slot (view after)) (is.seen slot)) where
  -- a slot with the bytes that stood there has the cell that it had
  same_cell : (slot : ℕ) → slot < m.geometry.blocks * m.geometry.slots → slot_at slot (view after) ≡ slot_at slot (view before)
      → is.seen slot ≡ was.seen slot
  same_cell slot inside same =
      one_cell (slot_at slot (view before)) (is.seen slot) (was.seen slot)
      (subst (λ (b : List ℕ). IsCellOf b (is.seen slot)) same (then slot inside)) (cells slot inside)

  now_cell : (slot : ℕ) → slot < m.geometry.blocks * m.geometry.slots → (cell : Cell) → IsCellOf (slot_at slot (view after)) cell
      → is.seen slot ≡ cell
  now_cell slot inside cell = one_cell (slot_at slot (view after)) (is.seen slot) cell (then slot inside)

  programmed : (slot page s d : ℕ) (version : Version) (payload : List ℕ) (call : ImageCall) (fault : ImageFault)
      → call ≡ Programming slot (slot_2 (tag_of page version d s) payload) → made before call (RefusedBy fault) after
      → IsWritable (ProgramsSlot slot (Sealed page version d s payload)) → IsLeft (was.seen slot) (Sealed page version d s payload) (is.seen slot)
  programmed slot page s d version payload call fault is_it link may =
      let bytes = slot_2 (tag_of page version d s) payload in
      let made_so = subst (λ (c : ImageCall). made before c (RefusedBy fault) after) is_it link in
      let met = meets before after (Programming slot bytes) (RefusedBy fault) made_so in
      let inside : slot < m.geometry.blocks * m.geometry.slots = subst (λ (g : Geometry). slot < g.blocks * g.slots) shape met.allowed.0 in
      elim (writes.programs before after slot bytes fault made_so) [
        | inl old ↦ inl (same_cell slot inside old)
        | inr (inl asked) ↦ inr (inl (now_cell slot inside (Sealed page version d s payload)
            (subst (λ (b : List ℕ). IsCellOf b (Sealed page version d s payload)) (sym asked) (may.0, may.1, inl refl))))
        | inr (inr broken) ↦ inr (inr (now_cell slot inside Broken broken))
      ]

  erased : (block slot : ℕ) (call : ImageCall) (fault : ImageFault) → call ≡ Erasing block → made before call (RefusedBy fault) after
      → is_in_block m block slot ≡ true → IsLeft (was.seen slot) Empty (is.seen slot)
  erased block slot call fault is_it link named =
      let made_so = subst (λ (c : ImageCall). made before c (RefusedBy fault) after) is_it link in
      let met = meets before after (Erasing block) (RefusedBy fault) made_so in
      let low : block < m.geometry.blocks = subst (λ (g : Geometry). block < g.blocks) shape met.allowed in
      let at = eqb-true (slot / m.geometry.slots) block named in
      let inside = inside_block m.geometry block slot low at in
      elim (writes.erases before after block slot fault made_so
      (subst (λ (g : Geometry). slot / g.slots ≡ block) (sym shape) at)
      (subst (λ (g : Geometry). slot < g.blocks * g.slots) (sym shape) inside)) [
        | inl old ↦ inl (same_cell slot inside old)
        | inr (inl empty) ↦ inr (inl (now_cell slot inside Empty empty))
        | inr (inr broken) ↦ inr (inr (now_cell slot inside Broken broken))
      ]

  -- each call is whole
  pub call_whole : (call : JobCall) (gave : Gave) (image_call : ImageCall) (answer : ImageAnswer) → IsMadeBy m.geometry array die call image_call
      → IsGivenBy gave answer → made before image_call answer after → IsWritable call → (gave ≡ Refused → is.header ≡ was.header)
      → IsWholeCall (is_in_block m) (Some call) gave was is
  call_whole (ProgramsSlot slot (Sealed page version d s payload)) Refused call (RefusedBy fault) made_by given link may kept =
      programmed slot page s d version payload call fault made_by link may
  call_whole (ErasesBlock block) Refused call (RefusedBy fault) made_by given link may kept =
      λ slot named. erased block slot call fault made_by link named
  call_whole (WritesHeader epoch live) Refused call answer made_by given link may kept = inl (kept refl)
  call_whole (ProgramsSlot slot Empty) gave call answer made_by given link may kept = absurd made_by
  call_whole (ProgramsSlot slot Broken) gave call answer made_by given link may kept = absurd made_by
  call_whole (ProgramsSlot slot (Sealed page version d s payload)) Refused call Done made_by given link may kept = absurd given
  call_whole (ProgramsSlot slot (Sealed page version d s payload)) Refused call (GaveBytes bytes) made_by given link may kept = absurd given
  call_whole (ErasesBlock block) Refused call Done made_by given link may kept = absurd given
  call_whole (ErasesBlock block) Refused call (GaveBytes bytes) made_by given link may kept = absurd given
  call_whole (ReadsSlot slot) gave call answer made_by given link may kept = tt
  call_whole (ProgramsSlot slot (Sealed page version d s payload)) Accepted call answer made_by given link may kept = tt
  call_whole (ProgramsSlot slot (Sealed page version d s payload)) (GaveCell cell) call answer made_by given link may kept = tt
  call_whole (ErasesBlock block) Accepted call answer made_by given link may kept = tt
  call_whole (ErasesBlock block) (GaveCell cell) call answer made_by given link may kept = tt
  call_whole (WritesHeader epoch live) Accepted call answer made_by given link may kept = tt
  call_whole (WritesHeader epoch live) (GaveCell cell) call answer made_by given link may kept = tt
  call_whole Syncs gave call answer made_by given link may kept = tt

-- and so is one that was not made
pub unmade_whole : (m : MapState) (call : JobCall) (gave : Gave) (was is : DieImage) → ((slot : ℕ) → is.seen slot ≡ was.seen slot)
    → is.header ≡ was.header → IsWholeCall (is_in_block m) (Some call) gave was is
unmade_whole m (ProgramsSlot slot cell) Refused was is seen header = inl (seen slot)
unmade_whole m (ErasesBlock block) Refused was is seen header = λ slot named. inl (seen slot)
unmade_whole m (WritesHeader epoch live) Refused was is seen header = inl header
unmade_whole m (ReadsSlot slot) gave was is seen header = tt
unmade_whole m (ProgramsSlot slot cell) Accepted was is seen header = tt
unmade_whole m (ProgramsSlot slot cell) (GaveCell given) was is seen header = tt
unmade_whole m (ErasesBlock block) Accepted was is seen header = tt
unmade_whole m (ErasesBlock block) (GaveCell given) was is seen header = tt
unmade_whole m (WritesHeader epoch live) Accepted was is seen header = tt
unmade_whole m (WritesHeader epoch live) (GaveCell given) was is seen header = tt
unmade_whole m Syncs gave was is seen header = tt
