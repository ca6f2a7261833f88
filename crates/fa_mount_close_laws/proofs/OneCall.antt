-- One call of an image that a job makes, as the array's machine makes it.
use Rattle.fa_image.specs.Image.{Done, Erasing, Gave as GaveBytes, ImageAnswer, ImageCall, ImageMeets, ImageState, IsImage, Programming, ReadingSlot}
use Rattle.fa_image.specs.Image.{Refused as RefusedBy, Syncing, WritingHeader, erased_slot, slot_at, slot_bytes, with_written}
use Rattle.fa_image.specs.Slots.{inside, outside}
use Rattle.fa_machine.specs.Cells.{Broken, Cell, Empty, Sealed}
use Rattle.fa_machine.specs.Collecting.{is_in_block}
use Rattle.fa_machine.specs.State.{MapState}
use Rattle.fa_machine.specs.World.{Accepted, Calls, DieImage, ErasesBlock, Gave, GaveCell, JobCall, ProgramsSlot, ReadsSlot, Refused}
use Rattle.fa_machine.specs.World.{Syncs, WritesHeader, with_cell}
use Rattle.fa_mount_close_laws.proofs.AnyCell.{any_cell}
use Rattle.fa_mount_scan.proofs.Cells.{one_cell}
use Rattle.fa_mount_scan.specs.ContentCells.{IsCellOf, tag_of}
use Rattle.fa_core_outcome.specs.Outcomes.{cell_of}
use Rattle.fa_tag.specs.HeaderGrammar.{header_bytes}
use Rattle.fa_tag.specs.SlotGrammar.{IsErased, IsOpened, IsPayloadOf, IsTag, payload_of, slot_2}
use Rattle.fa_tag.specs.declared.tag.Opened.{Opened}
use Rattle.fa_tag.specs.declared.tag.Opened.TheVariants.{Bad, Erased, Good}
use Rattle.fa_core_outcome.specs.Fits.{header_of}
use Rattle.fa_types.specs.declared.geometry.Geometry.{Geometry}
use Rattle.fa_jobs.specs.Made.{IsGivenBy, IsMadeBy, IsSeen}
use Rattle.std.proofs.Common.{Bool, IsTrue, List, None, Some, [], ap, arith, false, inl, inr, length, refl, replicate, slice_index_or, subst, sym, true}
use Rattle.std.proofs.Common.{ℕ, ◌*◌, ◌+◌, ◌-◌, ◌/◌, ◌<◌, ◌∙◌, ◌∷◌, ◌≡◌, ◌≤◌, ◌⊎◌}
use Rattle.std.proofs.Math.Nat.{add-mul, div-eq_of_lt-le, div-mul-le_self, lt-div-mul-add, mul-le-mul_right}
use Rattle.std.proofs.lemmas.Bool.{cases_lt, eq-eqb, ne_eqb}
use Rattle.std.proofs.lemmas.List.{get_or-replicate, length-replicate}
use Rattle.std.proofs.lemmas.List.Elements.{All-replicate}
use Rattle.std.specs.Prelude.{if◌then◌else◌, ◌==◌}

-- a block's slots are among those of all blocks
block_fits : (block slots blocks : ℕ) → block < blocks → block * slots + slots ≤ blocks * slots
block_fits block slots blocks below =
    let most : (block + 1) * slots ≤ blocks * slots = mul-le-mul_right slots (omega arith) in
    let sum : (block + 1) * slots ≡ block * slots + 1 * slots = add-mul block 1 slots in
    omega arith

-- the bytes in the slots are what is seen there
abbrev pub AreCells : ImageState → DieImage → Type 0
AreCells state image = (slot : ℕ) → slot < state.geometry.blocks * state.geometry.slots → IsCellOf (slot_at slot state) (image.seen slot)

-- a write of slots, with what is seen of it
written_cells : (state : ImageState) (first : ℕ) (written : List (List ℕ)) → first + length written ≤ length state.slots
    → (image after : DieImage) → AreCells state image
    → ((i : ℕ) → i < length written → IsCellOf (slice_index_or written i []) (after.seen (first + i)))
    → ((slot : ℕ) → slot < state.geometry.blocks * state.geometry.slots → (slot < first) ⊎ (first + length written ≤ slot)
    → after.seen slot ≡ image.seen slot)
    → AreCells (with_written first written state) after
written_cells state first written fits image after cells new old slot within =
    elim (cases_lt slot first) [
      | inl low ↦ kept (inl low)
      | inr from ↦ elim (cases_lt slot (first + length written)) [
        | inl below ↦
            let i : ℕ = slot - first in
            let at : first + i ≡ slot = omega (arith, from) in
            let small : i < length written = omega (arith, from, below) in
            subst (λ n. IsCellOf (slot_at n (with_written first written state)) (after.seen n)) at
            (subst (λ (b : List ℕ). IsCellOf b (after.seen (first + i))) (sym (inside state first written fits i small)) (new i small))
        | inr high ↦ kept (inr high)
      ]
    ]
  where
    kept : (slot < first) ⊎ (first + length written ≤ slot) → IsCellOf (slot_at slot (with_written first written state)) (after.seen slot)
    kept apart =
        subst (λ (b : List ℕ). IsCellOf b (after.seen slot)) (sym (outside state first written fits slot apart))
        (subst (λ (c : Cell). IsCellOf (slot_at slot state) c) (sym (old slot within apart)) (cells slot within))

-- what a job programs is a slot
abbrev pub IsWritable : JobCall → Type 0
IsWritable (ProgramsSlot slot (Sealed page version die s payload)) = IsTag (tag_of page version die s) × IsPayloadOf version.kind payload
IsWritable call = Unit {0}

-- what a call gave is a cell of bytes
abbrev pub IsSomeCell : Gave → Type 0
IsSomeCell (GaveCell cell) = (bytes : List ℕ) × IsCellOf bytes cell
IsSomeCell gave = Unit {0}

opened_is : (bytes : List ℕ) (opened : Opened) → IsOpened bytes opened → IsCellOf bytes (cell_of opened (payload_of bytes))
opened_is bytes Erased is = is
opened_is bytes (Good tag) is = is
opened_is bytes Bad is = is

seen_is : (bytes : List ℕ) (cell : Cell) → IsSeen bytes cell → IsCellOf bytes cell
seen_is bytes cell seen = subst (IsCellOf bytes) (sym seen.2) (opened_is bytes seen.0 seen.1)

-- the image as the machine sees it after a call
pub record Leads (m : MapState) (call : JobCall) (gave : Gave) (image : DieImage) (after : ImageState) : Type 0 where
  pub next : DieImage
  pub calls : Calls (is_in_block m) call gave image next
  pub cells : AreCells after next
  pub given : IsSomeCell gave
  -- a refused call leaves the header
  pub header : gave ≡ Refused → next.header ≡ image.header

accepted_not : Accepted ≡ Refused → ⊥
accepted_not e = cc

gave_not : (cell : Cell) → GaveCell cell ≡ Refused → ⊥
gave_not cell e = cc

module _ (m : MapState) (array : List ℕ) (die : ℕ) (state after : ImageState) (was is : Bool) (whole : IsImage state)
    (shape : state.geometry ≡ m.geometry) (image : DieImage) (cells : AreCells state image) (fair : IsTrue is) where
  -- the same slots
  same_cells : (now : ImageState) → after ≡ now → now.geometry ≡ state.geometry → now.slots ≡ state.slots → (next : DieImage)
      → ((slot : ℕ) → next.seen slot ≡ image.seen slot) → AreCells after next
  same_cells now same geometry slots next seen = subst (λ (a : ImageState). AreCells a next) (sym same) (λ slot within.
      let there : slot < state.geometry.blocks * state.geometry.slots = subst (λ (g : Geometry). slot < g.blocks * g.slots) geometry within in
      subst (λ (l : List (List ℕ)). IsCellOf (slice_index_or l slot []) (next.seen slot)) (sym slots)
      (subst (λ (c : Cell). IsCellOf (slot_at slot state) c) (sym (seen slot)) (cells slot there)))

  same_call : (call image_call : ImageCall) (answer : ImageAnswer) → image_call ≡ call → ImageMeets state was image_call answer after is
      → ImageMeets state was call answer after is
  same_call call image_call answer same meets = subst (λ (c : ImageCall). ImageMeets state was c answer after is) same meets

  programmed : (slot : ℕ) (written : List (List ℕ)) → length written ≡ 1 → slot < state.geometry.blocks * state.geometry.slots → (cell : Cell)
      → IsCellOf (slice_index_or written 0 []) cell → AreCells (with_written slot written state) (with_cell slot cell image)
  programmed slot written one low cell holds =
      let many = whole.whole.0 in
      written_cells state slot written (omega (arith, one, low, many)) image (with_cell slot cell image) cells
      (λ i small.
      let first : 0 ≡ i = omega (arith, one, small) in
      subst (λ n. IsCellOf (slice_index_or written n []) ((with_cell slot cell image).seen (slot + n))) first
      (subst (λ (c : Cell). IsCellOf (slice_index_or written 0 []) c)
      (sym (ap {B = Cell} (λ b. if b then cell else image.seen (slot + 0)) (eq-eqb (slot + 0) slot (omega arith)))) holds))
      (λ s inside apart. ap {B = Cell} (λ b. if b then cell else image.seen s) (ne_eqb s slot (λ same. elim apart [
        | inl low ↦ omega (arith, same, low)
        | inr high ↦ omega (arith, same, high, one)
      ])))

  block_cells : (block : ℕ) (written : List (List ℕ)) → length written ≡ state.geometry.slots → block < state.geometry.blocks → (left : ℕ → Cell)
      → ((i : ℕ) → i < state.geometry.slots → IsCellOf (slice_index_or written i []) (left (block * state.geometry.slots + i)))
      → AreCells (with_written (block * state.geometry.slots) written state)
      (record image { seen = λ slot. if is_in_block m block slot then left slot else image.seen slot })
  block_cells block written many low left holds =
      let slots = state.geometry.slots in
      let all = whole.whole.0 in
      let room = block_fits block slots state.geometry.blocks low in
      let next : DieImage = record image { seen = λ slot. if is_in_block m block slot then left slot else image.seen slot } in
      let per : m.geometry.slots ≡ slots = sym (ap (λ (g : Geometry). g.slots) shape) in
      written_cells state (block * slots) written (omega (arith, many, all, room)) image next cells
      (λ i small.
      let less : i < slots = omega (arith, small, many) in
      let within : is_in_block m block (block * slots + i) ≡ true =
      ap (λ n. (block * slots + i) / n == block) per
      ∙ eq-eqb ((block * slots + i) / slots) block
      (div-eq_of_lt-le {k = block} slots {m = block * slots + i} (omega arith) (omega (arith, less))) in
      subst (λ (c : Cell). IsCellOf (slice_index_or written i []) c)
      (sym (ap {B = Cell} (λ b. if b then left (block * slots + i) else image.seen (block * slots + i)) within)) (holds i less))
      (λ s inside apart.
      let without : is_in_block m block s ≡ false =
      ap (λ n. s / n == block) per ∙ ne_eqb (s / slots) block (λ same. out s inside apart same) in
      ap {B = Cell} (λ b. if b then left s else image.seen s) without)
    where
      out : (s : ℕ) → s < state.geometry.blocks * state.geometry.slots
          → (s < block * state.geometry.slots) ⊎ (block * state.geometry.slots + length written ≤ s) → s / state.geometry.slots ≡ block → ⊥
      out s inside (inl under) same =
          let at : block * state.geometry.slots ≤ s =
          subst (λ b. b * state.geometry.slots ≤ s) same (div-mul-le_self s state.geometry.slots) in omega (arith, at, under)
      out s inside (inr over) same = elim (cases_lt 0 state.geometry.slots) [
        | inl some ↦
            let at : s < block * state.geometry.slots + state.geometry.slots =
            subst (λ b. s < b * state.geometry.slots + state.geometry.slots) same (lt-div-mul-add some) in omega (arith, at, over, many)
        | inr none ↦
            let zero : state.geometry.blocks * state.geometry.slots ≡ state.geometry.blocks * 0 =
            ap (λ n. state.geometry.blocks * n) (omega (arith, none)) in omega (arith, inside, zero)
      ]

  pub call_leads : (call : JobCall) (gave : Gave) (image_call : ImageCall) (answer : ImageAnswer) → IsMadeBy m.geometry array die call image_call
      → IsGivenBy gave answer → ImageMeets state was image_call answer after is → IsWritable call → Leads m call gave image after
  call_leads (ReadsSlot slot) (GaveCell cell) image_call (GaveBytes bytes) made given meets may =
      let met = same_call (ReadingSlot slot) image_call (GaveBytes bytes) made meets in
      let there : IsCellOf (slot_at slot state) cell = subst (λ (b : List ℕ). IsCellOf b cell) (met.told fair) (seen_is bytes cell given) in
      record {
        next = image;
        calls = (one_cell (slot_at slot state) cell (image.seen slot) there (cells slot met.allowed), refl);
        cells = same_cells _ met.leads refl refl image (λ s. refl);
        given = (slot_at slot state, there);
        header = λ e. absurd (gave_not cell e);
      }
  call_leads (ReadsSlot slot) Refused image_call (RefusedBy fault) made given meets may =
      let met = same_call (ReadingSlot slot) image_call (RefusedBy fault) made meets in
      record {
        next = image;
        calls = refl;
        cells = same_cells _ met.leads refl refl image (λ s. refl);
        given = tt;
        header = λ e. refl;
      }
  call_leads (ReadsSlot slot) Accepted image_call Done made given meets may =
      let met = same_call (ReadingSlot slot) image_call Done made meets in
      absurd met.answers
  call_leads (ProgramsSlot slot (Sealed page version d s payload)) Accepted image_call Done made given meets may =
      let bytes = slot_2 (tag_of page version d s) payload in
      let cell : Cell = Sealed page version d s payload in
      let met = same_call (Programming slot bytes) image_call Done made meets in
      record {
        next = with_cell slot cell image;
        calls = refl;
        cells = subst (λ (a : ImageState). AreCells a (with_cell slot cell image)) (sym met.leads)
            (programmed slot (bytes ∷ []) refl met.allowed.0 cell (may.0, may.1, inl refl));
        given = tt;
        header = λ e. absurd (accepted_not e);
      }
  call_leads (ProgramsSlot slot (Sealed page version d s payload)) Refused image_call (RefusedBy fault) made given meets may =
      let bytes = slot_2 (tag_of page version d s) payload in
      let met = same_call (Programming slot bytes) image_call (RefusedBy fault) made meets in
      let left = met.leads in
      let cell = any_cell (slice_index_or left.0 0 []) in
      record {
        next = with_cell slot cell.0 image;
        calls = (cell.0, refl);
        cells = subst (λ (a : ImageState). AreCells a (with_cell slot cell.0 image)) (sym left.2)
            (programmed slot left.0 left.1.0 met.allowed.0 cell.0 cell.1);
        given = tt;
        header = λ e. refl;
      }
  call_leads (ErasesBlock block) Accepted image_call Done made given meets may =
      let met = same_call (Erasing block) image_call Done made meets in
      let slots = state.geometry.slots in
      let bytes = erased_slot (slot_bytes state.geometry) in
      let next : DieImage = record image { seen = λ slot. if is_in_block m block slot then Empty else image.seen slot } in
      record {
        next = next;
        calls = refl;
        cells = subst (λ (a : ImageState). AreCells a next) (sym met.leads)
            (block_cells block (replicate slots bytes) (length-replicate slots bytes) met.allowed (λ slot. Empty)
            (λ i low. subst IsErased (sym (get_or-replicate slots i bytes [] low))
            (All-replicate (λ byte. byte ≡ 0xff) (slot_bytes state.geometry) 0xff refl)));
        given = tt;
        header = λ e. absurd (accepted_not e);
      }
  call_leads (ErasesBlock block) Refused image_call (RefusedBy fault) made given meets may =
      let met = same_call (Erasing block) image_call (RefusedBy fault) made meets in
      let first = block * state.geometry.slots in
      let left = met.leads in
      let cell : ℕ → Cell = λ slot. (any_cell (slice_index_or left.0 (slot - first) [])).0 in
      let next : DieImage = record image { seen = λ slot. if is_in_block m block slot then cell slot else image.seen slot } in
      record {
        next = next;
        calls = (cell, refl);
        cells = subst (λ (a : ImageState). AreCells a next) (sym left.2)
            (block_cells block left.0 left.1.0 met.allowed cell
            (λ i low. subst (λ n. IsCellOf (slice_index_or left.0 i []) (any_cell (slice_index_or left.0 n [])).0)
            {x = i} {y = first + i - first} (omega arith) (any_cell (slice_index_or left.0 i [])).1));
        given = tt;
        header = λ e. refl;
      }
  call_leads (WritesHeader epoch live) Accepted image_call Done made given meets may =
      let bytes = header_bytes 2 (header_of m.geometry array die epoch live) in
      let met = same_call (WritingHeader bytes) image_call Done made meets in
      let next : DieImage = record image { header = Some (record { epoch = epoch; live = live }) } in
      record {
        next = next;
        calls = refl;
        cells = same_cells _ met.leads refl refl next (λ s. refl);
        given = tt;
        header = λ e. absurd (accepted_not e);
      }
  call_leads (WritesHeader epoch live) Refused image_call (RefusedBy fault) made given meets may =
      let bytes = header_bytes 2 (header_of m.geometry array die epoch live) in
      let met = same_call (WritingHeader bytes) image_call (RefusedBy fault) made meets in
      let next : DieImage = record image { header = image.header } in
      record {
        next = next;
        calls = (image.header, refl);
        cells = same_cells _ met.leads.2 refl refl next (λ s. refl);
        given = tt;
        header = λ e. refl;
      }
  call_leads Syncs Accepted image_call Done made given meets may =
      let met = same_call Syncing image_call Done made meets in
      record {
        next = image;
        calls = refl;
        cells = same_cells _ met.leads refl refl image (λ s. refl);
        given = tt;
        header = λ e. absurd (accepted_not e);
      }
  call_leads Syncs Refused image_call (RefusedBy fault) made given meets may =
      let met = same_call Syncing image_call (RefusedBy fault) made meets in
      record {
        next = image;
        calls = refl;
        cells = same_cells _ met.leads refl refl image (λ s. refl);
        given = tt;
        header = λ e. refl;
      }
  call_leads (ProgramsSlot slot (Sealed page version d s payload)) (GaveCell cell) image_call (GaveBytes bytes) made given meets may =
      let met = same_call (Programming slot (slot_2 (tag_of page version d s) payload)) image_call (GaveBytes bytes) made meets in absurd met.answers
  call_leads (ErasesBlock block) (GaveCell cell) image_call (GaveBytes bytes) made given meets may =
      let met = same_call (Erasing block) image_call (GaveBytes bytes) made meets in absurd met.answers
  call_leads (WritesHeader epoch live) (GaveCell cell) image_call (GaveBytes bytes) made given meets may =
      let met = same_call (WritingHeader (header_bytes 2 (header_of m.geometry array die epoch live))) image_call (GaveBytes bytes) made meets in absurd met.answers
  call_leads Syncs (GaveCell cell) image_call (GaveBytes bytes) made given meets may =
      let met = same_call Syncing image_call (GaveBytes bytes) made meets in absurd met.answers
  call_leads (ProgramsSlot slot Empty) gave image_call answer made given meets may = absurd made
  call_leads (ProgramsSlot slot Broken) gave image_call answer made given meets may = absurd made
  call_leads call Accepted image_call (GaveBytes bytes) made given meets may = absurd given
  call_leads call Accepted image_call (RefusedBy fault) made given meets may = absurd given
  call_leads call Refused image_call (GaveBytes bytes) made given meets may = absurd given
  call_leads call Refused image_call Done made given meets may = absurd given
  call_leads call (GaveCell cell) image_call Done made given meets may = absurd given
  call_leads call (GaveCell cell) image_call (RefusedBy fault) made given meets may = absurd given
