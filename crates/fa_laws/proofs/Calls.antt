-- Each call of each job keeps what holds.
use Rattle.fa_laws.proofs.Endings.{HappensCall}
use Rattle.fa_laws.proofs.Admitting.{one_value_same}
use Rattle.fa_laws.proofs.ImageCalls.{call_holds, job_seen, kept_unheld, moves, with_cell_other, with_cell_same}
use Rattle.fa_laws.proofs.Invariant.{Holds, owned_of, scene_of}
use Rattle.fa_laws.proofs.Parts.{kept≢settled, target_at}
use Rattle.fa_laws.proofs.Scene.{Bytes, GaveFits, JobFits, is_settled}
use Rattle.fa_machine.specs.Cells.{Cell, Empty, Sealed, moved_payload}
use Rattle.fa_machine.specs.Collecting.{is_in_block}
use Rattle.fa_machine.specs.Copies.{is_held_slot}
use Rattle.fa_machine.specs.Run.{CallsNext}
use Rattle.fa_machine.specs.State.{used_at}
use Rattle.fa_machine.specs.Taking.{Handed}
use Rattle.fa_machine.specs.World.{Accepted, Calls, DieImage, Gave, GaveCell, HeaderTells, ProgramsSlot, Refused, Work, World, first_call}
use Rattle.fa_machine.specs.World.{call_behind, next_call, second_call, with_cell, with_value}
use Rattle.fa_machine.specs.declared.ids.Block.{Block}
use Rattle.fa_machine.specs.declared.jobs.Flight.{Flight}
use Rattle.fa_machine.specs.declared.jobs.Flight.TheVariants.{Erase, Header, Move, Program, Read, Sync}
use Rattle.fa_machine.specs.declared.places.Version.{Version}
use Rattle.fa_types.specs.declared.numbers.Page.{Page}
use Rattle.fa_types.specs.declared.numbers.Slot.{Slot}
use Rattle.std.proofs.Common.{Bool, List, None, Option, Some, [], ap, false, inl, inr, refl, subst, sym, true, ℕ, ◌∙◌, ◌∷◌, ◌≡◌}
use Rattle.std.proofs.lemmas.Bool.{cases_Bool, cases_eq}
use Rattle.std.specs.Prelude.{if◌then◌else◌, option_map}

abbrev working : Bool → Flight → List ℕ → List Gave → Work
working lasting flight payload gave = record { job = record { flight = flight; payload = payload; lasting = lasting }; gave = gave }

abbrev then_world : World → ℕ → Bool → Flight → List ℕ → List Gave → DieImage → World
then_world w die lasting flight payload gave image = record w {
  images = with_value die image w.images;
  works = with_value die (Some (working lasting flight payload gave)) w.works;
}

abbrev bytes_then : World → ℕ → DieImage → Bytes
bytes_then w die image = record ((scene_of w).bytes) { seen = λ d slot. (with_value die image w.images d).seen slot }

module _ (w : World) (h : Holds w) (die : ℕ) (lasting : Bool) (list : List Gave) (image : DieImage) where
  here : (slot : ℕ) → (with_value die image w.images die).seen slot ≡ image.seen slot
  here slot = ap (λ (i : DieImage). i.seen slot) (one_value_same die image w.images die refl)

  fits_before : (flight : Flight) (payload : List ℕ) → w.works die ≡ Some (working lasting flight payload list)
      → JobFits (scene_of w).bytes (scene_of w).places (scene_of w).in_block (w.due die).bytes die flight payload
  fits_before flight payload works = (h.sound.works die (working lasting flight payload list) works).job

  -- a call that changes no slot
  unseen_call : (flight : Flight) (payload : List ℕ) → w.works die ≡ Some (working lasting flight payload list) → (gave : List Gave)
      → ((slot : ℕ) → image.seen slot ≡ (w.images die).seen slot)
      → GaveFits (bytes_then w die image) die flight gave → Holds (then_world w die lasting flight payload gave image)
  unseen_call flight payload works gave same fits =
      call_holds w h die (working lasting flight payload list) works image gave (λ slot. inl (same slot)) (record {
        job = job_seen (scene_of w).bytes (λ d slot. (with_value die image w.images d).seen slot) (scene_of w).places (scene_of w).in_block (w.due die).bytes die flight payload
            (λ slot. here slot ∙ same slot) (fits_before flight payload works);
        gave = fits;
      })

  quiet_call : (flight : Flight) (payload : List ℕ) → w.works die ≡ Some (working lasting flight payload list) → (gave : List Gave) → image ≡ w.images die
      → GaveFits (bytes_then w die image) die flight gave → Holds (then_world w die lasting flight payload gave image)
  quiet_call flight payload works gave same fits =
      unseen_call flight payload works gave (λ slot. ap (λ (i : DieImage). i.seen slot) same) fits

  header_call : (flight : Flight) (payload : List ℕ) → w.works die ≡ Some (working lasting flight payload list) → (gave : List Gave) (header : Option HeaderTells)
      → image ≡ record (w.images die) { header = header }
      → GaveFits (bytes_then w die image) die flight gave → Holds (then_world w die lasting flight payload gave image)
  header_call flight payload works gave header is fits =
      unseen_call flight payload works gave (λ slot. ap (λ (i : DieImage). i.seen slot) is) fits

  -- a call that writes the slot of a program or of a move
  program_call : (page : Page) (version : Version) (slot : Slot) (payload : List ℕ) → w.works die ≡ Some (working lasting (Program page version slot) payload list)
      → (gave : List Gave) (cell : Cell) → image ≡ with_cell slot.0 cell (w.images die)
      → GaveFits (bytes_then w die image) die (Program page version slot) gave → Holds (then_world w die lasting (Program page version slot) payload gave image)
  program_call page version slot payload works gave cell is fits =
      let before = fits_before (Program page version slot) payload works in
      call_holds w h die (working lasting (Program page version slot) payload list) works image gave
      (λ k. elim (cases_eq k slot.0) [
        | inr away ↦ inl (ap (λ (i : DieImage). i.seen k) is ∙ with_cell_other slot.0 k cell (w.images die) away)
        | inl same ↦ inr (
          subst (λ n. is_held_slot (used_at w.core.page_map die n) ≡ false) (sym same) (kept_unheld (used_at w.core.page_map die slot.0) before.place.kept),
          λ q x t at. (before.place.target q x t (target_at (owned_of w.core.copying w.core.claims) die die k slot.0 q x t refl same at)).0,
        )
      ])
      (record { job = record { bytes = before.bytes; below = before.below; place = before.place }; gave = fits })

  move_call : (page : Page) (version : Version) (from to : Slot) (payload : List ℕ) → w.works die ≡ Some (working lasting (Move page version from to) payload list)
      → (gave : List Gave) (cell : Cell) → image ≡ with_cell to.0 cell (w.images die)
      → GaveFits (bytes_then w die image) die (Move page version from to) gave → Holds (then_world w die lasting (Move page version from to) payload gave image)
  move_call page version from to payload works gave cell is fits =
      let before = fits_before (Move page version from to) payload works in
      let away : from.0 ≡ to.0 → ⊥ = λ same. kept≢settled (used_at w.core.page_map die to.0) before.kept (ap is_settled (ap (used_at w.core.page_map die) (sym same)) ∙ before.settled) in
      call_holds w h die (working lasting (Move page version from to) payload list) works image gave
      (λ k. elim (cases_eq k to.0) [
        | inr elsewhere ↦ inl (ap (λ (i : DieImage). i.seen k) is ∙ with_cell_other to.0 k cell (w.images die) elsewhere)
        | inl same ↦ inr (
          subst (λ n. is_held_slot (used_at w.core.page_map die n) ≡ false) (sym same) (kept_unheld (used_at w.core.page_map die to.0) before.kept),
          λ q x t at. absurd (before.alone q x t (target_at (owned_of w.core.copying w.core.claims) die die k to.0 q x t refl same at)),
        )
      ])
      (record {
        job = record {
          cell = ap (moved_payload page.0 version die from.0) (here from.0 ∙ ap (λ (i : DieImage). i.seen from.0) is ∙ with_cell_other to.0 from.0 cell (w.images die) away) ∙ before.cell;
          below = before.below;
          settled = before.settled;
          kept = before.kept;
          alone = before.alone;
        };
        gave = fits;
      })

  erase_call : (block : Block) (payload : List ℕ) → w.works die ≡ Some (working lasting (Erase block) payload list)
      → (gave : List Gave) (left : ℕ → Cell) → image ≡ record (w.images die) { seen = λ slot. if is_in_block w.core.page_map block.0 slot then left slot else (w.images die).seen slot }
      → GaveFits (bytes_then w die image) die (Erase block) gave → Holds (then_world w die lasting (Erase block) payload gave image)
  erase_call block payload works gave left is fits =
      let before = fits_before (Erase block) payload works in
      call_holds w h die (working lasting (Erase block) payload list) works image gave
      (λ k. elim (cases_Bool (is_in_block w.core.page_map block.0 k)) [
        | inl inside ↦ inr (before.none_held k inside, λ q x t at. before.none_done k q x t at inside)
        | inr outside ↦ inl (ap (λ (i : DieImage). i.seen k) is ∙ ap {B = Cell} (λ b. if b then left k else (w.images die).seen k) outside)
      ])
      (record { job = before; gave = fits })

pub first_call_holds : (w : World) (h : Holds w) (die : ℕ) (lasting : Bool) (flight : Flight) (payload : List ℕ) (g : Gave) (image : DieImage)
    → w.works die ≡ Some (working lasting flight payload [])
    → Calls (is_in_block w.core.page_map) (first_call die flight payload) g (w.images die) image
    → Holds (then_world w die lasting flight payload (g ∷ []) image)
first_call_holds w h die lasting (Header epoch live) payload Accepted image works c = header_call w h die lasting [] image (Header epoch live) payload works (Accepted ∷ []) (Some (record { epoch = epoch; live = live })) c tt
first_call_holds w h die lasting (Header epoch live) payload Refused image works c = header_call w h die lasting [] image (Header epoch live) payload works (Refused ∷ []) c.0 c.1 tt
first_call_holds w h die lasting (Header epoch live) payload (GaveCell cell) image works c = absurd c
first_call_holds w h die lasting (Sync flushes) payload Accepted image works c = quiet_call w h die lasting [] image (Sync flushes) payload works (Accepted ∷ []) c tt
first_call_holds w h die lasting (Sync flushes) payload Refused image works c = quiet_call w h die lasting [] image (Sync flushes) payload works (Refused ∷ []) c tt
first_call_holds w h die lasting (Sync flushes) payload (GaveCell cell) image works c = absurd c
first_call_holds w h die lasting (Read batch page version slot) payload (GaveCell cell) image works c =
    quiet_call w h die lasting [] image (Read batch page version slot) payload works (GaveCell cell ∷ []) c.1
    (c.0 ∙ sym (here w h die lasting [] image slot.0 ∙ ap (λ (i : DieImage). i.seen slot.0) c.1))
first_call_holds w h die lasting (Read batch page version slot) payload Refused image works c =
    quiet_call w h die lasting [] image (Read batch page version slot) payload works (Refused ∷ []) c tt
first_call_holds w h die lasting (Read batch page version slot) payload Accepted image works c = absurd c
first_call_holds w h die lasting (Move page version from to) payload (GaveCell cell) image works c =
    quiet_call w h die lasting [] image (Move page version from to) payload works (GaveCell cell ∷ []) c.1
    (ap (moved_payload page.0 version die from.0) c.0 ∙ (fits_before w h die lasting [] image (Move page version from to) payload works).cell)
first_call_holds w h die lasting (Move page version from to) payload Refused image works c =
    quiet_call w h die lasting [] image (Move page version from to) payload works (Refused ∷ []) c tt
first_call_holds w h die lasting (Move page version from to) payload Accepted image works c = absurd c
first_call_holds w h die lasting (Erase block) payload Accepted image works c =
    quiet_call w h die lasting [] image (Erase block) payload works (Accepted ∷ []) c tt
first_call_holds w h die lasting (Erase block) payload Refused image works c =
    quiet_call w h die lasting [] image (Erase block) payload works (Refused ∷ []) c tt
first_call_holds w h die lasting (Erase block) payload (GaveCell cell) image works c = absurd c
first_call_holds w h die lasting (Program page version slot) payload Accepted image works c =
    program_call w h die lasting [] image page version slot payload works (Accepted ∷ []) (Sealed page.0 version die slot.0 payload) c
    (ap (moved_payload page.0 version die slot.0) (here w h die lasting [] image slot.0 ∙ ap (λ (i : DieImage). i.seen slot.0) c ∙ with_cell_same slot.0 (Sealed page.0 version die slot.0 payload) (w.images die))
    ∙ moves page.0 version die slot.0 payload ∙ ap Some (fits_before w h die lasting [] image (Program page version slot) payload works).bytes)
first_call_holds w h die lasting (Program page version slot) payload Refused image works c =
    program_call w h die lasting [] image page version slot payload works (Refused ∷ []) c.0 c.1 tt
first_call_holds w h die lasting (Program page version slot) payload (GaveCell cell) image works c = absurd c

-- the second call of a move
second_move : (w : World) (h : Holds w) (die : ℕ) (lasting : Bool) (page : Page) (version : Version) (from to : Slot) (payload : List ℕ) (cell : Cell) (g : Gave) (image : DieImage)
    (bytes : List ℕ) → bytes ≡ w.payloads page.0 version.seq.0 → w.works die ≡ Some (working lasting (Move page version from to) payload (GaveCell cell ∷ []))
    → Calls (is_in_block w.core.page_map) (ProgramsSlot to.0 (Sealed page.0 version die to.0 bytes)) g (w.images die) image
    → Holds (then_world w die lasting (Move page version from to) payload (GaveCell cell ∷ g ∷ []) image)
second_move w h die lasting page version from to payload cell Accepted image bytes right works c =
    move_call w h die lasting (GaveCell cell ∷ []) image page version from to payload works (GaveCell cell ∷ Accepted ∷ []) (Sealed page.0 version die to.0 bytes) c
    (ap (moved_payload page.0 version die to.0) (here w h die lasting [] image to.0 ∙ ap (λ (i : DieImage). i.seen to.0) c ∙ with_cell_same to.0 (Sealed page.0 version die to.0 bytes) (w.images die))
    ∙ moves page.0 version die to.0 bytes ∙ ap Some right)
second_move w h die lasting page version from to payload cell Refused image bytes right works c =
    move_call w h die lasting (GaveCell cell ∷ []) image page version from to payload works (GaveCell cell ∷ Refused ∷ []) c.0 c.1 tt
second_move w h die lasting page version from to payload cell (GaveCell other) image bytes right works c = absurd c

pub second_call_holds : (w : World) (h : Holds w) (die : ℕ) (lasting : Bool) (flight : Flight) (payload : List ℕ) (cell : Cell) (g : Gave) (after : World)
    → w.works die ≡ Some (working lasting flight payload (GaveCell cell ∷ []))
    → CallsNext w die (Some (working lasting flight payload (GaveCell cell ∷ []))) (second_call die flight cell) g after → Holds after
second_call_holds w h die lasting (Move page version from to) payload cell g after works c =
    let gives : moved_payload page.0 version die from.0 cell ≡ Some (w.payloads page.0 version.seq.0) =
    (h.sound.works die (working lasting (Move page version from to) payload (GaveCell cell ∷ [])) works).gave in
    let d = subst (λ o. CallsNext w die (Some (working lasting (Move page version from to) payload (GaveCell cell ∷ []))) (option_map (λ bytes. ProgramsSlot to.0 (Sealed page.0 version die to.0 bytes)) o) g after) gives c in
    subst Holds (sym d.2) (second_move w h die lasting page version from to payload cell g d.0 (w.payloads page.0 version.seq.0) refl works d.1)
second_call_holds w h die lasting (Header epoch live) payload cell g after works c = absurd c
second_call_holds w h die lasting (Erase block) payload cell g after works c = absurd c
second_call_holds w h die lasting (Read batch page version slot) payload cell g after works c = absurd c
second_call_holds w h die lasting (Program page version slot) payload cell g after works c = absurd c
second_call_holds w h die lasting (Sync flushes) payload cell g after works c = absurd c

-- the sync behind a lasting program: what stands in the slot is what the program left
synced_program : (w : World) (h : Holds w) (die : ℕ) (page : Page) (version : Version) (slot : Slot) (payload : List ℕ) (g : Gave) (image : DieImage)
    → w.works die ≡ Some (working true (Program page version slot) payload (Accepted ∷ [])) → image ≡ w.images die
    → Holds (then_world w die true (Program page version slot) payload (Accepted ∷ g ∷ []) image)
synced_program w h die page version slot payload g image works same =
    quiet_call w h die true (Accepted ∷ []) image (Program page version slot) payload works (Accepted ∷ g ∷ []) same
    (ap (moved_payload page.0 version die slot.0) (here w h die true [] image slot.0 ∙ ap (λ (i : DieImage). i.seen slot.0) same)
    ∙ (h.sound.works die (working true (Program page version slot) payload (Accepted ∷ [])) works).gave)

-- the call behind an accepted first one
behind_holds : (w : World) (h : Holds w) (die : ℕ) (lasting : Bool) (flight : Flight) (payload : List ℕ) (g : Gave) (after : World)
    → w.works die ≡ Some (working lasting flight payload (Accepted ∷ []))
    → CallsNext w die (Some (working lasting flight payload (Accepted ∷ []))) (call_behind flight lasting) g after → Holds after
behind_holds w h die lasting (Erase block) payload Accepted after works c =
    subst Holds (sym c.2) (erase_call w h die lasting (Accepted ∷ []) c.0 block payload works (Accepted ∷ Accepted ∷ []) (λ slot. Empty) c.1 tt)
behind_holds w h die lasting (Erase block) payload Refused after works c =
    subst Holds (sym c.2) (erase_call w h die lasting (Accepted ∷ []) c.0 block payload works (Accepted ∷ Refused ∷ []) c.1.0 c.1.1 tt)
behind_holds w h die lasting (Erase block) payload (GaveCell cell) after works c = absurd c.1
behind_holds w h die true (Program page version slot) payload Accepted after works c =
    subst Holds (sym c.2) (synced_program w h die page version slot payload Accepted c.0 works c.1)
behind_holds w h die true (Program page version slot) payload Refused after works c =
    subst Holds (sym c.2) (synced_program w h die page version slot payload Refused c.0 works c.1)
behind_holds w h die true (Program page version slot) payload (GaveCell cell) after works c = absurd c.1
behind_holds w h die false (Program page version slot) payload g after works c = absurd c
behind_holds w h die lasting (Header epoch live) payload g after works c = absurd c
behind_holds w h die lasting (Move page version from to) payload g after works c = absurd c
behind_holds w h die lasting (Read batch page version slot) payload g after works c = absurd c
behind_holds w h die lasting (Sync flushes) payload g after works c = absurd c

next_holds : (w : World) (h : Holds w) (die : ℕ) (job : Handed) (list : List Gave) (g : Gave) (after : World)
    → w.works die ≡ Some (record { job = job; gave = list })
    → CallsNext w die (Some (record { job = job; gave = list })) (next_call die job list) g after → Holds after
next_holds w h die job [] g after works c = subst Holds (sym c.2) (first_call_holds w h die job.lasting job.flight job.payload g c.0 works c.1)
next_holds w h die job (GaveCell cell ∷ []) g after works c = second_call_holds w h die job.lasting job.flight job.payload cell g after works c
next_holds w h die job (Accepted ∷ []) g after works c = behind_holds w h die job.lasting job.flight job.payload g after works c
next_holds w h die job list g after works c = absurd c

work_case : (w : World) (h : Holds w) (die : ℕ) (work : Option Work) (g : Gave) (after : World) → w.works die ≡ work → HappensCall w die work g after → Holds after
work_case w h die None g after works c = absurd c
work_case w h die (Some work) g after works c = next_holds w h die work.job work.gave g after works c

-- an image call of a job in flight
pub image_call_holds : (w : World) → Holds w → (die : ℕ) (g : Gave) (after : World) → HappensCall w die (w.works die) g after → Holds after
image_call_holds w h die g after c = work_case w h die (w.works die) g after refl c
