-- Each image call keeps what holds of a world and of what is unsynced in it.
use Rattle.fa_crash.proofs.CallKinds.{durable_call, erase_call, program_call, quiet_call, since_outside}
use Rattle.fa_crash.proofs.CallParts.{CallKept, call_kept, called}
use Rattle.fa_crash.proofs.Kept.{IsKept, WorkKept, is_sealed}
use Rattle.fa_crash.specs.Unsynced.{Unsynced, behind_call, made_durable, unsynced_behind, written_to}
use Rattle.fa_crash.specs.Whole.{IsWhole, IsWholeCall}
use Rattle.fa_laws.proofs.Admitting.{one_value_same}
use Rattle.fa_laws.proofs.Answering.{reached_holds}
use Rattle.fa_laws.proofs.ImageCalls.{with_cell_other}
use Rattle.fa_laws.proofs.Invariant.{Holds, scene_of}
use Rattle.fa_laws.proofs.Parts.{waits_once, written_here}
use Rattle.fa_laws.proofs.Scene.{IsMoving, IsWriting, flight_writes, writes}
use Rattle.fa_laws.specs.Reached.{IsReached}
use Rattle.fa_machine.specs.Among.{Among}
use Rattle.fa_machine.specs.Cells.{Cell, Empty, Sealed, moved_payload}
use Rattle.fa_machine.specs.Collecting.{is_in_block}
use Rattle.fa_machine.specs.Run.{CallsNext, Happens, ImageCall}
use Rattle.fa_machine.specs.State.{Core, WaitingProgram}
use Rattle.fa_machine.specs.Taking.{Handed}
use Rattle.fa_machine.specs.World.{Accepted, Calls, DieImage, ErasesBlock, Gave, GaveCell, JobCall, ProgramsSlot, ReadsSlot, Refused, Syncs, Work, World}
use Rattle.fa_machine.specs.World.{WritesHeader, next_call, second_call, with_cell}
use Rattle.fa_machine.specs.declared.ids.Block.{Block}
use Rattle.fa_machine.specs.declared.jobs.Flight.{Flight}
use Rattle.fa_machine.specs.declared.jobs.Flight.TheVariants.{Erase, Header, Move, Program, Read, Sync}
use Rattle.fa_machine.specs.declared.places.Version.{Version}
use Rattle.fa_sound.specs.Owners.{owned_of}
use Rattle.fa_sound.specs.Sound.{IsErasing}
use Rattle.fa_types.specs.declared.numbers.Page.{Page}
use Rattle.fa_types.specs.declared.numbers.Slot.{Slot}
use Rattle.std.proofs.Common.{Bool, List, None, Option, Some, [], ap, arith, false, inl, inr, refl, subst, sym, true, ℕ, ◌/◌, ◌∙◌, ◌∷◌, ◌≡◌, ◌⊎◌}
use Rattle.std.proofs.lemmas.Bool.{false≢true}
use Rattle.std.specs.FinMap.{get}
use Rattle.std.specs.Option.{option_map_or}
use Rattle.std.specs.Prelude.{if◌then◌else◌, option_and_then, option_map, ◌++◌, ◌==◌}

-- a call, whole where it was refused, and what is unsynced behind it
abbrev pub CallsWhole : World → Unsynced → ℕ → Work → Option JobCall → Gave → World → Unsynced → Type 0
CallsWhole w u die work None gave after v = ⊥
CallsWhole w u die work (Some call) gave after v =
    (image : DieImage) × Calls (is_in_block w.core.page_map) call gave (w.images die) image
    × IsWholeCall (is_in_block w.core.page_map) (Some call) gave (w.images die) image
    × (after ≡ called w die work gave image) × (v ≡ behind_call w die call gave u)

abbrev job_of : Flight → List ℕ → Bool → Handed
job_of flight payload lasting = record { flight = flight; payload = payload; lasting = lasting }

abbrev working : Flight → List ℕ → Bool → List Gave → Work
working flight payload lasting gave = record { job = job_of flight payload lasting; gave = gave }

module _ (w : World) (u : Unsynced) (k : IsKept w u) (die : ℕ) where
  abbrev core : Core
  core = w.core

  abbrev slots : ℕ
  slots = core.page_map.geometry.slots

  holds : Holds w
  holds = reached_holds w k.reached

  finish : (work : Work) (is : w.works die ≡ Some work) (gave : Gave) (image : DieImage) (v behind : Unsynced) (after : World)
      → IsReached after
      → after ≡ called w die work gave image → v ≡ behind
      → ((reached : IsReached (called w die work gave image)) → CallKept w u k die work is gave image reached behind) → IsKept after v
  finish work is gave image v behind after reached e f kept =
      let at = subst IsReached e reached in
      subst (λ (t : World × Unsynced). IsKept t.0 t.1) {x = (called w die work gave image, behind)} {y = (after, v)} (λ i. (sym e i, sym f i))
      (call_kept w u k die work is gave image at behind (kept at))

  -- what a job left on its die so far
  left_by : (flight : Flight) (payload : List ℕ) (lasting : Bool) (list : List Gave)
      → w.works die ≡ Some (working flight payload lasting list)
      → WorkKept slots (u.since die) ((w.images die).seen) flight lasting list
  left_by flight payload lasting list is = k.works die (working flight payload lasting list) is

  -- no other program waits for the slot that a job is to program
  alone_at : (work : Work) (to : ℕ) → w.works die ≡ Some work → flight_writes work.job.flight to ≡ 1
      → (p : WaitingProgram) → Among p core.waiting → p.die ≡ die → p.slot ≡ to → ⊥
  alone_at work to is one p among on at =
      let most = holds.sound.once die to in
      let waits = waits_once die to core.waiting p among on at in
      let writing : writes (w.works die) to ≡ 1 = ap (λ o. writes o to) is ∙ one in
      absurd (omega (arith, most, waits, writing))

  erasing : (block : Block) (work : Work) → w.works die ≡ Some work → work.job.flight ≡ Erase block
      → IsErasing slots (λ slot. get core.page_map.used (die, slot)) (owned_of core.copying core.claims) die block.0
  erasing block work is flight = (k.sound.jobs die (Erase block) (holds.jobs die ∙ ap (option_map {T = Work} (λ k. k.job.flight)) is ∙ ap Some flight)).fits

  -- a call that wrote at one slot at most
  one_slot : (to : ℕ) (left : Cell) (image : DieImage) → image ≡ with_cell to left (w.images die) → (slot : ℕ) → (slot ≡ to → ⊥)
      → image.seen slot ≡ (w.images die).seen slot
  one_slot to left image e slot apart = ap (λ (i : DieImage). i.seen slot) e ∙ with_cell_other to slot left (w.images die) apart

  programs_slot : (call : Cell) (to : ℕ) (gave : Gave) (image : DieImage)
      → Calls (is_in_block core.page_map) (ProgramsSlot to call) gave (w.images die) image
      → (slot : ℕ) → (slot ≡ to → ⊥) → image.seen slot ≡ (w.images die).seen slot
  programs_slot call to Accepted image c slot apart = one_slot to call image c slot apart
  programs_slot call to Refused image c slot apart = one_slot to c.0 image c.1 slot apart
  programs_slot call to (GaveCell cell) image c slot apart = absurd c

  -- the first call of a program, and the second one of a move
  program_kept : (page : Page) (version : Version) (slot : Slot) (payload : List ℕ) (lasting : Bool) (gave : Gave) (after : World) (v : Unsynced)
      → w.works die ≡ Some (working (Program page version slot) payload lasting []) → IsReached after
      → CallsWhole w u die (working (Program page version slot) payload lasting []) (Some (ProgramsSlot slot.0 (Sealed page.0 version die slot.0 payload))) gave after v
      → ((since : ℕ → List Cell) (seen : ℕ → Cell) → WorkKept slots since seen (Program page version slot) lasting (gave ∷ []))
      → IsKept after v
  program_kept page version slot payload lasting gave after v is reached c fits =
      let work = working (Program page version slot) payload lasting [] in
      let writing : IsWriting (scene_of w).bytes (scene_of w).places die page.0 version slot.0 payload = (holds.sound.works die work is).job in
      finish work is gave c.0 v (written_to w die (λ s. s == slot.0) u) after reached c.3 c.4
      (λ at. program_call w u k die work is gave c.0 at slot.0 writing.place.kept (left_by (Program page version slot) payload lasting [] is)
      (alone_at work slot.0 is (written_here slot.0 slot.0 refl)) (programs_slot (Sealed page.0 version die slot.0 payload) slot.0 gave c.0 c.1)
      (fits ((written_to w die (λ s. s == slot.0) u).since die) c.0.seen))

  move_kept : (page : Page) (version : Version) (from to : Slot) (payload bytes : List ℕ) (lasting : Bool) (cell : Cell) (gave : Gave) (after : World) (v : Unsynced)
      → w.works die ≡ Some (working (Move page version from to) payload lasting (GaveCell cell ∷ [])) → IsReached after
      → CallsWhole w u die (working (Move page version from to) payload lasting (GaveCell cell ∷ [])) (Some (ProgramsSlot to.0 (Sealed page.0 version die to.0 bytes))) gave after v
      → IsKept after v
  move_kept page version from to payload bytes lasting cell gave after v is reached c =
      let work = working (Move page version from to) payload lasting (GaveCell cell ∷ []) in
      let moving : IsMoving (scene_of w).bytes (scene_of w).places die page.0 version from.0 to.0 = (holds.sound.works die work is).job in
      finish work is gave c.0 v (written_to w die (λ s. s == to.0) u) after reached c.3 c.4
      (λ at. program_call w u k die work is gave c.0 at to.0 moving.kept (left_by (Move page version from to) payload lasting (GaveCell cell ∷ []) is)
      (alone_at work to.0 is (written_here to.0 to.0 refl)) (programs_slot _ to.0 gave c.0 c.1) tt)

  -- what an erase leaves in the slots of its block
  abbrev in_block : ℕ → ℕ → Bool
  in_block block slot = is_in_block core.page_map block slot

  erase_outside : (block : ℕ) (gave : Gave) (image : DieImage)
      → Calls (is_in_block core.page_map) (ErasesBlock block) gave (w.images die) image
      → (slot : ℕ) → in_block block slot ≡ false → image.seen slot ≡ (w.images die).seen slot
  erase_outside block Accepted image c slot out =
      ap (λ (i : DieImage). i.seen slot) c ∙ ap {B = Cell} (λ b. if b then Empty else (w.images die).seen slot) out
  erase_outside block Refused image c slot out =
      ap (λ (i : DieImage). i.seen slot) c.1 ∙ ap {B = Cell} (λ b. if b then c.0 slot else (w.images die).seen slot) out
  erase_outside block (GaveCell cell) image c slot out = absurd c

  erase_inside : (block : ℕ) (gave : Gave) (image : DieImage)
      → Calls (is_in_block core.page_map) (ErasesBlock block) gave (w.images die) image
      → IsWholeCall (is_in_block core.page_map) (Some (ErasesBlock block)) gave (w.images die) image → (slot : ℕ)
      → in_block block slot ≡ true
      → (image.seen slot ≡ (w.images die).seen slot) ⊎ (is_sealed (image.seen slot) ≡ false)
  erase_inside block Accepted image c whole slot here =
      inr (ap is_sealed (ap (λ (i : DieImage). i.seen slot) c ∙ ap {B = Cell} (λ b. if b then Empty else (w.images die).seen slot) here))
  erase_inside block Refused image c whole slot here =
      elim (whole slot here) [
        | inl same ↦ inl same
        | inr (inl empty) ↦ inr (ap is_sealed empty)
        | inr (inr broken) ↦ inr (ap is_sealed broken)
      ]
  erase_inside block (GaveCell cell) image c whole slot here = absurd c

  erase_kept : (block : Block) (payload : List ℕ) (lasting : Bool) (gave : Gave) (after : World) (v : Unsynced)
      → w.works die ≡ Some (working (Erase block) payload lasting (Accepted ∷ [])) → IsReached after
      → CallsWhole w u die (working (Erase block) payload lasting (Accepted ∷ [])) (Some (ErasesBlock block.0)) gave after v
      → IsKept after v
  erase_kept block payload lasting gave after v is reached c =
      let work = working (Erase block) payload lasting (Accepted ∷ []) in
      let settled = (left_by (Erase block) payload lasting (Accepted ∷ []) is).settled in
      let free = erasing block work is refl in
      finish work is gave c.0 v (written_to w die (is_in_block core.page_map block.0) u) after reached c.3 c.4
      (λ at. erase_call w u k die work is gave c.0 at block.0 settled free (erase_outside block.0 gave c.0 c.1) (erase_inside block.0 gave c.0 c.1 c.2)
      (fits gave c.0 c.1 (since_outside w u k die work is gave c.0 at block.0 settled free (erase_outside block.0 gave c.0 c.1) (erase_inside block.0 gave c.0 c.1 c.2))))
    where
      fits : (gave : Gave) (image : DieImage) → Calls (is_in_block core.page_map) (ErasesBlock block.0) gave (w.images die) image
          → ((slot : ℕ) → (slot / slots == block.0) ≡ false → (written_to w die (is_in_block core.page_map block.0) u).since die slot ≡ [])
          → WorkKept slots ((written_to w die (is_in_block core.page_map block.0) u).since die) image.seen (Erase block) lasting (Accepted ∷ gave ∷ [])
      fits Accepted image c out = record {
        settled = out;
        erased = λ slot all here. ap is_sealed (ap (λ (i : DieImage). i.seen slot) c ∙ ap {B = Cell} (λ b. if b then Empty else (w.images die).seen slot) here);
      }
      fits Refused image c out = tt
      fits (GaveCell cell) image c out = absurd c

  quiet_kept : (work : Work) → w.works die ≡ Some work → (gave : Gave) (image : DieImage) (after : World) (v behind : Unsynced)
      → IsReached after
      → after ≡ called w die work gave image → v ≡ behind → behind.since ≡ u.since → behind.kept ≡ u.kept
      → ((slot : ℕ) → image.seen slot ≡ (w.images die).seen slot)
      → ((since : ℕ → List Cell) (seen : ℕ → Cell) → ((slot : ℕ) → seen slot ≡ (w.images die).seen slot) → WorkKept slots since seen work.job.flight work.job.lasting (work.gave ++ gave ∷ []))
      → IsKept after v
  quiet_kept work is gave image after v behind reached e f sinces kepts same fits =
      finish work is gave image v behind after reached e f
      (λ at. quiet_call w u k die work is gave image at same behind sinces kepts (fits _ image.seen same))

  sync_kept : (work : Work) → w.works die ≡ Some work → (gave : Gave) (image : DieImage) (after : World) (v : Unsynced) → IsReached after
      → after ≡ called w die work gave image → v ≡ made_durable w die u → ((slot : ℕ) → image.seen slot ≡ (w.images die).seen slot)
      → ((since : ℕ → List Cell) (seen : ℕ → Cell) → ((slot : ℕ) → since slot ≡ []) → WorkKept slots since seen work.job.flight work.job.lasting (work.gave ++ gave ∷ []))
      → IsKept after v
  sync_kept work is gave image after v reached e f same fits =
      finish work is gave image v (made_durable w die u) after reached e f
      (λ at. durable_call w u k die work is gave image at same
      (fits _ image.seen (λ slot. ap (λ (f : ℕ → List Cell). f slot) (one_value_same die (λ s. []) u.since die refl))))

  -- no cell of a slot changes
  as_before : (image : DieImage) → image ≡ w.images die → (slot : ℕ) → image.seen slot ≡ (w.images die).seen slot
  as_before image e slot = ap (λ (i : DieImage). i.seen slot) e

  header_kept : (epoch live : ℕ) (payload : List ℕ) (lasting : Bool) (gave : Gave) (after : World) (v : Unsynced)
      → w.works die ≡ Some (working (Header epoch live) payload lasting []) → IsReached after
      → CallsWhole w u die (working (Header epoch live) payload lasting []) (Some (WritesHeader epoch live)) gave after v → IsKept after v
  header_kept epoch live payload lasting Accepted after v is reached c =
      sync_kept (working (Header epoch live) payload lasting []) is Accepted c.0 after v reached c.3 c.4 (λ slot. ap (λ (i : DieImage). i.seen slot) c.1) (λ since seen all. tt)
  header_kept epoch live payload lasting Refused after v is reached c =
      quiet_kept (working (Header epoch live) payload lasting []) is Refused c.0 after v _ reached c.3 c.4 refl refl (λ slot. ap (λ (i : DieImage). i.seen slot) c.1.1)
      (λ since seen same. tt)
  header_kept epoch live payload lasting (GaveCell cell) after v is reached c = absurd c.1

  read_kept : (flight : Flight) (from : ℕ) (payload : List ℕ) (lasting : Bool) (gave : Gave) (after : World) (v : Unsynced)
      → w.works die ≡ Some (working flight payload lasting []) → IsReached after
      → CallsWhole w u die (working flight payload lasting []) (Some (ReadsSlot from)) gave after v
      → ((cell : Cell) (since : ℕ → List Cell) (seen : ℕ → Cell) → ((slot : ℕ) → seen slot ≡ (w.images die).seen slot) → WorkKept slots since seen flight lasting (GaveCell cell ∷ []))
      → ((since : ℕ → List Cell) (seen : ℕ → Cell) → WorkKept slots since seen flight lasting (Refused ∷ [])) → IsKept after v
  read_kept flight from payload lasting Accepted after v is reached c fits refused = absurd c.1
  read_kept flight from payload lasting (GaveCell cell) after v is reached c fits refused =
      quiet_kept (working flight payload lasting []) is (GaveCell cell) c.0 after v u reached c.3 c.4 refl refl (as_before c.0 c.1.1) (fits cell)
  read_kept flight from payload lasting Refused after v is reached c fits refused =
      quiet_kept (working flight payload lasting []) is Refused c.0 after v u reached c.3 c.4 refl refl (as_before c.0 c.1) (λ since seen same. refused since seen)

  syncs_kept : (flight : Flight) (payload : List ℕ) (lasting : Bool) (list : List Gave) (gave : Gave) (after : World) (v : Unsynced)
      → w.works die ≡ Some (working flight payload lasting list) → IsReached after
      → CallsWhole w u die (working flight payload lasting list) (Some Syncs) gave after v
      → ((since : ℕ → List Cell) (seen : ℕ → Cell) → ((slot : ℕ) → since slot ≡ []) → WorkKept slots since seen flight lasting (list ++ Accepted ∷ []))
      → ((since : ℕ → List Cell) (seen : ℕ → Cell) → WorkKept slots since seen flight lasting (list ++ Refused ∷ [])) → IsKept after v
  syncs_kept flight payload lasting list (GaveCell cell) after v is reached c fits refused = absurd c.1
  syncs_kept flight payload lasting list Accepted after v is reached c fits refused =
      sync_kept (working flight payload lasting list) is Accepted c.0 after v reached c.3 c.4 (as_before c.0 c.1) fits
  syncs_kept flight payload lasting list Refused after v is reached c fits refused =
      quiet_kept (working flight payload lasting list) is Refused c.0 after v u reached c.3 c.4 refl refl (as_before c.0 c.1) (λ since seen same. refused since seen)

  program_fits : (page : Page) (version : Version) (slot : Slot) (lasting : Bool) (gave : Gave) (since : ℕ → List Cell) (seen : ℕ → Cell)
      → WorkKept slots since seen (Program page version slot) lasting (gave ∷ [])
  program_fits page version slot true Accepted since seen = tt
  program_fits page version slot true Refused since seen = tt
  program_fits page version slot true (GaveCell cell) since seen = tt
  program_fits page version slot false Accepted since seen = tt
  program_fits page version slot false Refused since seen = tt
  program_fits page version slot false (GaveCell cell) since seen = tt

  first_kept : (flight : Flight) (payload : List ℕ) (lasting : Bool) (gave : Gave) (after : World) (v : Unsynced)
      → w.works die ≡ Some (working flight payload lasting [])
      → IsReached after
      → CallsWhole w u die (working flight payload lasting []) (next_call die (job_of flight payload lasting) []) gave after v
      → IsKept after v
  first_kept (Header epoch live) payload lasting gave after v is reached c = header_kept epoch live payload lasting gave after v is reached c
  first_kept (Move page version from to) payload lasting gave after v is reached c =
      read_kept (Move page version from to) from.0 payload lasting gave after v is reached c
      (λ cell since seen same. ap is_sealed (same to.0) ∙ left_by (Move page version from to) payload lasting [] is) (λ since seen. tt)
  first_kept (Erase block) payload lasting gave after v is reached c =
      syncs_kept (Erase block) payload lasting [] gave after v is reached c
      (λ since seen all. record { settled = λ slot out. all slot; erased = λ slot both here. absurd (false≢true both) }) (λ since seen. tt)
  first_kept (Read batch page version slot) payload lasting gave after v is reached c =
      read_kept (Read batch page version slot) slot.0 payload lasting gave after v is reached c (λ cell since seen same. tt) (λ since seen. tt)
  first_kept (Program page version slot) payload lasting gave after v is reached c =
      program_kept page version slot payload lasting gave after v is reached c (program_fits page version slot lasting gave)
  first_kept (Sync flushes) payload lasting gave after v is reached c =
      syncs_kept (Sync flushes) payload lasting [] gave after v is reached c (λ since seen all. tt) (λ since seen. tt)

  second_kept : (flight : Flight) (payload : List ℕ) (lasting : Bool) (cell : Cell) (gave : Gave) (after : World) (v : Unsynced)
      → w.works die ≡ Some (working flight payload lasting (GaveCell cell ∷ [])) → IsReached after
      → CallsWhole w u die (working flight payload lasting (GaveCell cell ∷ [])) (second_call die flight cell) gave after v → IsKept after v
  second_kept (Move page version from to) payload lasting cell gave after v is reached c =
      let gives : moved_payload page.0 version die from.0 cell ≡ Some (w.payloads page.0 version.seq.0) =
      (holds.sound.works die (working (Move page version from to) payload lasting (GaveCell cell ∷ [])) is).gave in
      move_kept page version from to payload (w.payloads page.0 version.seq.0) lasting cell gave after v is reached
      (subst (λ (o : Option (List ℕ)). CallsWhole w u die (working (Move page version from to) payload lasting (GaveCell cell ∷ []))
      (option_map (λ bytes. ProgramsSlot to.0 (Sealed page.0 version die to.0 bytes)) o) gave after v) gives c)
  second_kept (Header epoch live) payload lasting cell gave after v is reached c = absurd c
  second_kept (Erase block) payload lasting cell gave after v is reached c = absurd c
  second_kept (Read batch page version slot) payload lasting cell gave after v is reached c = absurd c
  second_kept (Program page version slot) payload lasting cell gave after v is reached c = absurd c
  second_kept (Sync flushes) payload lasting cell gave after v is reached c = absurd c

  behind_kept : (flight : Flight) (payload : List ℕ) (lasting : Bool) (gave : Gave) (after : World) (v : Unsynced)
      → w.works die ≡ Some (working flight payload lasting (Accepted ∷ []))
      → IsReached after
      → CallsWhole w u die (working flight payload lasting (Accepted ∷ [])) (next_call die (job_of flight payload lasting) (Accepted ∷ [])) gave after v → IsKept after v
  behind_kept (Erase block) payload lasting gave after v is reached c = erase_kept block payload lasting gave after v is reached c
  behind_kept (Program page version slot) payload true gave after v is reached c =
      syncs_kept (Program page version slot) payload true (Accepted ∷ []) gave after v is reached c (λ since seen all. all) (λ since seen. tt)
  behind_kept (Program page version slot) payload false gave after v is reached c = absurd c
  behind_kept (Header epoch live) payload lasting gave after v is reached c = absurd c
  behind_kept (Move page version from to) payload lasting gave after v is reached c = absurd c
  behind_kept (Read batch page version slot) payload lasting gave after v is reached c = absurd c
  behind_kept (Sync flushes) payload lasting gave after v is reached c = absurd c

  next_kept : (flight : Flight) (payload : List ℕ) (lasting : Bool) (list : List Gave) (gave : Gave) (after : World) (v : Unsynced)
      → w.works die ≡ Some (working flight payload lasting list) → IsReached after
      → CallsWhole w u die (working flight payload lasting list) (next_call die (job_of flight payload lasting) list) gave after v
      → IsKept after v
  next_kept flight payload lasting [] gave after v is reached c = first_kept flight payload lasting gave after v is reached c
  next_kept flight payload lasting (GaveCell cell ∷ []) gave after v is reached c = second_kept flight payload lasting cell gave after v is reached c
  next_kept flight payload lasting (Accepted ∷ []) gave after v is reached c = behind_kept flight payload lasting gave after v is reached c
  next_kept flight payload lasting list gave after v is reached c = absurd c

  whole_of : (work : Work) (gave : Gave) (after : World) (v : Unsynced) (o : Option JobCall) → CallsNext w die (Some work) o gave after
      → IsWholeCall (is_in_block core.page_map) o gave (w.images die) (after.images die)
      → v ≡ option_map_or (λ call. behind_call w die call gave u) o u → CallsWhole w u die work o gave after v
  whole_of work gave after v None c whole e = absurd c
  whole_of work gave after v (Some call) c whole e =
      let image_is : after.images die ≡ c.0 = ap (λ (x : World). x.images die) c.2 ∙ one_value_same die c.0 w.images die refl in
      (c.0, c.1, subst (IsWholeCall (is_in_block core.page_map) (Some call) gave (w.images die)) image_is whole, c.2, e)

  pub call_is_kept : (gave : Gave) (after : World) → IsReached after → Happens w (ImageCall die gave) after
      → IsWhole w (ImageCall die gave) after
      → IsKept after (unsynced_behind w (ImageCall die gave) u)
  call_is_kept gave after reached happens whole = at (w.works die) refl happens whole
    where
      at : (o : Option Work) → w.works die ≡ o → CallsNext w die o (option_and_then (λ k. next_call die k.job k.gave) o) gave after
          → IsWholeCall (is_in_block core.page_map) (option_and_then (λ k. next_call die k.job k.gave) o) gave (w.images die) (after.images die)
          → IsKept after (unsynced_behind w (ImageCall die gave) u)
      at None is c whole = absurd c
      at (Some work) is c whole =
          next_kept work.job.flight work.job.payload work.job.lasting work.gave gave after (unsynced_behind w (ImageCall die gave) u) is reached
          (whole_of work gave after (unsynced_behind w (ImageCall die gave) u) (next_call die work.job work.gave) c whole
          (ap (λ (o : Option Work). option_map_or (λ call. behind_call w die call gave u) (option_and_then (λ k. next_call die k.job k.gave) o) u) is))
