-- Cells stay honest over every run.
use Rattle.fa_crash.proofs.Honest.{AreHonest, IsAsked, IsHad, IsHonest, LastLaw, event_honest, first_honest, had_since, stood}
use Rattle.fa_crash.proofs.Kept.{IsKept}
use Rattle.fa_crash.proofs.Laws.{Laws}
use Rattle.fa_crash.proofs.Runs.{beginning_kept, happens_kept, run_whole_keeps}
use Rattle.fa_crash.proofs.Shape.{Shape, shape_of, shape_whole}
use Rattle.fa_crash.specs.Flushed.{AreOfLast}
use Rattle.fa_crash.specs.Unsynced.{Unsynced, behind_call, nothing_unsynced, unsynced_behind}
use Rattle.fa_crash.specs.Whole.{IsWhole, RunWhole}
use Rattle.fa_laws.proofs.Admitting.{one_value_other, one_value_same}
use Rattle.fa_laws.proofs.Answering.{reached_holds}
use Rattle.fa_laws.proofs.Invariant.{Holds, scene_of}
use Rattle.fa_laws.proofs.Scene.{IsMoving, IsWriting}
use Rattle.fa_machine.specs.Among.{Among}
use Rattle.fa_machine.specs.Beginning.{IsBeginning}
use Rattle.fa_machine.specs.Cells.{Cell, Sealed, moved_payload}
use Rattle.fa_machine.specs.Collecting.{is_in_block}
use Rattle.fa_machine.specs.Run.{Event, Happening, Happens, ImageCall}
use Rattle.fa_machine.specs.State.{Core}
use Rattle.fa_machine.specs.Taking.{Handed}
use Rattle.fa_machine.specs.World.{Accepted, DieImage, ErasesBlock, Gave, GaveCell, JobCall, ProgramsSlot, ReadsSlot, Refused, Syncs, Work, World, WritesHeader}
use Rattle.fa_machine.specs.World.{call_behind, next_call, second_call, with_value}
use Rattle.fa_machine.specs.declared.jobs.Flight.{Flight}
use Rattle.fa_machine.specs.declared.jobs.Flight.TheVariants.{Erase, Header, Move, Program, Read, Sync}
use Rattle.fa_machine.specs.declared.places.Version.{Version}
use Rattle.fa_sound.specs.Sound.{IsSound}
use Rattle.std.proofs.Common.{Bool, List, Option, Some, [], ap, false, inl, inr, refl, subst, sym, true, ℕ, ◌∙◌, ◌∷◌, ◌≡◌, ◌≤◌, ◌⊎◌}
use Rattle.std.proofs.lemmas.Bool.{cases_eq}
use Rattle.std.proofs.lemmas.Option.{none-some}
use Rattle.std.specs.Prelude.{if◌then◌else◌, option_map, ◌==◌}

abbrev job_of : Flight → List ℕ → Bool → Handed
job_of flight payload lasting = record { flight = flight; payload = payload; lasting = lasting }

abbrev working : Flight → List ℕ → Bool → List Gave → Work
working flight payload lasting gave = record { job = job_of flight payload lasting; gave = gave }

abbrev pub asks : ℕ → ℕ → Version → ℕ → ℕ → List ℕ → Option JobCall
asks to page version die slot bytes = Some (ProgramsSlot to (Sealed page version die slot bytes))

same_page : (a b p q d e s t : ℕ) (v w : Version) (x y : List ℕ) → asks a p v d s x ≡ asks b q w e t y → p ≡ q
same_page a b p q d e s t v w x y h = cc

same_version : (a b p q d e s t : ℕ) (v w : Version) (x y : List ℕ) → asks a p v d s x ≡ asks b q w e t y → v ≡ w
same_version a b p q d e s t v w x y h = cc

same_bytes : (a b p q d e s t : ℕ) (v w : Version) (x y : List ℕ) → asks a p v d s x ≡ asks b q w e t y → x ≡ y
same_bytes a b p q d e s t v w x y h = cc

module _ (first w : World) (u : Unsynced) (k : IsKept w u) (die : ℕ) where
  holds : Holds w
  holds = reached_holds w k.reached

  -- what a job programs is what was reserved
  asked_bytes : (to page' : ℕ) (version' : Version) (d s slot : ℕ) (bytes' : List ℕ) (page : ℕ) (version : Version) (bytes : List ℕ)
      → asks slot page version die slot bytes ≡ asks to page' version' d s bytes' → version.seq.0 ≤ w.core.last
      → bytes ≡ w.payloads page version.seq.0
      → IsHonest first w page' version' bytes'
  asked_bytes to page' version' d s slot bytes' page version bytes e below is =
      let p = same_page slot to page page' die d slot s version version' bytes bytes' e in
      let v = same_version slot to page page' die d slot s version version' bytes bytes' e in
      let b = same_bytes slot to page page' die d slot s version version' bytes bytes' e in
      record {
        below = subst (λ (x : Version). x.seq.0 ≤ w.core.last) v below;
        bytes = inr (sym b ∙ is ∙ (λ i. w.payloads (p i) (v i).seq.0));
      }

  module _ (to page : ℕ) (version : Version) (d s : ℕ) (bytes : List ℕ) where
    abbrev asked : Option JobCall
    asked = asks to page version d s bytes

    first_asked : (flight : Flight) (payload : List ℕ) (lasting : Bool) → w.works die ≡ Some (working flight payload lasting [])
        → next_call die (job_of flight payload lasting) [] ≡ asked → IsHonest first w page version bytes
    first_asked (Program p v slot) payload lasting is e =
        let writing : IsWriting (scene_of w).bytes (scene_of w).places die p.0 v slot.0 payload =
        (holds.sound.works die (working (Program p v slot) payload lasting []) is).job in
        asked_bytes to page version d s slot.0 bytes p.0 v payload e writing.below writing.bytes
    first_asked (Header epoch live) payload lasting is e = absurd (cc)
    first_asked (Move p v from into) payload lasting is e = absurd (cc)
    first_asked (Erase block) payload lasting is e = absurd (cc)
    first_asked (Read batch p v slot) payload lasting is e = absurd (cc)
    first_asked (Sync flushes) payload lasting is e = absurd (cc)

    second_asked : (flight : Flight) (payload : List ℕ) (lasting : Bool) (cell : Cell)
        → w.works die ≡ Some (working flight payload lasting (GaveCell cell ∷ []))
        → second_call die flight cell ≡ asked → IsHonest first w page version bytes
    second_asked (Move p v from into) payload lasting cell is e =
        let fits = holds.sound.works die (working (Move p v from into) payload lasting (GaveCell cell ∷ [])) is in
        let gives : moved_payload p.0 v die from.0 cell ≡ Some (w.payloads p.0 v.seq.0) = fits.gave in
        let moving : IsMoving (scene_of w).bytes (scene_of w).places die p.0 v from.0 into.0 = fits.job in
        asked_bytes to page version d s into.0 bytes p.0 v (w.payloads p.0 v.seq.0)
        (sym (ap (option_map (λ payload. ProgramsSlot into.0 (Sealed p.0 v die into.0 payload))) gives) ∙ e) moving.below refl
    second_asked (Program p v slot) payload lasting cell is e = absurd (cc)
    second_asked (Header epoch live) payload lasting cell is e = absurd (cc)
    second_asked (Erase block) payload lasting cell is e = absurd (cc)
    second_asked (Read batch p v slot) payload lasting cell is e = absurd (cc)
    second_asked (Sync flushes) payload lasting cell is e = absurd (cc)

    behind_asked : (flight : Flight) (lasting : Bool) → call_behind flight lasting ≡ asked → IsHonest first w page version bytes
    behind_asked (Erase block) lasting e = absurd (cc)
    behind_asked (Program p v slot) true e = absurd (cc)
    behind_asked (Program p v slot) false e = absurd (cc)
    behind_asked (Header epoch live) lasting e = absurd (cc)
    behind_asked (Move p v from into) lasting e = absurd (cc)
    behind_asked (Read batch p v slot) lasting e = absurd (cc)
    behind_asked (Sync flushes) lasting e = absurd (cc)

    next_asked : (flight : Flight) (payload : List ℕ) (lasting : Bool) (list : List Gave)
        → w.works die ≡ Some (working flight payload lasting list)
        → next_call die (job_of flight payload lasting) list ≡ asked → IsHonest first w page version bytes
    next_asked flight payload lasting [] is e = first_asked flight payload lasting is e
    next_asked flight payload lasting (GaveCell cell ∷ []) is e = second_asked flight payload lasting cell is e
    next_asked flight payload lasting (Accepted ∷ []) is e = behind_asked flight lasting e
    next_asked flight payload lasting list is e = absurd (none-some (ProgramsSlot to (Sealed page version d s bytes)) e)

  -- the call that is made next
  call_asked : (work : Work) → w.works die ≡ Some work → (call : JobCall) → next_call die work.job work.gave ≡ Some call
      → (slot page : ℕ) (version : Version) (d s : ℕ)
      (bytes : List ℕ) → IsAsked call slot (Sealed page version d s bytes) → IsHonest first w page version bytes
  call_asked work is (ProgramsSlot to cell) next slot page version d s bytes is_asked =
      next_asked to page version d s bytes work.job.flight work.job.payload work.job.lasting work.gave is
      (next ∙ ap (λ (c : Cell). Some (ProgramsSlot to c)) is_asked.1)
  call_asked work is (ReadsSlot from) next slot page version d s bytes is_asked = absurd is_asked
  call_asked work is (ErasesBlock block) next slot page version d s bytes is_asked = absurd is_asked
  call_asked work is (WritesHeader epoch live) next slot page version d s bytes is_asked = absurd is_asked
  call_asked work is Syncs next slot page version d s bytes is_asked = absurd is_asked

  pub since_other : (call : JobCall) (gave : Gave) (d : ℕ) → (d ≡ die → ⊥) → (behind_call w die call gave u).since d ≡ u.since d
  since_other (ProgramsSlot to cell) gave d apart =
      one_value_other die (λ s. if s == to then (w.images die).seen s ∷ u.since die s else u.since die s) u.since d apart
  since_other (ErasesBlock block) gave d apart =
      one_value_other die (λ s. if is_in_block w.core.page_map block s then (w.images die).seen s ∷ u.since die s else u.since die s) u.since d apart
  since_other (WritesHeader epoch live) Accepted d apart = one_value_other die (λ s. []) u.since d apart
  since_other (WritesHeader epoch live) Refused d apart = refl
  since_other (WritesHeader epoch live) (GaveCell c) d apart = refl
  since_other Syncs Accepted d apart = one_value_other die (λ s. []) u.since d apart
  since_other Syncs Refused d apart = refl
  since_other Syncs (GaveCell c) d apart = refl
  since_other (ReadsSlot from) gave d apart = refl

  module _ (honest : AreHonest first w u) (gave : Gave) (after : World) (happens : Happens w (ImageCall die gave) after) (whole : IsWhole w (ImageCall die gave) after) where
    s : Shape w u die gave after
    s = shape_of w u die gave after happens

    same_then : (page : ℕ) (version : Version) (payload : List ℕ) → IsHonest first w page version payload
        → IsHonest first after page version payload
    same_then page version payload h = record {
      below = subst (λ (c : Core). version.seq.0 ≤ c.last) (sym s.core_same) h.below;
      bytes = elim h.bytes [
        | inl old ↦ inl old
        | inr is ↦ inr (is ∙ sym (ap (λ (f : ℕ → ℕ → List ℕ). f page version.seq.0) s.last_same))
      ];
    }

    had_behind : (d slot : ℕ) (cell : Cell) → IsHad after (unsynced_behind w (ImageCall die gave) u) d slot cell
        → (cell ≡ (with_value die s.image w.images d).seen slot) ⊎ Among cell ((behind_call w die s.call gave u).since d slot)
    had_behind d slot cell (inl stands) = inl (stands ∙ ap (λ (f : ℕ → DieImage). (f d).seen slot) s.images_then)
    had_behind d slot cell (inr among) = inr (subst (λ (v : Unsynced). Among cell (v.since d slot)) s.behind_is among)

    had_before : (d slot page : ℕ) (version : Version) (payload : List ℕ) → (d ≡ die) ⊎ (d ≡ die → ⊥)
        → (Sealed page version d slot payload ≡ (with_value die s.image w.images d).seen slot) ⊎ Among (Sealed page version d slot payload) ((behind_call w die s.call gave u).since d slot)
        → IsHad w u d slot (Sealed page version d slot payload) ⊎ IsAsked s.call slot (Sealed page version d slot payload)
    had_before d slot page version payload (inr apart) (inl stands) =
        inl (inl (stands ∙ ap (λ (i : DieImage). i.seen slot) (one_value_other die s.image w.images d apart)))
    had_before d slot page version payload (inr apart) (inr among) =
        inl (inr (subst (Among (Sealed page version d slot payload)) (ap (λ (f : ℕ → List Cell). f slot) (since_other s.call gave d apart)) among))
    had_before d slot page version payload (inl same) (inr among) =
        inl (subst (λ (n : ℕ). IsHad w u n slot (Sealed page version d slot payload)) (sym same)
        (had_since w u die s.image s.call gave slot (Sealed page version d slot payload)
        (subst (λ (n : ℕ). Among (Sealed page version d slot payload) ((behind_call w die s.call gave u).since n slot)) same among)))
    had_before d slot page version payload (inl same) (inl stands) =
        let here : s.image.seen slot ≡ Sealed page version d slot payload =
        sym (ap (λ (i : DieImage). i.seen slot) (one_value_same die s.image w.images d same)) ∙ sym stands in
        elim (stood w u die s.image s.call gave s.calls (shape_whole w u die gave after s whole) slot page version d slot payload here) [
          | inl before ↦ inl (inl (sym (ap (λ (n : ℕ). (w.images n).seen slot) same ∙ before)))
          | inr new ↦ inr new
        ]

    pub call_honest : AreHonest first after (unsynced_behind w (ImageCall die gave) u)
    call_honest page d slot version payload low inside ours had =
        same_then page version payload (elim (had_before d slot page version payload (cases_eq d die) (had_behind d slot (Sealed page version d slot payload) had)) [
          | inl before ↦ honest page d slot version payload low inside ours before
          | inr new ↦ call_asked s.work s.is s.call s.next slot page version d slot payload new
        ])

-- what is kept, and honest
pub record KeptHonest (first w : World) (u : Unsynced) : Type 0 where
  pub kept : IsKept w u
  pub honest : AreHonest first w u

happens_honest : Laws → LastLaw → (first w : World) (u : Unsynced) (happening : Happening) (after : World) → KeptHonest first w u
    → Happens w happening after
    → IsWhole w happening after → KeptHonest first after (unsynced_behind w happening u)
happens_honest laws last_law first w u (Event act) after k happens whole =
    record { kept = happens_kept laws w u (Event act) after k.kept happens whole; honest = event_honest last_law first w u k.honest act after happens }
happens_honest laws last_law first w u (ImageCall die gave) after k happens whole = record {
  kept = happens_kept laws w u (ImageCall die gave) after k.kept happens whole;
  honest = call_honest first w u k.kept die k.honest gave after happens whole;
}

pub run_honest : Laws → LastLaw → ((w : World) → IsBeginning w → IsSound w.core)
    → (first : World) (happenings : List Happening) (last : World) (v : Unsynced)
    → IsBeginning first → AreOfLast first → RunWhole first (nothing_unsynced first) happenings last v → AreHonest first last v
run_honest laws last_law begins_sound first happenings last v b cells run =
    (run_whole_keeps (KeptHonest first) (happens_honest laws last_law first) first (nothing_unsynced first) happenings last v
    (record { kept = beginning_kept begins_sound first b; honest = first_honest first b cells }) run).honest
