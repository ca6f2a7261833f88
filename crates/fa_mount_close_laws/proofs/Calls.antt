-- What is known of cells stays so as jobs make their calls.
use Rattle.fa_mount_close_laws.proofs.Settling.{works_live}
use Rattle.fa_mount_close_laws.proofs.Sights.{HasTarget, IsComing, IsKnown, Known, coming_stays, flight_at, has_failed, has_refused, sight_of}
use Rattle.fa_mount_close_laws.specs.LastCells.{IsOfLast}
use Rattle.fa_laws.proofs.Admitting.{one_value_other, one_value_same}
use Rattle.fa_laws.proofs.Endings.{HappensCall}
use Rattle.fa_laws.proofs.ImageCalls.{with_cell_other, with_cell_same}
use Rattle.fa_laws.proofs.Invariant.{Holds, owned_of, scene_of}
use Rattle.fa_laws.proofs.Parts.{kept≢settled, target_kept}
use Rattle.fa_laws.proofs.Ranged.{Ranged, slots_total}
use Rattle.fa_laws.proofs.Scene.{IsMoving, IsTargetAt, IsWriting, JobFits, Owned, is_settled}
use Rattle.fa_machine.proofs.Maps.{has_some}
use Rattle.fa_machine.specs.Cells.{Broken, Cell, Empty, Sealed, is_same_kind, moved_payload, payload_of}
use Rattle.fa_machine.specs.Collecting.{is_in_block}
use Rattle.fa_machine.specs.Run.{CallsNext}
use Rattle.fa_machine.specs.State.{is_live, used_at}
use Rattle.fa_machine.specs.Taking.{Handed}
use Rattle.fa_machine.specs.World.{Accepted, Calls, DieImage, Gave, GaveCell, ProgramsSlot, Refused, Work, World, first_call, next_call}
use Rattle.fa_machine.specs.World.{call_behind, second_call, with_cell, with_value}
use Rattle.fa_machine.specs.Writing.{is_programming}
use Rattle.fa_machine.specs.declared.ids.Block.{Block}
use Rattle.fa_machine.specs.declared.jobs.Flight.{Flight}
use Rattle.fa_machine.specs.declared.jobs.Flight.TheVariants.{Erase, Header, Move, Program, Read, Sync}
use Rattle.fa_machine.specs.declared.places.Copying.{Copying}
use Rattle.fa_machine.specs.declared.places.Used.{Used}
use Rattle.fa_machine.specs.declared.places.Version.{Version}
use Rattle.fa_sound.specs.Owners.{owned_of as sound_of}
use Rattle.fa_sound.specs.Sound.{IsSound}
use Rattle.fa_types.specs.declared.kind.Kind.{Kind}
use Rattle.fa_types.specs.declared.kind.Kind.TheVariants.{Data, Hole}
use Rattle.fa_types.specs.declared.numbers.Page.{Page}
use Rattle.fa_types.specs.declared.numbers.Slot.{Slot}
use Rattle.std.proofs.Common.{Bool, List, None, Option, Some, [], ap, cond, eq-eqb, eqb-true, false, inl, inr, refl, subst, sym, true, ℕ, ◌<◌}
use Rattle.std.proofs.Common.{◌∙◌, ◌∷◌, ◌≡◌, ◌⊎◌}
use Rattle.std.proofs.lemmas.Bool.{and_parts, cases_Bool, cases_eq, false≢true, or_left}
use Rattle.std.proofs.lemmas.Option.{cond_some, none-some, same_Some}
use Rattle.std.specs.Prelude.{if◌then◌else◌, option_map, ◌&&◌, ◌==◌}

-- what a sealed cell is sealed with
abbrev page_in : Cell → ℕ
page_in (Sealed page version die slot payload) = page
page_in cell = 0

abbrev version_in : Version → Cell → Version
version_in other (Sealed page version die slot payload) = version
version_in other cell = other

abbrev payload_in : Cell → List ℕ
payload_in (Sealed page version die slot payload) = payload
payload_in cell = []

abbrev is_sealed : Cell → Bool
is_sealed (Sealed page version die slot payload) = true
is_sealed cell = false

same_kinds : (a b : Kind) → is_same_kind a b ≡ true → a ≡ b
same_kinds Data Data e = refl
same_kinds Hole Hole e = refl
same_kinds Data Hole e = absurd (false≢true e)
same_kinds Hole Data e = absurd (false≢true e)

one_version : (v u : Version) → v.seq.0 ≡ u.seq.0 → v.kind ≡ u.kind → v ≡ u
one_version v u e f = λ i. record { seq = record { 0 = e i }; kind = f i }

-- a cell that a move may copy is sealed so
pub sealed_so : (page : ℕ) (version : Version) (die slot : ℕ) (cell : Cell) (bytes : List ℕ) → moved_payload page version die slot cell ≡ Some bytes
    → cell ≡ Sealed page version die slot bytes
sealed_so page version die slot Empty bytes e = absurd (none-some bytes e)
sealed_so page version die slot Broken bytes e = absurd (none-some bytes e)
sealed_so page version die slot (Sealed p v d s payload) bytes e = of_kind (is_same_kind v.kind version.kind) refl e
  where
    of_kind : (b : Bool) → is_same_kind v.kind version.kind ≡ b → cond b (payload_of page version die slot (Sealed p v d s payload)) None ≡ Some bytes
        → Sealed p v d s payload ≡ Sealed page version die slot bytes
    of_kind false k f = absurd (none-some bytes f)
    of_kind true k f =
        let found = cond_some (p == page && v.seq.0 == version.seq.0 && d == die && s == slot) payload bytes f in
        let one = and_parts (p == page && v.seq.0 == version.seq.0 && d == die) (s == slot) found.0 in
        let two = and_parts (p == page && v.seq.0 == version.seq.0) (d == die) one.0 in
        let three = and_parts (p == page) (v.seq.0 == version.seq.0) two.0 in
        λ i. Sealed (eqb-true p page three.0 i) (one_version v version (eqb-true v.seq.0 version.seq.0 three.1) (same_kinds v.kind version.kind k) i)
        (eqb-true d die two.1 i) (eqb-true s slot one.1 i) (found.1 i)

abbrev working : Bool → Flight → List ℕ → List Gave → Work
working lasting flight payload gave = record { job = record { flight = flight; payload = payload; lasting = lasting }; gave = gave }

abbrev then_world : World → ℕ → Bool → Flight → List ℕ → List Gave → DieImage → World
then_world w die lasting flight payload gave image = record w {
  images = with_value die image w.images;
  works = with_value die (Some (working lasting flight payload gave)) w.works;
}

module _ (w : World) (h : Holds w) (ranged : Ranged w.core) (s : IsSound w.core) (k : Known (sight_of w)) where
  abbrev own : Option ℕ → Option Owned
  own = owned_of w.core.copying w.core.claims

  -- what is copied is of the page's last write, or of one before it
  copied_last : (x : Owned) → own None ≡ Some x → IsOfLast ((sight_of w).number x.page) (w.payloads x.page) x.version (w.payloads x.page x.version.seq.0)
  copied_last x e = of_copy w.core.copying refl e
    where
      of_copy : (c : Option Copying) → w.core.copying ≡ c → owned_of c w.core.claims None ≡ Some x
          → IsOfLast ((sight_of w).number x.page) (w.payloads x.page) x.version (w.payloads x.page x.version.seq.0)
      of_copy None is e = absurd (none-some x e)
      of_copy (Some c) is e =
          let old = s.old (record { page = c.page.0; version = c.version; targets = c.target ∷ [] }) (ap (λ o. sound_of o w.core.claims None) is) in
          let some = has_some ((sight_of w).number c.page.0) old.written in
          subst (λ (y : Owned). IsOfLast ((sight_of w).number y.page) (w.payloads y.page) y.version (w.payloads y.page y.version.seq.0)) (same_Some _ x e) (record {
            write = some.0;
            is_last = some.1;
            older = old.older some.0 some.1;
            same = λ same. (sym (old.same some.0 some.1 (sym same)), refl);
          })

  module _ (die : ℕ) (lasting : Bool) (flight : Flight) (payload : List ℕ) (list : List Gave) (works : w.works die ≡ Some (working lasting flight payload list))
      (was_fine : has_refused list ≡ false) where
    fits : JobFits (scene_of w).bytes (scene_of w).places (scene_of w).in_block (w.due die).bytes die flight payload
    fits = (h.sound.works die (working lasting flight payload list) works).job

    module _ (image : DieImage) (gave : List Gave) where
      abbrev images_then : ℕ → DieImage
      images_then = with_value die image w.images

      abbrev works_then : ℕ → Option Work
      works_then = with_value die (Some (working lasting flight payload gave)) w.works

      abbrev KnownAt : ℕ → Type 0
      KnownAt d = (p slot : ℕ) (v : Version) (bytes : List ℕ) → p < w.core.page_map.geometry.pages → (sight_of w).there d ≡ true → slot < slots_total w.core
          → has_failed (works_then d) ≡ false → (images_then d).seen slot ≡ Sealed p v d slot bytes
          → IsOfLast ((sight_of w).number p) (w.payloads p) v bytes ⊎ IsComing own (works_then d) d slot p v

      same_flight : (d : ℕ) → flight_at (works_then d) ≡ flight_at (w.works d)
      same_flight d =
          elim (cases_eq d die) [
            | inl same ↦ ap flight_at (one_value_same die (Some (working lasting flight payload gave)) w.works d same) ∙ sym (ap flight_at (ap w.works same ∙ works))
            | inr apart ↦ ap flight_at (one_value_other die (Some (working lasting flight payload gave)) w.works d apart)
          ]

      to_then : (d slot p : ℕ) (v : Version) (bytes : List ℕ) → IsKnown (sight_of w) p d slot v bytes
          → IsOfLast ((sight_of w).number p) (w.payloads p) v bytes ⊎ IsComing own (works_then d) d slot p v
      to_then d slot p v bytes (inl last) = inl last
      to_then d slot p v bytes (inr c) =
          inr (coming_stays own own (w.works d) (works_then d) d slot p v c c.at.owns (λ at. ap (λ o. is_programming o slot) (same_flight d) ∙ at))

      programs_then : (d : ℕ) (job : Work) (page : Page) (version : Version) (slot : Slot) → works_then d ≡ Some job → job.job.flight ≡ Program page version slot
          → HasTarget own d slot.0
      programs_then d job page version slot e is =
          elim (cases_eq d die) [
            | inr apart ↦ k.programs d job page version slot (sym (one_value_other die (Some (working lasting flight payload gave)) w.works d apart) ∙ e) is
            | inl same ↦
                let new = same_Some (working lasting flight payload gave) job (sym (one_value_same die (Some (working lasting flight payload gave)) w.works d same) ∙ e) in
                k.programs d (working lasting flight payload list) page version slot (ap w.works same ∙ works) (ap (λ (u : Work). u.job.flight) new ∙ is)
          ]

      -- of each slot that is sealed now it is known why, or it was so before
      called_known : (has_refused gave ≡ false → (p slot : ℕ) (v : Version) (bytes : List ℕ) → p < w.core.page_map.geometry.pages
          → image.seen slot ≡ Sealed p v die slot bytes → ((w.images die).seen slot ≡ Sealed p v die slot bytes) ⊎ IsKnown (sight_of w) p die slot v bytes)
          → Known (sight_of (then_world w die lasting flight payload gave image))
      called_known touched = record { cells = λ p d slot v bytes low there inside fine cell. at d p slot v bytes low there inside fine cell; waits = k.waits; programs = programs_then }
        where
          here : KnownAt die
          here p slot v bytes low there inside fine cell =
              let now_fine = sym (ap has_failed (one_value_same die (Some (working lasting flight payload gave)) w.works die refl)) ∙ fine in
              let now_cell = sym (ap (λ (i : DieImage). i.seen slot) (one_value_same die image w.images die refl)) ∙ cell in
              elim (touched now_fine p slot v bytes low now_cell) [
                | inl same ↦ to_then die slot p v bytes (k.cells p die slot v bytes low there inside (ap has_failed works ∙ was_fine) same)
                | inr known ↦ to_then die slot p v bytes known
              ]

          at : (d : ℕ) → KnownAt d
          at d =
              elim (cases_eq d die) [
                | inl same ↦ subst KnownAt (sym same) here
                | inr apart ↦ λ p slot v bytes low there inside fine cell. to_then d slot p v bytes
                    (k.cells p d slot v bytes low there inside
                    (sym (ap has_failed (one_value_other die (Some (working lasting flight payload gave)) w.works d apart)) ∙ fine)
                    (sym (ap (λ (i : DieImage). i.seen slot) (one_value_other die image w.images d apart)) ∙ cell))
              ]

      unseen_known : ((slot : ℕ) → image.seen slot ≡ (w.images die).seen slot) → Known (sight_of (then_world w die lasting flight payload gave image))
      unseen_known same = called_known (λ fine p slot v bytes low cell. inl (sym (same slot) ∙ cell))

      refused_known : has_refused gave ≡ true → Known (sight_of (then_world w die lasting flight payload gave image))
      refused_known refused = called_known (λ fine p slot v bytes low cell. absurd (false≢true (sym fine ∙ refused)))

      -- a call that seals one slot, of whose new cell it is known why it stands there
      sealed_known : (page : ℕ) (version : Version) (to : ℕ) (bytes : List ℕ) → image ≡ with_cell to (Sealed page version die to bytes) (w.images die)
          → (page < w.core.page_map.geometry.pages → IsKnown (sight_of w) page die to version bytes)
          → Known (sight_of (then_world w die lasting flight payload gave image))
      sealed_known page version to bytes is known = called_known (λ fine p slot v b low cell.
          elim (cases_eq slot to) [
            | inr apart ↦ inl (sym (ap (λ (i : DieImage). i.seen slot) is ∙ with_cell_other to slot (Sealed page version die to bytes) (w.images die) apart) ∙ cell)
            | inl same ↦
                let e : Sealed page version die to bytes ≡ Sealed p v die slot b =
                sym (ap (λ (i : DieImage). i.seen slot) is ∙ ap (with_cell to (Sealed page version die to bytes) (w.images die)).seen same
                ∙ with_cell_same to (Sealed page version die to bytes) (w.images die)) ∙ cell in
                let page_is : page ≡ p = ap page_in e in
                inr (subst (λ (t : ℕ × ℕ × Version × List ℕ). IsKnown (sight_of w) t.0 die t.1 t.2 t.3)
                {x = (page, to, version, bytes)} {y = (p, slot, v, b)} (λ i. (page_is i, sym same i, ap (version_in version) e i, ap payload_in e i))
                (known (subst (λ n. n < w.core.page_map.geometry.pages) (sym page_is) low)))
          ])

  -- a program seals what is reserved under a claim, or is copied
  program_sealed : (die : ℕ) (lasting : Bool) (page : Page) (version : Version) (slot : Slot) (payload : List ℕ) (list : List Gave)
      → w.works die ≡ Some (working lasting (Program page version slot) payload list) → IsKnown (sight_of w) page.0 die slot.0 version payload
  program_sealed die lasting page version slot payload list works = by_owner t.owner t.at
    where
      t : HasTarget own die slot.0
      t = k.programs die (working lasting (Program page version slot) payload list) page version slot works refl

      fits : IsWriting (scene_of w).bytes (scene_of w).places die page.0 version slot.0 payload
      fits = (h.sound.works die (working lasting (Program page version slot) payload list) works).job

      by_owner : (q : Option ℕ) → IsTargetAt own die slot.0 q t.owned t.target → IsKnown (sight_of w) page.0 die slot.0 version payload
      by_owner (Some id) at =
          let is = fits.place.target (Some id) t.owned t.target at in
          inr (record {
            claim = id;
            owned = t.owned;
            target = t.target;
            at = at;
            page_is = is.1;
            version_is = is.2;
            done = inr (ap (λ o. is_programming (flight_at o) slot.0) works ∙ eq-eqb slot.0 slot.0 refl);
          })
      by_owner None at =
          let is = fits.place.target None t.owned t.target at in
          inl (subst (λ b. IsOfLast ((sight_of w).number page.0) (w.payloads page.0) version b) (sym fits.bytes)
          (subst (λ (u : ℕ × Version). IsOfLast ((sight_of w).number u.0) (w.payloads u.0) u.1 (w.payloads u.0 u.1.seq.0))
          {x = (t.owned.page, t.owned.version)} {y = (page.0, version)} (λ i. (is.1 i, is.2 i)) (copied_last t.owned at.owns)))

  -- a move seals what stands where it came from
  move_sealed : (die : ℕ) (lasting : Bool) (page : Page) (version : Version) (from to : Slot) (payload : List ℕ) (cell : Cell)
      → w.works die ≡ Some (working lasting (Move page version from to) payload (GaveCell cell ∷ [])) → page.0 < w.core.page_map.geometry.pages
      → IsKnown (sight_of w) page.0 die to.0 version (w.payloads page.0 version.seq.0)
  move_sealed die lasting page version from to payload cell works low =
      let fits : IsMoving (scene_of w).bytes (scene_of w).places die page.0 version from.0 to.0 =
      (h.sound.works die (working lasting (Move page version from to) payload (GaveCell cell ∷ [])) works).job in
      let alive = works_live w h s k die (working lasting (Move page version from to) payload (GaveCell cell ∷ [])) works in
      elim (k.cells page.0 die from.0 version (w.payloads page.0 version.seq.0) low
      (or_left (is_live w.core.page_map die) _ alive) (inside (used_at w.core.page_map die from.0) refl fits.settled) (ap has_failed works)
      (sealed_so page.0 version die from.0 ((w.images die).seen from.0) _ fits.cell)) [
        | inl last ↦ inl last
        | inr c ↦ absurd (kept≢settled (used_at w.core.page_map die from.0)
            (target_kept (scene_of w) h.sound die from.0 (Some c.claim) c.owned c.target c.at alive) fits.settled)
      ]
    where
      inside : (u : Option Used) → used_at w.core.page_map die from.0 ≡ u → is_settled u ≡ true → from.0 < slots_total w.core
      inside None e settled = absurd (false≢true settled)
      inside (Some u) e settled = ranged die from.0 u e

  erase_known : (die : ℕ) (lasting : Bool) (block : Block) (payload : List ℕ) (image : DieImage) → w.works die ≡ Some (working lasting (Erase block) payload (Accepted ∷ []))
      → image ≡ record (w.images die) { seen = λ slot. if is_in_block w.core.page_map block.0 slot then Empty else (w.images die).seen slot }
      → Known (sight_of (then_world w die lasting (Erase block) payload (Accepted ∷ Accepted ∷ []) image))
  erase_known die lasting block payload image works is = called_known die lasting (Erase block) payload (Accepted ∷ []) works refl image (Accepted ∷ Accepted ∷ []) (λ fine p slot v bytes low cell.
      elim (cases_Bool (is_in_block w.core.page_map block.0 slot)) [
        | inl inside ↦ absurd (false≢true (ap is_sealed (sym (ap (λ (i : DieImage). i.seen slot) is
            ∙ ap {B = Cell} (λ b. if b then Empty else (w.images die).seen slot) inside) ∙ cell)))
        | inr outside ↦ inl (sym (ap (λ (i : DieImage). i.seen slot) is
            ∙ ap {B = Cell} (λ b. if b then Empty else (w.images die).seen slot) outside) ∙ cell)
      ])

  first_known : (die : ℕ) (lasting : Bool) (flight : Flight) (payload : List ℕ) (g : Gave) (image : DieImage) → w.works die ≡ Some (working lasting flight payload [])
      → Calls (is_in_block w.core.page_map) (first_call die flight payload) g (w.images die) image
      → Known (sight_of (then_world w die lasting flight payload (g ∷ []) image))
  first_known die lasting (Header epoch live) payload Accepted image works c =
      unseen_known die lasting (Header epoch live) payload [] works refl image (Accepted ∷ []) (λ slot. ap (λ (i : DieImage). i.seen slot) c)
  first_known die lasting (Header epoch live) payload Refused image works c = refused_known die lasting (Header epoch live) payload [] works refl image (Refused ∷ []) refl
  first_known die lasting (Header epoch live) payload (GaveCell cell) image works c = absurd c
  first_known die lasting (Sync flushes) payload Accepted image works c =
      unseen_known die lasting (Sync flushes) payload [] works refl image (Accepted ∷ []) (λ slot. ap (λ (i : DieImage). i.seen slot) c)
  first_known die lasting (Sync flushes) payload Refused image works c = refused_known die lasting (Sync flushes) payload [] works refl image (Refused ∷ []) refl
  first_known die lasting (Sync flushes) payload (GaveCell cell) image works c = absurd c
  first_known die lasting (Read batch page version slot) payload (GaveCell cell) image works c =
      unseen_known die lasting (Read batch page version slot) payload [] works refl image (GaveCell cell ∷ []) (λ slot. ap (λ (i : DieImage). i.seen slot) c.1)
  first_known die lasting (Read batch page version slot) payload Refused image works c =
      refused_known die lasting (Read batch page version slot) payload [] works refl image (Refused ∷ []) refl
  first_known die lasting (Read batch page version slot) payload Accepted image works c = absurd c
  first_known die lasting (Move page version from to) payload (GaveCell cell) image works c =
      unseen_known die lasting (Move page version from to) payload [] works refl image (GaveCell cell ∷ []) (λ slot. ap (λ (i : DieImage). i.seen slot) c.1)
  first_known die lasting (Move page version from to) payload Refused image works c =
      refused_known die lasting (Move page version from to) payload [] works refl image (Refused ∷ []) refl
  first_known die lasting (Move page version from to) payload Accepted image works c = absurd c
  first_known die lasting (Erase block) payload Accepted image works c =
      unseen_known die lasting (Erase block) payload [] works refl image (Accepted ∷ []) (λ slot. ap (λ (i : DieImage). i.seen slot) c)
  first_known die lasting (Erase block) payload Refused image works c = refused_known die lasting (Erase block) payload [] works refl image (Refused ∷ []) refl
  first_known die lasting (Erase block) payload (GaveCell cell) image works c = absurd c
  first_known die lasting (Program page version slot) payload Accepted image works c =
      sealed_known die lasting (Program page version slot) payload [] works refl image (Accepted ∷ []) page.0 version slot.0 payload c
      (λ low. program_sealed die lasting page version slot payload [] works)
  first_known die lasting (Program page version slot) payload Refused image works c =
      refused_known die lasting (Program page version slot) payload [] works refl image (Refused ∷ []) refl
  first_known die lasting (Program page version slot) payload (GaveCell cell) image works c = absurd c

  second_move : (die : ℕ) (lasting : Bool) (page : Page) (version : Version) (from to : Slot) (payload : List ℕ) (cell : Cell) (g : Gave) (image : DieImage)
      → w.works die ≡ Some (working lasting (Move page version from to) payload (GaveCell cell ∷ []))
      → Calls (is_in_block w.core.page_map) (ProgramsSlot to.0 (Sealed page.0 version die to.0 (w.payloads page.0 version.seq.0))) g (w.images die) image
      → Known (sight_of (then_world w die lasting (Move page version from to) payload (GaveCell cell ∷ g ∷ []) image))
  second_move die lasting page version from to payload cell Accepted image works c =
      sealed_known die lasting (Move page version from to) payload (GaveCell cell ∷ []) works refl image (GaveCell cell ∷ Accepted ∷ [])
      page.0 version to.0 (w.payloads page.0 version.seq.0) c (move_sealed die lasting page version from to payload cell works)
  second_move die lasting page version from to payload cell Refused image works c =
      refused_known die lasting (Move page version from to) payload (GaveCell cell ∷ []) works refl image (GaveCell cell ∷ Refused ∷ []) refl
  second_move die lasting page version from to payload cell (GaveCell other) image works c = absurd c

  second_known : (die : ℕ) (lasting : Bool) (flight : Flight) (payload : List ℕ) (cell : Cell) (g : Gave) (after : World)
      → w.works die ≡ Some (working lasting flight payload (GaveCell cell ∷ []))
      → CallsNext w die (Some (working lasting flight payload (GaveCell cell ∷ []))) (second_call die flight cell) g after → Known (sight_of after)
  second_known die lasting (Move page version from to) payload cell g after works c =
      let gives : moved_payload page.0 version die from.0 cell ≡ Some (w.payloads page.0 version.seq.0) =
      (h.sound.works die (working lasting (Move page version from to) payload (GaveCell cell ∷ [])) works).gave in
      let d = subst (λ o. CallsNext w die (Some (working lasting (Move page version from to) payload (GaveCell cell ∷ [])))
      (option_map (λ bytes. ProgramsSlot to.0 (Sealed page.0 version die to.0 bytes)) o) g after) gives c in
      subst (λ (v : World). Known (sight_of v)) (sym d.2) (second_move die lasting page version from to payload cell g d.0 works d.1)
  second_known die lasting (Header epoch live) payload cell g after works c = absurd c
  second_known die lasting (Erase block) payload cell g after works c = absurd c
  second_known die lasting (Read batch page version slot) payload cell g after works c = absurd c
  second_known die lasting (Program page version slot) payload cell g after works c = absurd c
  second_known die lasting (Sync flushes) payload cell g after works c = absurd c

  behind_known : (die : ℕ) (lasting : Bool) (flight : Flight) (payload : List ℕ) (g : Gave) (after : World)
      → w.works die ≡ Some (working lasting flight payload (Accepted ∷ []))
      → CallsNext w die (Some (working lasting flight payload (Accepted ∷ []))) (call_behind flight lasting) g after → Known (sight_of after)
  behind_known die lasting (Erase block) payload Accepted after works c =
      subst (λ (v : World). Known (sight_of v)) (sym c.2) (erase_known die lasting block payload c.0 works c.1)
  behind_known die lasting (Erase block) payload Refused after works c =
      subst (λ (v : World). Known (sight_of v)) (sym c.2)
      (refused_known die lasting (Erase block) payload (Accepted ∷ []) works refl c.0 (Accepted ∷ Refused ∷ []) refl)
  behind_known die lasting (Erase block) payload (GaveCell cell) after works c = absurd c.1
  behind_known die true (Program page version slot) payload Accepted after works c =
      subst (λ (v : World). Known (sight_of v)) (sym c.2)
      (unseen_known die true (Program page version slot) payload (Accepted ∷ []) works refl c.0 (Accepted ∷ Accepted ∷ [])
      (λ k. ap (λ (i : DieImage). i.seen k) c.1))
  behind_known die true (Program page version slot) payload Refused after works c =
      subst (λ (v : World). Known (sight_of v)) (sym c.2)
      (refused_known die true (Program page version slot) payload (Accepted ∷ []) works refl c.0 (Accepted ∷ Refused ∷ []) refl)
  behind_known die true (Program page version slot) payload (GaveCell cell) after works c = absurd c.1
  behind_known die false (Program page version slot) payload g after works c = absurd c
  behind_known die lasting (Header epoch live) payload g after works c = absurd c
  behind_known die lasting (Move page version from to) payload g after works c = absurd c
  behind_known die lasting (Read batch page version slot) payload g after works c = absurd c
  behind_known die lasting (Sync flushes) payload g after works c = absurd c

  next_known : (die : ℕ) (job : Handed) (list : List Gave) (g : Gave) (after : World) → w.works die ≡ Some (record { job = job; gave = list })
      → CallsNext w die (Some (record { job = job; gave = list })) (next_call die job list) g after → Known (sight_of after)
  next_known die job [] g after works c =
      subst (λ (v : World). Known (sight_of v)) (sym c.2) (first_known die job.lasting job.flight job.payload g c.0 works c.1)
  next_known die job (GaveCell cell ∷ []) g after works c = second_known die job.lasting job.flight job.payload cell g after works c
  next_known die job (Accepted ∷ []) g after works c = behind_known die job.lasting job.flight job.payload g after works c
  next_known die job list g after works c = absurd c

  work_case : (die : ℕ) (work : Option Work) (g : Gave) (after : World) → w.works die ≡ work → HappensCall w die work g after → Known (sight_of after)
  work_case die None g after works c = absurd c
  work_case die (Some work) g after works c = next_known die work.job work.gave g after works c

  -- an image call of a job in flight
  pub call_known : (die : ℕ) (g : Gave) (after : World) → HappensCall w die (w.works die) g after → Known (sight_of after)
  call_known die g after c = work_case die (w.works die) g after refl c
