-- Image calls keep what holds, whether they are accepted or refused.
use Rattle.fa_laws.proofs.Admitting.{one_value_other, one_value_same}
use Rattle.fa_laws.proofs.Calling.{touched_is_sound}
use Rattle.fa_laws.proofs.Invariant.{Holds, owned_of, scene_of}
use Rattle.fa_laws.proofs.Scene.{Bytes, IsTargetAt, JobFits, Owned, Places, WorkFits, writes}
use Rattle.fa_machine.specs.Cells.{Broken, Cell, Empty, Sealed, is_same_kind, moved_payload, payload_of}
use Rattle.fa_types.specs.declared.kind.Kind.{Kind}
use Rattle.fa_types.specs.declared.kind.Kind.TheVariants.{Data, Hole}
use Rattle.fa_machine.specs.Copies.{is_held_slot}
use Rattle.fa_machine.specs.State.{used_at}
use Rattle.fa_machine.specs.World.{DieImage, Gave, Work, World, with_cell, with_value}
use Rattle.fa_machine.specs.declared.jobs.Flight.{Flight}
use Rattle.fa_machine.specs.declared.jobs.Flight.TheVariants.{Erase, Header, Move, Program, Read, Sync}
use Rattle.fa_machine.specs.declared.places.Target.{Target}
use Rattle.fa_machine.specs.declared.places.Used.{Used}
use Rattle.fa_machine.specs.declared.places.Used.TheVariants.{Reserved}
use Rattle.fa_machine.specs.declared.places.Version.{Version}
use Rattle.std.proofs.Common.{Bool, List, None, Option, Some, ap, cond, eq-eqb, false, inl, inr, refl, subst, sym, ℕ, ◌∙◌, ◌≡◌, ◌≤◌, true}
use Rattle.std.proofs.Common.{◌⊎◌}
use Rattle.std.proofs.lemmas.Bool.{and_from, cases_eq, ne_eqb}
use Rattle.std.proofs.lemmas.Option.{none-some, same_Some}
use Rattle.std.specs.Prelude.{if◌then◌else◌, option_map, ◌&&◌, ◌==◌}

module _ (w : World) (h : Holds w) (die : ℕ) (work : Work) (works : w.works die ≡ Some work) (image : DieImage) (gave : List Gave) where
  abbrev images_then : ℕ → DieImage
  images_then = with_value die image w.images

  abbrev work_then : Work
  work_then = record work { gave = gave }

  abbrev works_then : ℕ → Option Work
  works_then = with_value die (Some work_then) w.works

  abbrev seen_then : ℕ → ℕ → Cell
  seen_then d slot = (images_then d).seen slot

  works_cases : (d : ℕ) (k : Work) → works_then d ≡ Some k → ((d ≡ die) × (work_then ≡ k)) ⊎ ((w.works d ≡ Some k) × (d ≡ die → ⊥))
  works_cases d k e =
      elim (cases_eq d die) [
        | inl same ↦ inl (same, same_Some work_then k (sym (one_value_same die (Some work_then) w.works d same) ∙ e))
        | inr apart ↦ inr (sym (one_value_other die (Some work_then) w.works d apart) ∙ e, apart)
      ]

  seen_here : (slot : ℕ) → seen_then die slot ≡ image.seen slot
  seen_here slot = ap (λ (i : DieImage). i.seen slot) (one_value_same die image w.images die refl)

  -- the flight of each die is as it was
  flights : (d : ℕ) → option_map {T = Work} (λ k. k.job.flight) (works_then d) ≡ option_map {T = Work} (λ k. k.job.flight) (w.works d)
  flights d =
      elim (cases_eq d die) [
        | inl same ↦ ap (option_map {T = Work} (λ k. k.job.flight)) (one_value_same die (Some work_then) w.works d same)
            ∙ sym (ap (option_map {T = Work} (λ k. k.job.flight)) (ap w.works same ∙ works))
        | inr apart ↦ ap (option_map {T = Work} (λ k. k.job.flight)) (one_value_other die (Some work_then) w.works d apart)
      ]

  written : (d slot : ℕ) → writes (works_then d) slot ≡ writes (w.works d) slot
  written d slot =
      elim (cases_eq d die) [
        | inl same ↦ ap (λ o. writes o slot) (one_value_same die (Some work_then) w.works d same) ∙ sym (ap (λ o. writes o slot) (ap w.works same ∙ works))
        | inr apart ↦ ap (λ o. writes o slot) (one_value_other die (Some work_then) w.works d apart)
      ]

  pub call_holds : ((slot : ℕ) → (image.seen slot ≡ (w.images die).seen slot)
      ⊎ ((is_held_slot (used_at w.core.page_map die slot) ≡ false)
      × ((q : Option ℕ) (x : Owned) (t : Target) → IsTargetAt (owned_of w.core.copying w.core.claims) die slot q x t → t.programmed ≡ false)))
      → WorkFits (record ((scene_of w).bytes) { seen = seen_then }) (scene_of w).places (scene_of w).in_block (w.due die).bytes die work_then
      → Holds (record w { images = images_then; works = works_then })
  call_holds here fits = record {
    sound = touched_is_sound (scene_of w) h.sound die seen_then works_then (record {
      elsewhere = λ d slot apart. ap (λ (i : DieImage). i.seen slot) (one_value_other die image w.images d apart);
      here = λ slot. elim (here slot) [
        | inl same ↦ inl (seen_here slot ∙ same)
        | inr touched ↦ inr touched
      ];
      works_are = λ d k e. elim (works_cases d k e) [
        | inr before ↦ inl before
        | inl new ↦ inr (subst (λ (t : ℕ × Work). WorkFits (record ((scene_of w).bytes) { seen = seen_then }) (scene_of w).places (scene_of w).in_block (w.due t.0).bytes t.0 t.1)
            {x = (die, work_then)} {y = (d, k)} (λ i. (sym new.0 i, new.1 i)) fits)
      ];
      writes_are = written;
    });
    jobs = λ d. h.jobs d ∙ sym (flights d);
    claims = h.claims;
    told = h.told;
    ordered = h.ordered;
    plain = h.plain;
    unwritten = h.unwritten;
    answered = record {
      since = h.answered.since;
      answers = h.answered.answers;
      reading = λ d k batch page version slot b e flight is. elim (works_cases d k e) [
        | inr before ↦ h.answered.reading d k batch page version slot b before.0 flight is
        | inl new ↦ subst (λ (n : ℕ). w.admitted batch.0 ≤ (w.due n).since) (sym new.0)
            (h.answered.reading die work batch page version slot b works (ap (λ (u : Work). u.job.flight) new.1 ∙ flight) is)
      ];
    };
  }

-- a job fits what stands where its slots are as they were
pub job_seen : (b : Bytes) (seen : ℕ → ℕ → Cell) (p : Places) (in_block : ℕ → ℕ → Bool) (due : List ℕ) (die : ℕ) (flight : Flight) (payload : List ℕ)
    → ((slot : ℕ) → seen die slot ≡ b.seen die slot) → JobFits b p in_block due die flight payload
    → JobFits (record b { seen = seen }) p in_block due die flight payload
job_seen b seen p in_block due die (Header epoch live) payload same before = tt
job_seen b seen p in_block due die (Move page version from to) payload same before = record {
  cell = ap (moved_payload page.0 version die from.0) (same from.0) ∙ before.cell;
  below = before.below;
  settled = before.settled;
  kept = before.kept;
  alone = before.alone;
}
job_seen b seen p in_block due die (Erase block) payload same before = before
job_seen b seen p in_block due die (Read batch page version slot) payload same before = record {
  cell = ap (payload_of page.0 version die slot.0) (same slot.0) ∙ before.cell;
  right = before.right;
  below = before.below;
}
job_seen b seen p in_block due die (Program page version slot) payload same before =
    record { bytes = before.bytes; below = before.below; place = before.place }
job_seen b seen p in_block due die (Sync flushes) payload same before = tt

-- what was sealed opens
pub opens : (page : ℕ) (version : Version) (die slot : ℕ) (payload : List ℕ) → payload_of page version die slot (Sealed page version die slot payload) ≡ Some payload
opens page version die slot payload =
    ap (λ b. cond b (Some payload) None)
    (and_from (page == page && version.seq.0 == version.seq.0 && die == die) (slot == slot)
    (and_from (page == page && version.seq.0 == version.seq.0) (die == die)
    (and_from (page == page) (version.seq.0 == version.seq.0) (eq-eqb page page refl) (eq-eqb version.seq.0 version.seq.0 refl))
    (eq-eqb die die refl)) (eq-eqb slot slot refl))

pub same_kind : (k : Kind) → is_same_kind k k ≡ true
same_kind Data = refl
same_kind Hole = refl

-- also for a move
pub moves : (page : ℕ) (version : Version) (die slot : ℕ) (payload : List ℕ) → moved_payload page version die slot (Sealed page version die slot payload) ≡ Some payload
moves page version die slot payload =
    ap (λ b. cond b (payload_of page version die slot (Sealed page version die slot payload)) None) (same_kind version.kind) ∙ opens page version die slot payload

-- what a move may copy a read gives too
pub read_too : (page : ℕ) (version : Version) (die slot : ℕ) (cell : Cell) (bytes : List ℕ) → moved_payload page version die slot cell ≡ Some bytes
    → payload_of page version die slot cell ≡ Some bytes
read_too page version die slot Empty bytes e = absurd (none-some bytes e)
read_too page version die slot Broken bytes e = absurd (none-some bytes e)
read_too page version die slot (Sealed p v d s payload) bytes e = of_kind (is_same_kind v.kind version.kind) e
  where
    of_kind : (b : Bool) → cond b (payload_of page version die slot (Sealed p v d s payload)) None ≡ Some bytes
        → payload_of page version die slot (Sealed p v d s payload) ≡ Some bytes
    of_kind true e = e
    of_kind false e = absurd (none-some bytes e)

pub with_cell_same : (slot : ℕ) (cell : Cell) (image : DieImage) → (with_cell slot cell image).seen slot ≡ cell
with_cell_same slot cell image = ap (λ b. if b then cell else image.seen slot) (eq-eqb slot slot refl)

pub with_cell_other : (slot k : ℕ) (cell : Cell) (image : DieImage) → (k ≡ slot → ⊥) → (with_cell slot cell image).seen k ≡ image.seen k
with_cell_other slot k cell image apart = ap (λ b. if b then cell else image.seen k) (ne_eqb k slot apart)

pub kept_unheld : (o : Option Used) → o ≡ Some Reserved → is_held_slot o ≡ false
kept_unheld o e = ap is_held_slot e
