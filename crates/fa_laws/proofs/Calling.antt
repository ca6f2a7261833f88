-- An image call of a job touches no slot in which a copy stands.
use Rattle.fa_laws.proofs.Scene.{Bytes, GaveFits, IsHeld, IsTargetAt, JobFits, Owned, Scene, Sound, Stands, WorkFits, writes}
use Rattle.fa_machine.specs.Among.{Among}
use Rattle.fa_machine.specs.Cells.{Cell, moved_payload, payload_of}
use Rattle.fa_machine.specs.Copies.{is_held_slot}
use Rattle.fa_machine.specs.State.{is_live}
use Rattle.fa_machine.specs.World.{Accepted, Gave, GaveCell, Work}
use Rattle.fa_machine.specs.declared.jobs.Flight.{Flight}
use Rattle.fa_machine.specs.declared.jobs.Flight.TheVariants.{Erase, Header, Move, Program, Read, Sync}
use Rattle.fa_machine.specs.declared.places.Target.{Target}
use Rattle.fa_machine.specs.declared.places.Used.TheVariants.{Held}
use Rattle.fa_machine.specs.declared.places.Version.{Version}
use Rattle.fa_types.specs.declared.numbers.Page.{Page}
use Rattle.std.proofs.Common.{List, Option, Some, [], ap, arith, false, inl, inr, refl, sym, true, ℕ, ◌∙◌, ◌∷◌, ◌≡◌, ◌⊎◌}
use Rattle.std.proofs.lemmas.Bool.{cases_eq, false≢true}

-- The calls of a die's job change what stands in some of its slots: in none that holds a page, and in none that was
-- programmed for something reserved. What the job's calls gave fits what stands there then.
pub record Touches (s : Scene) (out : ℕ) (seen : ℕ → ℕ → Cell) (works : ℕ → Option Work) : Type 0 where
  pub elsewhere : (die slot : ℕ) → (die ≡ out → ⊥) → seen die slot ≡ s.bytes.seen die slot
  pub here : (slot : ℕ) → (seen out slot ≡ s.bytes.seen out slot)
      ⊎ ((is_held_slot (s.places.used out slot) ≡ false)
      × ((q : Option ℕ) (x : Owned) (t : Target) → IsTargetAt s.places.own out slot q x t → t.programmed ≡ false))
  pub works_are : (die : ℕ) (work : Work) → works die ≡ Some work
      → ((s.works die ≡ Some work) × (die ≡ out → ⊥))
      ⊎ WorkFits (record (s.bytes) { seen = seen }) s.places s.in_block (s.due die) die work
  pub writes_are : (die slot : ℕ) → writes (works die) slot ≡ writes (s.works die) slot

module _ (s : Scene) (h : Sound s) (out : ℕ) (seen : ℕ → ℕ → Cell) (works : ℕ → Option Work) (c : Touches s out seen works) where
  abbrev now : Bytes
  now = record (s.bytes) { seen = seen }

  stands_held : (die slot : ℕ) (page : Page) (version : Version) → s.places.used die slot ≡ Some (Held page version) → IsHeld now die slot page.0 version
  stands_held die slot page version e =
      let was = h.held die slot page version e in
      elim (cases_eq die out) [
        | inr away ↦ record { cell = ap (moved_payload page.0 version die slot) (c.elsewhere die slot away) ∙ was.cell; below = was.below }
        | inl same ↦ elim (c.here slot) [
          | inl kept ↦ record {
            cell = ap (moved_payload page.0 version die slot) (ap (λ (d : ℕ). seen d slot) same ∙ kept ∙ ap (λ (d : ℕ). s.bytes.seen d slot) (sym same)) ∙ was.cell;
            below = was.below;
          }
          | inr touched ↦ absurd (false≢true (sym touched.0 ∙ ap is_held_slot (ap (λ (d : ℕ). s.places.used d slot) (sym same) ∙ e)))
        ]
      ]

  stands_done : (q : Option ℕ) (x : Owned) (t : Target) → s.places.own q ≡ Some x → Among t x.targets → s.places.live t.die.0 ≡ true
      → t.programmed ≡ true → Stands now x.page x.version t.die.0 t.slot.0
  stands_done q x t owns among is_live done =
      let was = ((h.owned q x owns).targets t among).done is_live done in
      elim (cases_eq t.die.0 out) [
        | inr away ↦ ap (moved_payload x.page x.version t.die.0 t.slot.0) (c.elsewhere t.die.0 t.slot.0 away) ∙ was
        | inl same ↦ elim (c.here t.slot.0) [
          | inl kept ↦ ap (moved_payload x.page x.version t.die.0 t.slot.0)
              (ap (λ (d : ℕ). seen d t.slot.0) same ∙ kept ∙ ap (λ (d : ℕ). s.bytes.seen d t.slot.0) (sym same)) ∙ was
          | inr touched ↦ absurd (false≢true (sym (touched.1 q x t (record { owns = owns; among = among; on_die = same; at_slot = refl })) ∙ done))
        ]
      ]

  job_elsewhere : (die : ℕ) → (die ≡ out → ⊥) → (due : List ℕ) (flight : Flight) (payload : List ℕ)
      → JobFits s.bytes s.places s.in_block due die flight payload → JobFits now s.places s.in_block due die flight payload
  job_elsewhere die away due (Header epoch live) payload before = tt
  job_elsewhere die away due (Move page version from to) payload before = record {
    cell = ap (moved_payload page.0 version die from.0) (c.elsewhere die from.0 away) ∙ before.cell;
    below = before.below;
    settled = before.settled;
    kept = before.kept;
    alone = before.alone;
  }
  job_elsewhere die away due (Erase block) payload before = before
  job_elsewhere die away due (Read batch page version slot) payload before = record {
    cell = ap (payload_of page.0 version die slot.0) (c.elsewhere die slot.0 away) ∙ before.cell;
    right = before.right;
    below = before.below;
  }
  job_elsewhere die away due (Program page version slot) payload before =
      record { bytes = before.bytes; below = before.below; place = before.place }
  job_elsewhere die away due (Sync flushes) payload before = tt

  gave_elsewhere : (die : ℕ) → (die ≡ out → ⊥) → (flight : Flight) (gave : List Gave) → GaveFits s.bytes die flight gave → GaveFits now die flight gave
  gave_elsewhere die away (Read batch page version slot) (GaveCell cell ∷ []) g = g ∙ sym (c.elsewhere die slot.0 away)
  gave_elsewhere die away (Program page version slot) (Accepted ∷ gave) g = ap (moved_payload page.0 version die slot.0) (c.elsewhere die slot.0 away) ∙ g
  gave_elsewhere die away (Move page version from to) (GaveCell cell ∷ []) g = g
  gave_elsewhere die away (Move page version from to) (GaveCell cell ∷ Accepted ∷ []) g =
      ap (moved_payload page.0 version die to.0) (c.elsewhere die to.0 away) ∙ g
  gave_elsewhere die away flight gave g = tt

  pub touched_is_sound : Sound (record s { bytes = now; works = works })
  touched_is_sound = record {
    numbered = λ page v e. let was = h.numbered page v e in record { right = was.right; hole = was.hole; below = was.below };
    held = stands_held;
    owned = λ q x e. let was = h.owned q x e in record {
      right = record { inside = was.right.inside; hole = was.right.hole; below = was.right.below };
      targets = λ t among. let of_t = was.targets t among in record {
        fresh = of_t.fresh;
        kept = of_t.kept;
        done = stands_done q x t e among;
      };
    };
    apart = h.apart;
    waits = λ w among. let was = h.waits w among in record { payload = was.payload; below = was.below; place = was.place };
    once = λ die slot. let e = c.writes_are die slot in let n = h.once die slot in omega (arith, e, n);
    works = λ die work e. elim (c.works_are die work e) [
      | inl before ↦ let was = h.works die work before.0 in record {
        job = job_elsewhere die before.1 (s.due die) work.job.flight work.job.payload was.job;
        gave = gave_elsewhere die before.1 work.job.flight work.gave was.gave;
      }
      | inr fits ↦ fits
    ];
    spares = h.spares;
  }
