-- How programs and moves end: a target is marked as programmed, and a slot to which a copy was moved is settled.
use Rattle.fa_machine.proofs.Lists.{among-map}
use Rattle.fa_laws.proofs.Keeping.{Preserves, job_preserved}
use Rattle.fa_laws.proofs.Parts.{held≢stale, moved_stands, same_held}
use Rattle.fa_laws.proofs.Scene.{IsHeld, IsOwned, IsTarget, IsTargetAt, IsToCome, IsWaiting, Owned, Places, Scene, Sound}
use Rattle.fa_machine.specs.Among.{Among}
use Rattle.fa_laws.proofs.Scene.{Stands, is_settled}
use Rattle.fa_machine.specs.Copies.{is_held_slot}
use Rattle.fa_machine.specs.State.{WaitingProgram}
use Rattle.fa_machine.specs.Taking.{mark}
use Rattle.fa_machine.specs.declared.places.Target.{Target}
use Rattle.fa_machine.specs.declared.places.Used.{Used}
use Rattle.fa_machine.specs.declared.places.Used.TheVariants.{Held, Reserved, Stale}
use Rattle.fa_machine.specs.declared.places.Version.{Version}
use Rattle.fa_types.specs.declared.numbers.Page.{Page}
use Rattle.std.proofs.Common.{Bool, None, Option, Some, ap, eqb-true, false, inl, inr, map, refl, subst, sym, true, ℕ, ◌∙◌}
use Rattle.std.proofs.Common.{◌≡◌, ◌≤◌, ◌⊎◌}
use Rattle.std.proofs.lemmas.Bool.{and_parts, cases_Bool, cases_eq}
use Rattle.std.proofs.lemmas.Option.{none-some}
use Rattle.std.specs.Prelude.{if◌then◌else◌, ◌&&◌, ◌==◌}

abbrev pub marked : ℕ → ℕ → Owned → Owned
marked die slot x = record x { targets = map (mark die slot) x.targets }

mark_die_if : (b : Bool) (t : Target) → ◌≡◌ {A = ℕ} (if b then record t { programmed = true } else t).die.0 t.die.0
mark_die_if true t = refl
mark_die_if false t = refl

mark_slot_if : (b : Bool) (t : Target) → ◌≡◌ {A = ℕ} (if b then record t { programmed = true } else t).slot.0 t.slot.0
mark_slot_if true t = refl
mark_slot_if false t = refl

pub mark_die : (die slot : ℕ) (t : Target) → (mark die slot t).die.0 ≡ t.die.0
mark_die die slot t = mark_die_if (t.die.0 == die && t.slot.0 == slot) t

pub mark_slot : (die slot : ℕ) (t : Target) → (mark die slot t).slot.0 ≡ t.slot.0
mark_slot die slot t = mark_slot_if (t.die.0 == die && t.slot.0 == slot) t

pub mark_other : (die slot : ℕ) (t : Target) → (t.die.0 ≡ die → t.slot.0 ≡ slot → ⊥) → mark die slot t ≡ t
mark_other die slot t apart =
    elim (cases_Bool (t.die.0 == die && t.slot.0 == slot)) [
      | inl here ↦
          let parts = and_parts (t.die.0 == die) (t.slot.0 == slot) here in
          absurd (apart (eqb-true t.die.0 die parts.0) (eqb-true t.slot.0 slot parts.1))
      | inr away ↦ ap {B = Target} (λ b. if b then record t { programmed = true } else t) away
    ]

-- a target is at a slot or not
here_or_not : (die slot : ℕ) (t : Target) → ((t.die.0 ≡ die) × (t.slot.0 ≡ slot)) ⊎ (t.die.0 ≡ die → t.slot.0 ≡ slot → ⊥)
here_or_not die slot t =
    elim (cases_eq t.die.0 die) [
      | inr away ↦ inr (λ e f. away e)
      | inl same ↦ elim (cases_eq t.slot.0 slot) [
        | inl here ↦ inl (same, here)
        | inr away ↦ inr (λ e f. away f)
      ]
    ]

-- a slot was programmed that was to come
pub record Marks (s : Scene) (die slot page : ℕ) (version : Version) (own : Option ℕ → Option Owned) : Type 0 where
  pub owner : (q : Option ℕ) (y : Owned) → own q ≡ Some y → (x : Owned) × (s.places.own q ≡ Some x) × (marked die slot x ≡ y)
  pub come : IsToCome s.places die slot page version
  pub stands : Stands s.bytes page version die slot
  pub calm : (w : WaitingProgram) → Among w s.waiting → w.die ≡ die → w.slot ≡ slot → ⊥
  pub free : s.works die ≡ None

module _ (s : Scene) (h : Sound s) (die slot page : ℕ) (version : Version) (own : Option ℕ → Option Owned)
    (c : Marks s die slot page version own) where
  abbrev after_mark : Places
  after_mark = record (s.places) { own = own }

  -- the target that was marked
  record Before (d k : ℕ) (q : Option ℕ) (y : Owned) (t : Target) : Type 0 where
    x : Owned
    u : Target
    at : IsTargetAt s.places.own d k q x u
    is : marked die slot x ≡ y
    mark_is : mark die slot u ≡ t

  before : (d k : ℕ) (q : Option ℕ) (y : Owned) (t : Target) → IsTargetAt own d k q y t → Before d k q y t
  before d k q y t at =
      let owns = c.owner q y at.owns in
      let found = among-map (mark die slot) t owns.0.targets (subst (λ (z : Owned). Among t z.targets) (sym owns.2) at.among) in
      let u = found.0 in
      record {
        x = owns.0;
        u = u;
        at = record {
          owns = owns.1;
          among = found.1;
          on_die = sym (mark_die die slot u) ∙ ap (λ (z : Target). z.die.0) found.2 ∙ at.on_die;
          at_slot = sym (mark_slot die slot u) ∙ ap (λ (z : Target). z.slot.0) found.2 ∙ at.at_slot;
        };
        is = owns.2;
        mark_is = found.2;
      }

  pages_are : (x y : Owned) → marked die slot x ≡ y → x.page ≡ y.page
  pages_are x y e = ap (λ (z : Owned). z.page) e

  versions_are : (x y : Owned) → marked die slot x ≡ y → x.version ≡ y.version
  versions_are x y e = ap (λ (z : Owned). z.version) e

  target_marked : (q : Option ℕ) (x : Owned) → s.places.own q ≡ Some x → (u : Target) → Among u x.targets
      → IsTarget s.bytes after_mark (marked die slot x) (mark die slot u)
  target_marked q x owns u among =
      let was = (h.owned q x owns).targets u among in
      elim (here_or_not die slot u) [
        | inr away ↦ subst (IsTarget s.bytes after_mark (marked die slot x)) (sym (mark_other die slot u away))
            (record { fresh = was.fresh; kept = was.kept; done = was.done })
        | inl here ↦
            let is = c.come.target q x u (record { owns = owns; among = among; on_die = here.0; at_slot = here.1 }) in
            let d = mark_die die slot u in
            let k = mark_slot die slot u in
            record {
              fresh = ap s.places.spare d ∙ was.fresh;
              kept = λ is_live. (λ i. s.places.used (d i) (k i)) ∙ was.kept (sym (ap s.places.live d) ∙ is_live);
              done = λ is_live done. moved_stands s.bytes page x.page version x.version die (mark die slot u).die.0 slot (mark die slot u).slot.0
                  (sym is.1) (sym is.2) (sym (d ∙ here.0)) (sym (k ∙ here.1)) c.stands;
            }
      ]

  owned_then : (q : Option ℕ) (y : Owned) → own q ≡ Some y → IsOwned s.bytes after_mark y
  owned_then q y e =
      let owns = c.owner q y e in
      let x = owns.0 in
      subst (IsOwned s.bytes after_mark) owns.2 (record {
        right = let was = (h.owned q x owns.1).right in record { inside = was.inside; hole = was.hole; below = was.below };
        targets = λ t among.
            let found = among-map (mark die slot) t x.targets among in
            subst (IsTarget s.bytes after_mark (marked die slot x)) found.2 (target_marked q x owns.1 found.0 found.1);
      })

  preserves : (d : ℕ) → (d ≡ die → ⊥) → Preserves s.places after_mark d
  preserves d away = record {
    kept = λ k e. e;
    settled = λ k e. e;
    unheld = λ k e. e;
    target = λ k q y t at.
        let b = before d k q y t at in
        let same : b.u ≡ t = sym (mark_other die slot b.u (λ e f. away (sym b.at.on_die ∙ e))) ∙ b.mark_is in
        (b.x, subst (IsTargetAt s.places.own d k q b.x) same b.at, pages_are b.x y b.is, versions_are b.x y b.is);
  }

  waits_then : (w : WaitingProgram) → Among w s.waiting → IsWaiting s.bytes after_mark w
  waits_then w among =
      let was = h.waits w among in
      record {
        payload = was.payload;
        below = was.below;
        place = record {
          kept = was.place.kept;
          target = λ q y t at.
              let b = before w.die w.slot q y t at in
              let is = was.place.target q b.x b.u b.at in
              let same : b.u ≡ t = sym (mark_other die slot b.u (λ e f. c.calm w among (sym b.at.on_die ∙ e) (sym b.at.at_slot ∙ f))) ∙ b.mark_is in
              (sym (ap (λ (z : Target). z.programmed) same) ∙ is.0, sym (pages_are b.x y b.is) ∙ is.1, sym (versions_are b.x y b.is) ∙ is.2);
        };
      }

  pub marked_is_sound : Sound (record s { places = after_mark })
  marked_is_sound = record {
    numbered = h.numbered;
    held = h.held;
    owned = owned_then;
    apart = λ d k q y t r z u at other is_live. h.apart d k q (before d k q y t at).x (before d k q y t at).u r (before d k r z u other).x (before d k r z u other).u
        (before d k q y t at).at (before d k r z u other).at is_live;
    waits = waits_then;
    once = h.once;
    works = λ d work e. record {
      job = job_preserved s.places after_mark d (preserves d (λ same. absurd (none-some work (sym c.free ∙ sym (ap s.works same) ∙ e)))) s.bytes s.in_block
          (s.due d) work.job.flight work.job.payload (h.works d work e).job;
      gave = (h.works d work e).gave;
    };
    spares = h.spares;
  }

-- A slot that was kept for a move holds the copy after_mark, or is stale.
pub record Lands (s : Scene) (die slot : ℕ) (final : Used) (used : ℕ → ℕ → Option Used) : Type 0 where
  pub kept : s.places.used die slot ≡ Some Reserved
  pub placed : (d k : ℕ) → (used d k ≡ s.places.used d k) ⊎ ((d ≡ die) × (k ≡ slot) × (used d k ≡ Some final))
  pub alone : (q : Option ℕ) (x : Owned) (t : Target) → IsTargetAt s.places.own die slot q x t → ⊥
  pub calm : (w : WaitingProgram) → Among w s.waiting → w.die ≡ die → w.slot ≡ slot → ⊥
  pub free : s.works die ≡ None
  pub finish : (final ≡ Stale) ⊎ ((page : Page) × (version : Version) × (final ≡ Held page version) × IsHeld s.bytes die slot page.0 version)

module _ (s : Scene) (h : Sound s) (die slot : ℕ) (final : Used) (used : ℕ → ℕ → Option Used) (c : Lands s die slot final used) where
  abbrev landed : Places
  landed = record (s.places) { used = used }

  -- elsewhere each slot is as it was
  elsewhere : (d k : ℕ) → (d ≡ die → k ≡ slot → ⊥) → used d k ≡ s.places.used d k
  elsewhere d k away =
      elim (c.placed d k) [
        | inl same ↦ same
        | inr found ↦ absurd (away found.0 found.1)
      ]

  held_landed : (d k : ℕ) (page : Page) (version : Version) → used d k ≡ Some (Held page version) → IsHeld s.bytes d k page.0 version
  held_landed d k page version e =
      elim (c.placed d k) [
        | inl same ↦ h.held d k page version (sym same ∙ e)
        | inr found ↦ elim c.finish [
          | inl stale ↦ absurd (held≢stale page version (sym (sym found.2 ∙ e) ∙ ap Some stale))
          | inr made ↦
              let both = same_held made.0 page made.1 version (sym (ap Some made.2) ∙ sym found.2 ∙ e) in
              record {
                cell = moved_stands s.bytes made.0.0 page.0 made.1 version die d slot k both.0 both.1 (sym found.0) (sym found.1) made.3.cell;
                below = subst (λ (v : Version). v.seq.0 ≤ s.bytes.last) both.1 made.3.below;
              }
        ]
      ]

  preserves_elsewhere : (d : ℕ) → (d ≡ die → ⊥) → Preserves s.places landed d
  preserves_elsewhere d away =
      let same = λ (k : ℕ). elsewhere d k (λ e f. away e) in
      record {
        kept = λ k e. same k ∙ e;
        settled = λ k e. ap is_settled (same k) ∙ e;
        unheld = λ k e. ap is_held_slot (same k) ∙ e;
        target = λ k q x t at. (x, at, refl, refl);
      }

  pub landed_is_sound : Sound (record s { places = landed })
  landed_is_sound = record {
    numbered = h.numbered;
    held = held_landed;
    owned = λ q x owns. let was = h.owned q x owns in record {
      right = was.right;
      targets = λ t among. let now = was.targets t among in record {
        fresh = now.fresh;
        kept = λ is_live. elsewhere t.die.0 t.slot.0
            (λ e f. c.alone q x t (record { owns = owns; among = among; on_die = e; at_slot = f })) ∙ now.kept is_live;
        done = now.done;
      };
    };
    apart = h.apart;
    waits = λ w among. let was = h.waits w among in record {
      payload = was.payload;
      below = was.below;
      place = record { kept = elsewhere w.die w.slot (c.calm w among) ∙ was.place.kept; target = was.place.target };
    };
    once = h.once;
    works = λ d work e. record {
      job = job_preserved s.places landed d (preserves_elsewhere d (λ same. absurd (none-some work (sym c.free ∙ sym (ap s.works same) ∙ e)))) s.bytes s.in_block
          (s.due d) work.job.flight work.job.payload (h.works d work e).job;
      gave = (h.works d work e).gave;
    };
    spares = h.spares;
  }
