-- Slots that were kept are held or stale then, and what was reserved there is reserved no more.
use Rattle.fa_laws.proofs.Parts.{held≢stale, kept≢settled, moved_stands, same_held, target_kept}
use Rattle.fa_laws.proofs.Scene.{IsErasing, IsHeld, IsMoving, IsOwned, IsTargetAt, IsToCome, IsWaiting, JobFits, Owned, Places}
use Rattle.fa_machine.specs.Among.{Among}
use Rattle.fa_laws.proofs.Scene.{Scene, Sound, is_settled, program_is_at}
use Rattle.fa_machine.specs.Among.{tally}
use Rattle.fa_machine.specs.Copies.{is_held_slot}
use Rattle.fa_machine.specs.State.{WaitingProgram, is_live}
use Rattle.fa_machine.specs.World.{Work}
use Rattle.fa_machine.specs.declared.jobs.Flight.{Flight}
use Rattle.fa_machine.specs.declared.jobs.Flight.TheVariants.{Erase, Header, Move, Program, Read, Sync}
use Rattle.fa_machine.specs.declared.places.Target.{Target}
use Rattle.fa_machine.specs.declared.places.Used.{Used}
use Rattle.fa_machine.specs.declared.places.Used.TheVariants.{Held, Reserved, Stale}
use Rattle.fa_machine.specs.declared.places.Version.{Version}
use Rattle.fa_types.specs.declared.numbers.Page.{Page}
use Rattle.fa_types.specs.declared.numbers.Slot.{Slot}
use Rattle.std.proofs.Common.{List, Option, Some, ap, arith, false, inl, inr, refl, subst, sym, true, ℕ, ◌∙◌, ◌≡◌, ◌≤◌, ◌⊎◌}
use Rattle.std.proofs.lemmas.Bool.{true≢false}

-- the slots of something reserved, once they are settled
pub record Settles (s : Scene) (o : Option ℕ) (x : Owned) (final : Used) (used : ℕ → ℕ → Option Used) (own : Option ℕ → Option Owned)
    (waiting : List WaitingProgram) : Type 0 where
  pub is : s.places.own o ≡ Some x
  pub placed : (die slot : ℕ) → (used die slot ≡ s.places.used die slot)
      ⊎ ((t : Target) × IsTargetAt s.places.own die slot o x t × (s.places.live die ≡ true) × (used die slot ≡ Some final))
  pub finish : (t : Target) → Among t x.targets → s.places.live t.die.0 ≡ true
      → (final ≡ Stale) ⊎ ((final ≡ Held (record { 0 = x.page }) x.version) × (t.programmed ≡ true))
  pub owner : (q : Option ℕ) (y : Owned) → own q ≡ Some y → (s.places.own q ≡ Some y) × (q ≡ o → ⊥)
  pub fewer : (w : WaitingProgram) → Among w waiting → Among w s.waiting
  pub count : (die slot : ℕ) → tally (program_is_at die slot) waiting ≤ tally (program_is_at die slot) s.waiting
  pub free : (w : WaitingProgram) → Among w waiting → (t : Target) → IsTargetAt s.places.own w.die w.slot o x t
      → s.places.live w.die ≡ true → ⊥
  pub idle : (die : ℕ) (work : Work) → s.works die ≡ Some work → (page : Page) (version : Version) (slot : Slot)
      → work.job.flight ≡ Program page version slot → (t : Target) → IsTargetAt s.places.own die slot.0 o x t
      → s.places.live die ≡ true → ⊥

module _ (s : Scene) (h : Sound s) (o : Option ℕ) (x : Owned) (final : Used) (used : ℕ → ℕ → Option Used) (own : Option ℕ → Option Owned)
    (waiting : List WaitingProgram) (c : Settles s o x final used own waiting) where
  abbrev then : Places
  then = record (s.places) { used = used; own = own }

  held_then : (die slot : ℕ) (page : Page) (version : Version) → used die slot ≡ Some (Held page version) → IsHeld s.bytes die slot page.0 version
  held_then die slot page version e =
      elim (c.placed die slot) [
        | inl same ↦ h.held die slot page version (sym same ∙ e)
        | inr found ↦
            let t = found.0 in
            let at = found.1 in
            let mine = h.owned o x c.is in
            let is_live : s.places.live t.die.0 ≡ true = ap s.places.live at.on_die ∙ found.2 in
            let same : Some final ≡ Some (Held page version) = sym found.3 ∙ e in
            elim (c.finish t at.among is_live) [
              | inl stale ↦ absurd (held≢stale page version (sym same ∙ ap Some stale))
              | inr made ↦
                  let both = same_held (record { 0 = x.page }) page x.version version (sym (ap Some made.0) ∙ same) in
                  record {
                    cell = moved_stands s.bytes x.page page.0 x.version version t.die.0 die t.slot.0 slot both.0 both.1 at.on_die at.at_slot
                        ((mine.targets t at.among).done is_live made.1);
                    below = subst (λ (v : Version). v.seq.0 ≤ s.bytes.last) both.1 mine.right.below;
                  }
            ]
      ]

  -- a target of what is still reserved is at no slot that was settled
  target_then : (die slot : ℕ) (q : Option ℕ) (y : Owned) (t : Target) → IsTargetAt own die slot q y t → IsTargetAt s.places.own die slot q y t
  target_then die slot q y t at =
      record { owns = (c.owner q y at.owns).0; among = at.among; on_die = at.on_die; at_slot = at.at_slot }

  kept_then : (die slot : ℕ) (q : Option ℕ) (y : Owned) (t : Target) → IsTargetAt own die slot q y t → s.places.live die ≡ true
      → used die slot ≡ Some Reserved
  kept_then die slot q y t at is_live =
      elim (c.placed die slot) [
        | inl same ↦ same ∙ target_kept s h die slot q y t (target_then die slot q y t at) is_live
        | inr found ↦
            absurd ((c.owner q y at.owns).1 (h.apart die slot q y t o x found.0 (target_then die slot q y t at) found.1 is_live))
      ]

  owned_then : (q : Option ℕ) (y : Owned) → own q ≡ Some y → IsOwned s.bytes then y
  owned_then q y e =
      let before = h.owned q y (c.owner q y e).0 in
      record {
        right = before.right;
        targets = λ t among. record {
          fresh = (before.targets t among).fresh;
          kept = kept_then t.die.0 t.slot.0 q y t (record { owns = e; among = among; on_die = refl; at_slot = refl });
          done = (before.targets t among).done;
        };
      }

  to_come_then : (die slot page : ℕ) (version : Version) → IsToCome s.places die slot page version
      → ((t : Target) → IsTargetAt s.places.own die slot o x t → s.places.live die ≡ true → ⊥) → IsToCome then die slot page version
  to_come_then die slot page version before free = record {
    kept = elim (c.placed die slot) [
      | inl same ↦ same ∙ before.kept
      | inr found ↦ absurd (free found.0 found.1 found.2)
    ];
    target = λ q y t at. before.target q y t (target_then die slot q y t at);
  }

  waits_then : (w : WaitingProgram) → Among w waiting → IsWaiting s.bytes then w
  waits_then w among =
      let before = h.waits w (c.fewer w among) in
      record {
        payload = before.payload;
        below = before.below;
        place = to_come_then w.die w.slot w.page w.version before.place (λ t at is_live. c.free w among t at is_live);
      }

  moving_then : (die page : ℕ) (version : Version) (from to : ℕ) → IsMoving s.bytes s.places die page version from to
      → IsMoving s.bytes then die page version from to
  moving_then die page version from to before = record {
    cell = before.cell;
    below = before.below;
    settled = elim (c.placed die from) [
      | inl same ↦ ap is_settled same ∙ before.settled
      | inr found ↦ absurd (kept≢settled (s.places.used die from) (target_kept s h die from o x found.0 found.1 found.2) before.settled)
    ];
    kept = elim (c.placed die to) [
      | inl same ↦ same ∙ before.kept
      | inr found ↦ absurd (before.alone o x found.0 found.1)
    ];
    alone = λ q y t at. before.alone q y t (target_then die to q y t at);
  }

  not_held_then : (die slot : ℕ) → is_held_slot (s.places.used die slot) ≡ false
      → ((t : Target) → IsTargetAt s.places.own die slot o x t → t.programmed ≡ false) → is_held_slot (used die slot) ≡ false
  not_held_then die slot before undone =
      elim (c.placed die slot) [
        | inl same ↦ ap is_held_slot same ∙ before
        | inr found ↦ elim (c.finish found.0 found.1.among (ap s.places.live found.1.on_die ∙ found.2)) [
          | inl stale ↦ ap is_held_slot (found.3 ∙ ap Some stale)
          | inr made ↦ absurd (true≢false (sym made.1 ∙ undone found.0 found.1))
        ]
      ]

  erasing_then : (die block : ℕ) → IsErasing s.in_block s.places die block → IsErasing s.in_block then die block
  erasing_then die block before = record {
    none_held = λ slot inside. not_held_then die slot (before.none_held slot inside) (λ t at. before.none_done slot o x t at inside);
    none_done = λ slot q y t at inside. before.none_done slot q y t (target_then die slot q y t at) inside;
  }

  job_then : (die : ℕ) (flight : Flight) (payload : List ℕ)
      → ((page : Page) (version : Version) (slot : Slot) → flight ≡ Program page version slot → (t : Target)
      → IsTargetAt s.places.own die slot.0 o x t → s.places.live die ≡ true → ⊥)
      → JobFits s.bytes s.places s.in_block (s.due die) die flight payload → JobFits s.bytes then s.in_block (s.due die) die flight payload
  job_then die (Header epoch live) payload idle before = tt
  job_then die (Move page version from to) payload idle before = moving_then die page.0 version from.0 to.0 before
  job_then die (Erase block) payload idle before = erasing_then die block.0 before
  job_then die (Read batch page version slot) payload idle before = before
  job_then die (Program page version slot) payload idle before = record {
    bytes = before.bytes;
    below = before.below;
    place = to_come_then die slot.0 page.0 version before.place (idle page version slot refl);
  }
  job_then die (Sync flushes) payload idle before = tt

  pub settled_is_sound : Sound (record s { places = then; waiting = waiting })
  settled_is_sound = record {
    numbered = h.numbered;
    held = held_then;
    owned = owned_then;
    apart = λ die slot q y t r z u at other is_live.
        h.apart die slot q y t r z u (target_then die slot q y t at) (target_then die slot r z u other) is_live;
    waits = waits_then;
    once = λ die slot. let a = c.count die slot in let n = h.once die slot in omega (arith, a, n);
    works = λ die work e. record {
      job = job_then die work.job.flight work.job.payload (λ page version slot is t at is_live. c.idle die work e page version slot is t at is_live)
          (h.works die work e).job;
      gave = (h.works die work e).gave;
    };
    spares = h.spares;
  }
