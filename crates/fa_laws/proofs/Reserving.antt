-- Something new is reserved: slots that were erased are kept for it, and its programs wait.
use Rattle.fa_machine.proofs.Lists.{tally-append}
use Rattle.fa_laws.proofs.Parts.{kept≢held, kept≢none, moved_to_come, none≢settled, some_waits, target_kept, to_come_kept}
use Rattle.fa_laws.proofs.Scene.{AreApart, IsErasing, IsHeld, IsMoving, IsOwned, IsRight, IsTarget, IsTargetAt, IsToCome}
use Rattle.fa_machine.specs.Among.{Among}
use Rattle.fa_laws.proofs.Scene.{IsWaiting, JobFits, Owned, Places, Scene, Sound, is_settled, program_is_at, programs_at}
use Rattle.fa_machine.specs.Among.{tally}
use Rattle.fa_machine.specs.Copies.{is_held_slot}
use Rattle.fa_machine.specs.State.{WaitingProgram, is_live}
use Rattle.fa_machine.specs.declared.jobs.Flight.{Flight}
use Rattle.fa_machine.specs.declared.jobs.Flight.TheVariants.{Erase, Header, Move, Program, Read, Sync}
use Rattle.fa_machine.specs.declared.places.Target.{Target}
use Rattle.fa_machine.specs.declared.places.Used.{Used}
use Rattle.fa_machine.specs.declared.places.Used.TheVariants.{Held, Reserved}
use Rattle.fa_machine.specs.declared.places.Version.{Version}
use Rattle.fa_types.specs.declared.numbers.Page.{Page}
use Rattle.std.proofs.Common.{List, None, Option, Some, [], ap, arith, false, inl, inr, refl, subst, sym, true, ℕ, ◌++◌}
use Rattle.std.proofs.Common.{◌∙◌, ◌∷◌, ◌≡◌, ◌≤◌, ◌⊎◌}
use Rattle.std.proofs.lemmas.Bool.{cases_Bool, cases_lt, false≢true}

-- the places and the programs of something new
pub record Reserves (s : Scene) (o : Option ℕ) (x : Owned) (bytes : List ℕ) (used : ℕ → ℕ → Option Used) (own : Option ℕ → Option Owned)
    (more : List WaitingProgram) : Type 0 where
  pub right : IsRight s.bytes x
  pub payload : bytes ≡ s.bytes.payloads x.page x.version.seq.0
  pub live : (t : Target) → Among t x.targets → s.places.live t.die.0 ≡ true
  pub erased : (t : Target) → Among t x.targets → s.places.used t.die.0 t.slot.0 ≡ None
  pub undone : (t : Target) → Among t x.targets → t.programmed ≡ false
  pub kept : (t : Target) → Among t x.targets → used t.die.0 t.slot.0 ≡ Some Reserved
  pub placed : (die slot : ℕ) → (used die slot ≡ s.places.used die slot)
      ⊎ ((t : Target) × Among t x.targets × (t.die.0 ≡ die) × (t.slot.0 ≡ slot))
  pub owner : (q : Option ℕ) (y : Owned) → own q ≡ Some y → (s.places.own q ≡ Some y) ⊎ ((q ≡ o) × (x ≡ y))
  pub programs : (w : WaitingProgram) → Among w more
      → (t : Target) × Among t x.targets × (w.die ≡ t.die.0) × (w.slot ≡ t.slot.0) × (w.page ≡ x.page) × (w.version ≡ x.version) × (w.payload ≡ bytes)
  pub distinct : (die slot : ℕ) → tally (program_is_at die slot) more ≤ 1

pub among-append : {X : Type 0} (x : X) (xs ys : List X) → Among x (xs ++ ys) → Among x xs ⊎ Among x ys
among-append x [] ys i = inr i
among-append x (z ∷ xs) ys (inl same) = inl (inl same)
among-append x (z ∷ xs) ys (inr rest) =
    elim (among-append x xs ys rest) [
      | inl left ↦ inl (inr left)
      | inr right ↦ inr right
    ]

module _ (s : Scene) (h : Sound s) (o : Option ℕ) (x : Owned) (bytes : List ℕ) (used : ℕ → ℕ → Option Used) (own : Option ℕ → Option Owned)
    (more : List WaitingProgram) (c : Reserves s o x bytes used own more) where
  abbrev then : Places
  then = record (s.places) { used = used; own = own }

  -- a slot in which something stands is as it was
  same_used : (die slot : ℕ) → (s.places.used die slot ≡ None → ⊥) → used die slot ≡ s.places.used die slot
  same_used die slot filled =
      elim (c.placed die slot) [
        | inl same ↦ same
        | inr found ↦ absurd (filled (sym (λ i. s.places.used (found.2 i) (found.3 i)) ∙ c.erased found.0 found.1))
      ]

  still_kept : (die slot : ℕ) → s.places.used die slot ≡ Some Reserved → used die slot ≡ Some Reserved
  still_kept die slot e = same_used die slot (λ none. kept≢none (s.places.used die slot) e none) ∙ e

  -- a slot that holds something now held it before
  before_held : (die slot : ℕ) → (used die slot ≡ Some Reserved → ⊥) → used die slot ≡ s.places.used die slot
  before_held die slot not_kept =
      elim (c.placed die slot) [
        | inl same ↦ same
        | inr found ↦ absurd (not_kept (sym (λ i. used (found.2 i) (found.3 i)) ∙ c.kept found.0 found.1))
      ]

  -- a target is one of before or a new one
  target_cases : (die slot : ℕ) (q : Option ℕ) (y : Owned) (t : Target) → IsTargetAt own die slot q y t
      → IsTargetAt s.places.own die slot q y t ⊎ ((q ≡ o) × (x ≡ y) × Among t x.targets)
  target_cases die slot q y t at =
      elim (c.owner q y at.owns) [
        | inl before ↦ inl (record { owns = before; among = at.among; on_die = at.on_die; at_slot = at.at_slot })
        | inr made ↦ inr (made.0, made.1, subst (λ (z : Owned). Among t z.targets) (sym made.1) at.among)
      ]

  new_erased : (die slot : ℕ) (t : Target) → Among t x.targets → t.die.0 ≡ die → t.slot.0 ≡ slot → s.places.used die slot ≡ None
  new_erased die slot t among e f = sym (λ i. s.places.used (e i) (f i)) ∙ c.erased t among

  new_target : (t : Target) → Among t x.targets → IsTarget s.bytes then x t
  new_target t among = record {
    fresh = elim (cases_Bool (s.places.spare t.die.0)) [
      | inl spare ↦ absurd (false≢true (sym (h.spares t.die.0 spare) ∙ c.live t among))
      | inr fresh ↦ fresh
    ];
    kept = λ is_live. c.kept t among;
    done = λ is_live done. absurd (false≢true (sym (c.undone t among) ∙ done));
  }

  owned_then : (q : Option ℕ) (y : Owned) → own q ≡ Some y → IsOwned s.bytes then y
  owned_then q y e =
      elim (c.owner q y e) [
        | inr made ↦ subst (IsOwned s.bytes then) made.1 (record { right = c.right; targets = new_target })
        | inl before ↦
            let was = h.owned q y before in
            record {
              right = was.right;
              targets = λ t among. record {
                fresh = (was.targets t among).fresh;
                kept = λ is_live. still_kept t.die.0 t.slot.0 ((was.targets t among).kept is_live);
                done = (was.targets t among).done;
              };
            }
      ]

  -- no target of before is where a new one is
  no_clash : (die slot : ℕ) (q : Option ℕ) (y : Owned) (t : Target) → IsTargetAt s.places.own die slot q y t → s.places.live die ≡ true
      → (u : Target) → Among u x.targets → u.die.0 ≡ die → u.slot.0 ≡ slot → ⊥
  no_clash die slot q y t at is_live u among e f =
      kept≢none (s.places.used die slot) (target_kept s h die slot q y t at is_live) (new_erased die slot u among e f)

  apart_then : AreApart then
  apart_then die slot q y t r z u at other is_live =
      elim (target_cases die slot q y t at) [
        | inl a ↦ elim (target_cases die slot r z u other) [
          | inl b ↦ h.apart die slot q y t r z u a b is_live
          | inr b ↦ absurd (no_clash die slot q y t a is_live u b.2 other.on_die other.at_slot)
        ]
        | inr a ↦ elim (target_cases die slot r z u other) [
          | inl b ↦ absurd (no_clash die slot r z u b is_live t a.2 at.on_die at.at_slot)
          | inr b ↦ a.0 ∙ sym b.0
        ]
      ]

  to_come_then : (die slot page : ℕ) (version : Version) → IsToCome s.places die slot page version → IsToCome then die slot page version
  to_come_then die slot page version before = record {
    kept = still_kept die slot before.kept;
    target = λ q y t at. elim (target_cases die slot q y t at) [
      | inl a ↦ before.target q y t a
      | inr a ↦ absurd (kept≢none (s.places.used die slot) before.kept (new_erased die slot t a.2 at.on_die at.at_slot))
    ];
  }

  new_to_come : (t : Target) → Among t x.targets → IsToCome then t.die.0 t.slot.0 x.page x.version
  new_to_come t among = record {
    kept = c.kept t among;
    target = λ q y u at. elim (target_cases t.die.0 t.slot.0 q y u at) [
      | inl a ↦ absurd (no_clash t.die.0 t.slot.0 q y u a (c.live t among) t among refl refl)
      | inr a ↦ (c.undone u a.2, sym (ap (λ (z : Owned). z.page) a.1), sym (ap (λ (z : Owned). z.version) a.1))
    ];
  }

  new_waits : (w : WaitingProgram) → Among w more → IsWaiting s.bytes then w
  new_waits w among =
      let p = c.programs w among in
      let t = p.0 in
      record {
        payload = p.6 ∙ c.payload ∙ sym (λ i. s.bytes.payloads (p.4 i) (p.5 i).seq.0);
        below = subst (λ (v : Version). v.seq.0 ≤ s.bytes.last) (sym p.5) c.right.below;
        place = moved_to_come then t.die.0 w.die t.slot.0 w.slot x.page w.page x.version w.version (sym p.2) (sym p.3) (sym p.4) (sym p.5) (new_to_come t p.1);
      }

  waits_then : (w : WaitingProgram) → Among w (s.waiting ++ more) → IsWaiting s.bytes then w
  waits_then w among =
      elim (among-append w s.waiting more among) [
        | inl before ↦
            let was = h.waits w before in
            record { payload = was.payload; below = was.below; place = to_come_then w.die w.slot w.page w.version was.place }
        | inr new ↦ new_waits w new
      ]

  once_then : (die slot : ℕ) → programs_at (s.waiting ++ more) s.works die slot ≤ 1
  once_then die slot =
      let sum = tally-append (program_is_at die slot) s.waiting more in
      let was = h.once die slot in
      elim (cases_lt 0 (tally (program_is_at die slot) more)) [
        | inr none ↦ omega (arith, sum, was)
        | inl some ↦
            let w = some_waits die slot more some in
            let p = c.programs w.0 w.1 in
            let erased = new_erased die slot p.0 p.1 (sym p.2 ∙ w.2) (sym p.3 ∙ w.3) in
            let one = c.distinct die slot in
            elim (cases_lt 0 (programs_at s.waiting s.works die slot)) [
              | inl before ↦ absurd (kept≢none (s.places.used die slot) (to_come_kept s h die slot before) erased)
              | inr nothing ↦ omega (arith, sum, nothing, one)
            ]
      ]

  moving_then : (die page : ℕ) (version : Version) (from to : ℕ) → IsMoving s.bytes s.places die page version from to
      → IsMoving s.bytes then die page version from to
  moving_then die page version from to before = record {
    cell = before.cell;
    below = before.below;
    settled = ap is_settled (same_used die from (λ none. none≢settled (s.places.used die from) none before.settled)) ∙ before.settled;
    kept = still_kept die to before.kept;
    alone = λ q y t at. elim (target_cases die to q y t at) [
      | inl a ↦ before.alone q y t a
      | inr a ↦ absurd (kept≢none (s.places.used die to) before.kept (new_erased die to t a.2 at.on_die at.at_slot))
    ];
  }

  not_held_then : (die slot : ℕ) → is_held_slot (s.places.used die slot) ≡ false → is_held_slot (used die slot) ≡ false
  not_held_then die slot before =
      elim (c.placed die slot) [
        | inl same ↦ ap is_held_slot same ∙ before
        | inr found ↦ ap is_held_slot (sym (λ i. used (found.2 i) (found.3 i)) ∙ c.kept found.0 found.1)
      ]

  erasing_then : (die block : ℕ) → IsErasing s.in_block s.places die block → IsErasing s.in_block then die block
  erasing_then die block before = record {
    none_held = λ slot inside. not_held_then die slot (before.none_held slot inside);
    none_done = λ slot q y t at inside. elim (target_cases die slot q y t at) [
      | inl a ↦ before.none_done slot q y t a inside
      | inr a ↦ c.undone t a.2
    ];
  }

  job_then : (die : ℕ) (flight : Flight) (payload : List ℕ) → JobFits s.bytes s.places s.in_block (s.due die) die flight payload
      → JobFits s.bytes then s.in_block (s.due die) die flight payload
  job_then die (Header epoch live) payload before = tt
  job_then die (Move page version from to) payload before = moving_then die page.0 version from.0 to.0 before
  job_then die (Erase block) payload before = erasing_then die block.0 before
  job_then die (Read batch page version slot) payload before = before
  job_then die (Program page version slot) payload before =
      record { bytes = before.bytes; below = before.below; place = to_come_then die slot.0 page.0 version before.place }
  job_then die (Sync flushes) payload before = tt

  held_then : (die slot : ℕ) (page : Page) (version : Version) → used die slot ≡ Some (Held page version) → IsHeld s.bytes die slot page.0 version
  held_then die slot page version e =
      h.held die slot page version (sym (before_held die slot (λ kept. kept≢held (used die slot) page version kept e)) ∙ e)

  pub reserved_is_sound : Sound (record s { places = then; waiting = s.waiting ++ more })
  reserved_is_sound = record {
    numbered = h.numbered;
    held = held_then;
    owned = owned_then;
    apart = apart_then;
    waits = waits_then;
    once = once_then;
    works = λ die work e. record {
      job = job_then die work.job.flight work.job.payload (h.works die work e).job;
      gave = (h.works die work e).gave;
    };
    spares = h.spares;
  }
