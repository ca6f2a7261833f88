-- A die goes out with all that it had, and a spare comes in.
use Rattle.fa_laws.proofs.Keeping.{Preserves, job_preserved, to_come_preserved}
use Rattle.fa_laws.proofs.Scene.{IsHeld, Owned, Places, Scene, Sound, is_settled, program_is_at, writes}
use Rattle.fa_machine.specs.Among.{Among, tally}
use Rattle.fa_machine.specs.Copies.{is_held_slot}
use Rattle.fa_machine.specs.State.{WaitingProgram, is_live}
use Rattle.fa_machine.specs.World.{Work}
use Rattle.fa_machine.specs.declared.places.Target.{Target}
use Rattle.fa_machine.specs.declared.places.Used.{Used}
use Rattle.fa_machine.specs.declared.places.Used.TheVariants.{Held}
use Rattle.fa_machine.specs.declared.places.Version.{Version}
use Rattle.fa_types.specs.declared.numbers.Page.{Page}
use Rattle.std.proofs.Common.{Bool, List, None, Option, Some, ap, arith, inl, inr, refl, sym, true, ℕ, ◌∙◌, ◌≡◌, ◌≤◌, ◌⊎◌}
use Rattle.std.proofs.lemmas.Bool.{cases_eq, false_from_ne_true, false≢true}
use Rattle.std.proofs.lemmas.Option.{none-some}

pub record Drops (s : Scene) (out : ℕ) (used : ℕ → ℕ → Option Used) (live : ℕ → Bool) (waiting : List WaitingProgram)
    (works : ℕ → Option Work) : Type 0 where
  pub elsewhere : (die slot : ℕ) → (die ≡ out → ⊥) → used die slot ≡ s.places.used die slot
  pub here : (slot : ℕ) → used out slot ≡ None
  pub alive : (die : ℕ) → live die ≡ true → (s.places.live die ≡ true) × (die ≡ out → ⊥)
  pub fewer : (w : WaitingProgram) → Among w waiting → Among w s.waiting × (w.die ≡ out → ⊥)
  pub count : (die slot : ℕ) → tally (program_is_at die slot) waiting ≤ tally (program_is_at die slot) s.waiting
  pub works_are : (die : ℕ) (work : Work) → works die ≡ Some work → (s.works die ≡ Some work) × (die ≡ out → ⊥)

-- fewer jobs write no more
fewer_writes : (a b : Option Work) (slot : ℕ) → ((work : Work) → a ≡ Some work → b ≡ Some work) → writes a slot ≤ writes b slot
fewer_writes None b slot was = omega arith
fewer_writes (Some work) b slot was = let e = ap (λ o. writes o slot) (was work refl) in omega (arith, e)

module _ (s : Scene) (h : Sound s) (out : ℕ) (used : ℕ → ℕ → Option Used) (live : ℕ → Bool) (waiting : List WaitingProgram)
    (works : ℕ → Option Work) (c : Drops s out used live waiting works) where
  abbrev dropped : Places
  dropped = record (s.places) { used = used; live = live }

  not_none : (a : Option Used) (b : Used) → a ≡ None → a ≡ Some b → ⊥
  not_none a b e f = none-some b (sym e ∙ f)

  held_dropped : (die slot : ℕ) (page : Page) (version : Version) → used die slot ≡ Some (Held page version) → IsHeld s.bytes die slot page.0 version
  held_dropped die slot page version e =
      elim (cases_eq die out) [
        | inl same ↦ absurd (not_none (used die slot) (Held page version) (ap (λ (d : ℕ). used d slot) same ∙ c.here slot) e)
        | inr away ↦ h.held die slot page version (sym (c.elsewhere die slot away) ∙ e)
      ]

  preserves : (die : ℕ) → (die ≡ out → ⊥) → Preserves s.places dropped die
  preserves die away =
      let same = λ (slot : ℕ). c.elsewhere die slot away in
      record {
        kept = λ slot e. same slot ∙ e;
        settled = λ slot e. ap is_settled (same slot) ∙ e;
        unheld = λ slot e. ap is_held_slot (same slot) ∙ e;
        target = λ slot q x t at. (x, at, refl, refl);
      }

  pub dropped_is_sound : Sound (record s { places = dropped; waiting = waiting; works = works })
  dropped_is_sound = record {
    numbered = h.numbered;
    held = held_dropped;
    owned = λ q x e. let was = h.owned q x e in record {
      right = was.right;
      targets = λ t among. let now = was.targets t among in record {
        fresh = now.fresh;
        kept = λ is_live. let alive = c.alive t.die.0 is_live in c.elsewhere t.die.0 t.slot.0 alive.1 ∙ now.kept alive.0;
        done = λ is_live. now.done (c.alive t.die.0 is_live).0;
      };
    };
    apart = λ die slot q x t r y u at other is_live. h.apart die slot q x t r y u at other (c.alive die is_live).0;
    waits = λ w among.
        let before = c.fewer w among in
        let was = h.waits w before.0 in
        record {
          payload = was.payload;
          below = was.below;
          place = to_come_preserved s.places dropped w.die (preserves w.die before.1) w.slot w.page w.version was.place;
        };
    once = λ die slot.
        let a = c.count die slot in
        let b = fewer_writes (works die) (s.works die) slot (λ work e. (c.works_are die work e).0) in
        let n = h.once die slot in
        omega (arith, a, b, n);
    works = λ die work e.
        let before = c.works_are die work e in
        let was = h.works die work before.0 in
        record {
          job = job_preserved s.places dropped die (preserves die before.1) s.bytes s.in_block (s.due die) work.job.flight work.job.payload was.job;
          gave = was.gave;
        };
    spares = λ die spare. false_from_ne_true (live die) (λ is_live. false≢true (sym (h.spares die spare) ∙ (c.alive die is_live).0));
  }

pub record ComesIn (s : Scene) (new : ℕ) (live spare : ℕ → Bool) : Type 0 where
  pub was_spare : s.places.spare new ≡ true
  pub alive : (die : ℕ) → live die ≡ true → (s.places.live die ≡ true) ⊎ (die ≡ new)
  pub spares_are : (die : ℕ) → spare die ≡ true → (s.places.spare die ≡ true) × (live die ≡ s.places.live die)

module _ (s : Scene) (h : Sound s) (new : ℕ) (live spare : ℕ → Bool) (c : ComesIn s new live spare) where
  abbrev entered : Places
  entered = record (s.places) { live = live; spare = spare }

  -- a target's die was live before
  target_live : (q : Option ℕ) (x : Owned) (t : Target) → s.places.own q ≡ Some x → Among t x.targets → live t.die.0 ≡ true
      → s.places.live t.die.0 ≡ true
  target_live q x t owns among is_live =
      elim (c.alive t.die.0 is_live) [
        | inl before ↦ before
        | inr same ↦
            absurd (false≢true (sym ((h.owned q x owns).targets t among).fresh ∙ (ap s.places.spare same ∙ c.was_spare)))
      ]

  preserves_entered : (die : ℕ) → Preserves s.places entered die
  preserves_entered die = record {
    kept = λ slot e. e;
    settled = λ slot e. e;
    unheld = λ slot e. e;
    target = λ slot q x t at. (x, at, refl, refl);
  }

  pub entered_is_sound : Sound (record s { places = entered })
  entered_is_sound = record {
    numbered = h.numbered;
    held = h.held;
    owned = λ q x e. let was = h.owned q x e in record {
      right = was.right;
      targets = λ t among. let now = was.targets t among in record {
        fresh = false_from_ne_true (spare t.die.0) (λ is_spare. false≢true (sym now.fresh ∙ (c.spares_are t.die.0 is_spare).0));
        kept = λ is_live. now.kept (target_live q x t e among is_live);
        done = λ is_live. now.done (target_live q x t e among is_live);
      };
    };
    apart = λ die slot q x t r y u at other is_live. h.apart die slot q x t r y u at other
        (sym (ap s.places.live at.on_die) ∙ target_live q x t at.owns at.among (ap live at.on_die ∙ is_live));
    waits = λ w among. let was = h.waits w among in record {
      payload = was.payload;
      below = was.below;
      place = to_come_preserved s.places entered w.die (preserves_entered w.die) w.slot w.page w.version was.place;
    };
    once = h.once;
    works = λ die work e. let was = h.works die work e in record {
      job = job_preserved s.places entered die (preserves_entered die) s.bytes s.in_block (s.due die) work.job.flight work.job.payload was.job;
      gave = was.gave;
    };
    spares = λ die is_spare. let was = c.spares_are die is_spare in was.1 ∙ h.spares die was.0;
  }
