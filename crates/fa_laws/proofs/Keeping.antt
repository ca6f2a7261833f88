-- Changes of a scene that leave what is reserved: of slots, of numbers, of the jobs in flight, of the bytes reserved.
use Rattle.fa_laws.proofs.Scene.{Bytes, GaveFits, IsNumbered, IsTargetAt, IsToCome, JobFits, Owned, Places, Scene, Sound}
use Rattle.fa_machine.specs.Among.{Among}
use Rattle.fa_laws.proofs.Scene.{WorkFits, is_settled, programs_at}
use Rattle.fa_machine.specs.Copies.{is_held_slot}
use Rattle.fa_machine.specs.Maps.{below}
use Rattle.fa_machine.specs.State.{WaitingProgram}
use Rattle.fa_machine.specs.World.{Accepted, Gave, GaveCell, Work}
use Rattle.fa_machine.specs.declared.jobs.Flight.{Flight}
use Rattle.fa_machine.specs.declared.jobs.Flight.TheVariants.{Erase, Header, Move, Program, Read, Sync}
use Rattle.fa_machine.specs.declared.places.Target.{Target}
use Rattle.fa_machine.specs.declared.places.Used.{Used}
use Rattle.fa_machine.specs.declared.places.Used.TheVariants.{Held, Reserved, Stale}
use Rattle.fa_machine.specs.declared.places.Version.{Version}
use Rattle.fa_types.specs.declared.numbers.Page.{Page}
use Rattle.std.proofs.Common.{Bool, List, None, Option, Some, [], ap, arith, false, inl, inr, refl, subst, sym, true, ℕ, ◌∙◌, ◌∷◌, ◌≡◌}
use Rattle.std.proofs.Common.{◌≤◌, ◌⊎◌}
use Rattle.std.proofs.lemmas.Bool.{true≢false}

-- what a job needs of the slots of its die is still there
pub record Preserves (p q : Places) (die : ℕ) : Type 0 where
  pub kept : (slot : ℕ) → p.used die slot ≡ Some Reserved → q.used die slot ≡ Some Reserved
  pub settled : (slot : ℕ) → is_settled (p.used die slot) ≡ true → is_settled (q.used die slot) ≡ true
  pub unheld : (slot : ℕ) → is_held_slot (p.used die slot) ≡ false → is_held_slot (q.used die slot) ≡ false
  pub target : (slot : ℕ) (o : Option ℕ) (y : Owned) (t : Target) → IsTargetAt q.own die slot o y t
      → (x : Owned) × IsTargetAt p.own die slot o x t × (x.page ≡ y.page) × (x.version ≡ y.version)

module _ (p q : Places) (die : ℕ) (c : Preserves p q die) where
  pub to_come_preserved : (slot page : ℕ) (version : Version) → IsToCome p die slot page version → IsToCome q die slot page version
  to_come_preserved slot page version before = record {
    kept = c.kept slot before.kept;
    target = λ o y t at.
        let was = c.target slot o y t at in
        let is = before.target o was.0 t was.1 in
        (is.0, sym was.2 ∙ is.1, sym was.3 ∙ is.2);
  }

  pub job_preserved : (b : Bytes) (in_block : ℕ → ℕ → Bool) (due : List ℕ) (flight : Flight) (payload : List ℕ)
      → JobFits b p in_block due die flight payload → JobFits b q in_block due die flight payload
  job_preserved b in_block due (Header epoch live) payload before = tt
  job_preserved b in_block due (Move page version from to) payload before = record {
    cell = before.cell;
    below = before.below;
    settled = c.settled from.0 before.settled;
    kept = c.kept to.0 before.kept;
    alone = λ o y t at. let was = c.target to.0 o y t at in before.alone o was.0 t was.1;
  }
  job_preserved b in_block due (Erase block) payload before = record {
    none_held = λ slot inside. c.unheld slot (before.none_held slot inside);
    none_done = λ slot o y t at inside. let was = c.target slot o y t at in before.none_done slot o was.0 t was.1 inside;
  }
  job_preserved b in_block due (Read batch page version slot) payload before = before
  job_preserved b in_block due (Program page version slot) payload before =
      record { bytes = before.bytes; below = before.below; place = to_come_preserved slot.0 page.0 version before.place }
  job_preserved b in_block due (Sync flushes) payload before = tt

-- a slot that does not hold a page now did not before
pub unheld_then : (a b : Option Used) → ((page : Page) (version : Version) → b ≡ Some (Held page version) → is_held_slot a ≡ true)
    → is_held_slot a ≡ false → is_held_slot b ≡ false
unheld_then a None was empty_one = refl
unheld_then a (Some Reserved) was empty_one = refl
unheld_then a (Some Stale) was empty_one = refl
unheld_then a (Some (Held page version)) was empty_one = absurd (true≢false (sym (was page version refl) ∙ empty_one))

-- slots change, and each that was kept is
pub record Keeps (s : Scene) (used : ℕ → ℕ → Option Used) : Type 0 where
  pub kept : (die slot : ℕ) → s.places.used die slot ≡ Some Reserved → used die slot ≡ Some Reserved
  pub held : (die slot : ℕ) (page : Page) (version : Version) → used die slot ≡ Some (Held page version)
      → s.places.used die slot ≡ Some (Held page version)
  pub settled : (die : ℕ) (work : Work) → s.works die ≡ Some work → (slot : ℕ) → is_settled (s.places.used die slot) ≡ true
      → is_settled (used die slot) ≡ true

module _ (s : Scene) (h : Sound s) (used : ℕ → ℕ → Option Used) (c : Keeps s used) where
  abbrev then : Places
  then = record (s.places) { used = used }

  unheld : (die slot : ℕ) → is_held_slot (s.places.used die slot) ≡ false → is_held_slot (used die slot) ≡ false
  unheld die slot = unheld_then (s.places.used die slot) (used die slot) (λ page version e. ap is_held_slot (c.held die slot page version e))

  to_come : (die slot page : ℕ) (version : Version) → IsToCome s.places die slot page version → IsToCome then die slot page version
  to_come die slot page version before = record { kept = c.kept die slot before.kept; target = before.target }

  preserves : (die : ℕ) (work : Work) → s.works die ≡ Some work → Preserves s.places then die
  preserves die work e = record {
    kept = c.kept die;
    settled = c.settled die work e;
    unheld = unheld die;
    target = λ slot o y t at. (y, at, refl, refl);
  }

  pub kept_is_sound : Sound (record s { places = then })
  kept_is_sound = record {
    numbered = h.numbered;
    held = λ die slot page version e. h.held die slot page version (c.held die slot page version e);
    owned = λ q x e. let was = h.owned q x e in record {
      right = was.right;
      targets = λ t among. let now = was.targets t among in record {
        fresh = now.fresh;
        kept = λ is_live. c.kept t.die.0 t.slot.0 (now.kept is_live);
        done = now.done;
      };
    };
    apart = h.apart;
    waits = λ w among. let was = h.waits w among in record {
      payload = was.payload;
      below = was.below;
      place = to_come w.die w.slot w.page w.version was.place;
    };
    once = h.once;
    works = λ die work e. record {
      job = job_preserved s.places then die (preserves die work e) s.bytes s.in_block (s.due die) work.job.flight work.job.payload (h.works die work e).job;
      gave = (h.works die work e).gave;
    };
    spares = h.spares;
  }

-- other numbers of pages, and another plain array
pub renumbered_is_sound : (s : Scene) → Sound s → (number : ℕ → Option Version) (plain : ℕ → List ℕ)
    → ((page : ℕ) (v : Version) → number page ≡ Some v → IsNumbered s.bytes plain page v) → Sound (record s { number = number; plain = plain })
renumbered_is_sound s h number plain numbered = record {
  numbered = numbered;
  held = h.held;
  owned = h.owned;
  apart = h.apart;
  waits = h.waits;
  once = h.once;
  works = h.works;
  spares = h.spares;
}

-- jobs begin, go on or end, and programs wait no more
pub record ChangesWork (s : Scene) (waiting : List WaitingProgram) (works : ℕ → Option Work) (due : ℕ → List ℕ) : Type 0 where
  pub fewer : (w : WaitingProgram) → Among w waiting → Among w s.waiting
  pub once : (die slot : ℕ) → programs_at waiting works die slot ≤ 1
  pub works_are : (die : ℕ) (work : Work) → works die ≡ Some work
      → ((s.works die ≡ Some work) × (due die ≡ s.due die)) ⊎ WorkFits s.bytes s.places s.in_block (due die) die work

pub worked_is_sound : (s : Scene) → Sound s → (waiting : List WaitingProgram) (works : ℕ → Option Work) (due : ℕ → List ℕ)
    → ChangesWork s waiting works due → Sound (record s { waiting = waiting; works = works; due = due })
worked_is_sound s h waiting works due c = record {
  numbered = h.numbered;
  held = h.held;
  owned = h.owned;
  apart = h.apart;
  waits = λ w among. h.waits w (c.fewer w among);
  once = c.once;
  works = λ die work e. elim (c.works_are die work e) [
    | inl same ↦ subst (λ bytes. WorkFits s.bytes s.places s.in_block bytes die work) (sym same.1) (h.works die work same.0)
    | inr fits ↦ fits
  ];
  spares = h.spares;
}

-- less is reserved: what is, was
pub disowned_is_sound : (s : Scene) → Sound s → (own : Option ℕ → Option Owned)
    → ((q : Option ℕ) (x : Owned) → own q ≡ Some x → s.places.own q ≡ Some x) → Sound (record s { places = record (s.places) { own = own } })
disowned_is_sound s h own was = record {
  numbered = h.numbered;
  held = h.held;
  owned = λ q x e. let before = h.owned q x (was q x e) in record {
    right = before.right;
    targets = λ t among. let now = before.targets t among in record { fresh = now.fresh; kept = now.kept; done = now.done };
  };
  apart = λ die slot q x t r y u at other is_live. h.apart die slot q x t r y u (target die slot q x t at) (target die slot r y u other) is_live;
  waits = λ w among. let before = h.waits w among in record {
    payload = before.payload;
    below = before.below;
    place = to_come_preserved s.places then w.die (preserves w.die) w.slot w.page w.version before.place;
  };
  once = h.once;
  works = λ die work e. record {
    job = job_preserved s.places then die (preserves die) s.bytes s.in_block (s.due die) work.job.flight work.job.payload (h.works die work e).job;
    gave = (h.works die work e).gave;
  };
  spares = h.spares;
}
  where
    then : Places
    then = record (s.places) { own = own }

    target : (die slot : ℕ) (q : Option ℕ) (x : Owned) (t : Target) → IsTargetAt own die slot q x t → IsTargetAt s.places.own die slot q x t
    target die slot q x t at = record { owns = was q x at.owns; among = at.among; on_die = at.on_die; at_slot = at.at_slot }

    preserves : (die : ℕ) → Preserves s.places (record (s.places) { own = own }) die
    preserves die = record {
      kept = λ slot e. e;
      settled = λ slot e. e;
      unheld = λ slot e. e;
      target = λ slot q x t at. (x, target die slot q x t at, refl, refl);
    }

-- What was reserved before stays what it was where bytes are kept for a number that was not given before.
pub record Records (s : Scene) (payloads : ℕ → ℕ → List ℕ) (last : ℕ) : Type 0 where
  pub same : (page seq : ℕ) → seq ≤ s.bytes.last → payloads page seq ≡ s.bytes.payloads page seq
  pub rises : s.bytes.last ≤ last

module _ (s : Scene) (h : Sound s) (payloads : ℕ → ℕ → List ℕ) (last : ℕ) (c : Records s payloads last) where
  abbrev now : Bytes
  now = record (s.bytes) { payloads = payloads; last = last }

  risen : (n : ℕ) → n ≤ s.bytes.last → n ≤ last
  risen n below = let e = c.rises in omega (arith, e)

  bytes_of : (o : Option (List ℕ)) (page seq : ℕ) → seq ≤ s.bytes.last → o ≡ Some (s.bytes.payloads page seq) → o ≡ Some (payloads page seq)
  bytes_of o page seq below e = e ∙ ap Some (sym (c.same page seq below))

  gave_recorded : (die : ℕ) (due : List ℕ) (in_block : ℕ → ℕ → Bool) (p : Places) (flight : Flight) (payload : List ℕ) (gave : List Gave)
      → JobFits s.bytes p in_block due die flight payload → GaveFits s.bytes die flight gave → GaveFits now die flight gave
  gave_recorded die due in_block p (Read batch page version slot) (payload) (GaveCell cell ∷ []) job g = g
  gave_recorded die due in_block p (Program page version slot) payload (Accepted ∷ gave) job g = bytes_of _ page.0 version.seq.0 job.below g
  gave_recorded die due in_block p (Move page version from to) payload (GaveCell cell ∷ []) job g = bytes_of _ page.0 version.seq.0 job.below g
  gave_recorded die due in_block p (Move page version from to) payload (GaveCell cell ∷ Accepted ∷ []) job g = bytes_of _ page.0 version.seq.0 job.below g
  gave_recorded die due in_block p (Header epoch live) payload gave job g = g
  gave_recorded die due in_block p (Erase block) payload gave job g = g
  gave_recorded die due in_block p (Sync flushes) payload gave job g = g
  gave_recorded die due in_block p flight payload gave job g = tt

  job_recorded : (die : ℕ) (due : List ℕ) (flight : Flight) (payload : List ℕ) → JobFits s.bytes s.places s.in_block due die flight payload
      → JobFits now s.places s.in_block due die flight payload
  job_recorded die due (Header epoch live) payload before = tt
  job_recorded die due (Move page version from to) payload before = record {
    cell = bytes_of _ page.0 version.seq.0 before.below before.cell;
    below = risen version.seq.0 before.below;
    settled = before.settled;
    kept = before.kept;
    alone = before.alone;
  }
  job_recorded die due (Erase block) payload before = before
  job_recorded die due (Read batch page version slot) payload before = record {
    cell = before.cell;
    right = before.right ∙ sym (c.same page.0 version.seq.0 before.below);
    below = risen version.seq.0 before.below;
  }
  job_recorded die due (Program page version slot) payload before = record {
    bytes = before.bytes ∙ sym (c.same page.0 version.seq.0 before.below);
    below = risen version.seq.0 before.below;
    place = before.place;
  }
  job_recorded die due (Sync flushes) payload before = tt

  pub recorded_is_sound : Sound (record s { bytes = now })
  recorded_is_sound = record {
    numbered = λ page v e. let was = h.numbered page v e in record {
      right = c.same page v.seq.0 was.below ∙ was.right;
      hole = λ is. c.same page v.seq.0 was.below ∙ was.hole is;
      below = risen v.seq.0 was.below;
    };
    held = λ die slot page version e. let was = h.held die slot page version e in record {
      cell = bytes_of _ page.0 version.seq.0 was.below was.cell;
      below = risen version.seq.0 was.below;
    };
    owned = λ q x e. let was = h.owned q x e in record {
      right = record {
        inside = was.right.inside;
        hole = λ is. c.same x.page x.version.seq.0 was.right.below ∙ was.right.hole is;
        below = risen x.version.seq.0 was.right.below;
      };
      targets = λ t among. let of_t = was.targets t among in record {
        fresh = of_t.fresh;
        kept = of_t.kept;
        done = λ is_live done. bytes_of _ x.page x.version.seq.0 was.right.below (of_t.done is_live done);
      };
    };
    apart = h.apart;
    waits = λ w among. let was = h.waits w among in record {
      payload = was.payload ∙ sym (c.same w.page w.version.seq.0 was.below);
      below = risen w.version.seq.0 was.below;
      place = was.place;
    };
    once = h.once;
    works = λ die work e. let was = h.works die work e in record {
      job = job_recorded die (s.due die) work.job.flight work.job.payload was.job;
      gave = gave_recorded die (s.due die) s.in_block s.places work.job.flight work.job.payload work.gave was.job was.gave;
    };
    spares = h.spares;
  }
