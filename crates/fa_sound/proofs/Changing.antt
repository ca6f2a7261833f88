-- What a change of slots, owners and jobs has to keep so that targets and jobs still fit.
use Rattle.fa_machine.specs.Copies.{is_held_slot}
use Rattle.fa_machine.specs.declared.jobs.Flight.{Flight}
use Rattle.fa_machine.specs.declared.jobs.Flight.TheVariants.{Erase, Header, Move, Program, Read, Sync}
use Rattle.fa_machine.specs.declared.places.Used.{Used}
use Rattle.fa_machine.specs.declared.places.Used.TheVariants.{Held, Reserved, Stale}
use Rattle.fa_machine.specs.declared.places.Version.{Version}
use Rattle.fa_sound.specs.Owners.{Owned, TargetAt}
use Rattle.fa_sound.specs.Sound.{ApartFit, IsErasing, IsMoving, IsSoundView, JobFits, JobsFit, TargetsFit, View, is_settled}
use Rattle.fa_types.specs.declared.numbers.Page.{Page}
use Rattle.std.proofs.Common.{Bool, None, Option, Some, ap, false, inl, inr, refl, sym, true, ℕ, ◌∙◌, ◌≡◌, ◌⊎◌}
use Rattle.std.proofs.lemmas.Bool.{cases_Bool, false≢true}

pub reserved≢held : (o : Option Used) (page : Page) (version : Version) → o ≡ Some Reserved → o ≡ Some (Held page version) → ⊥
reserved≢held o page version e f = cc

pub reserved≢none : (o : Option Used) → o ≡ Some Reserved → o ≡ None → ⊥
reserved≢none o e f = cc

pub held≢none : (o : Option Used) (page : Page) (version : Version) → o ≡ Some (Held page version) → o ≡ None → ⊥
held≢none o page version e f = cc

pub held≢stale : (o : Option Used) (page : Page) (version : Version) → o ≡ Some (Held page version) → o ≡ Some Stale → ⊥
held≢stale o page version e f = cc

pub reserved≢settled : (o : Option Used) → o ≡ Some Reserved → is_settled o ≡ true → ⊥
reserved≢settled o e s = false≢true (sym (ap is_settled e) ∙ s)

pub not_held : (o : Option Used) → ((page : Page) (version : Version) → o ≡ Some (Held page version) → ⊥) → is_held_slot o ≡ false
not_held None never = refl
not_held (Some Reserved) never = refl
not_held (Some Stale) never = refl
not_held (Some (Held page version)) never = absurd (never page version refl)

-- what the job of a die rests on
pub record JobKept (used then : ℕ → Option Used) (own own_then : Option ℕ → Option Owned) (die : ℕ) : Type 0 where
  pub kept : (slot : ℕ) → used slot ≡ Some Reserved → (TargetAt own die slot → ⊥) → then slot ≡ Some Reserved
  pub settled : (slot : ℕ) → is_settled (used slot) ≡ true → is_settled (then slot) ≡ true
  pub held : (slot : ℕ) (page : Page) (version : Version) → then slot ≡ Some (Held page version)
      → (used slot ≡ Some (Held page version)) ⊎ ((a : TargetAt own die slot) × (a.target.programmed ≡ true) × (used slot ≡ Some Reserved))
  pub target : (slot : ℕ) (b : TargetAt own_then die slot)
      → ((a : TargetAt own die slot) × (a.target.programmed ≡ b.target.programmed)) ⊎ ((used slot ≡ None) × (b.target.programmed ≡ false))

module _ (slots : ℕ) (used then : ℕ → Option Used) (own own_then : Option ℕ → Option Owned) (die : ℕ) (c : JobKept used then own own_then die) where
  move_kept : (page : Page) (version : Version) (from to : ℕ) → IsMoving used own die page version from to → IsMoving then own_then die page version from to
  move_kept page version from to f = record {
    settled = c.settled from f.settled;
    page_is = λ p v e. elim (c.held from p v e) [
      | inl same ↦ f.page_is p v same
      | inr made ↦ absurd (reserved≢settled (used from) made.2 f.settled)
    ];
    version_is = λ p v e. elim (c.held from p v e) [
      | inl same ↦ f.version_is p v same
      | inr made ↦ absurd (reserved≢settled (used from) made.2 f.settled)
    ];
    kept = c.kept to f.kept f.alone;
    alone = λ b. elim (c.target to b) [
      | inl a ↦ f.alone a.0
      | inr new ↦ reserved≢none (used to) f.kept new.0
    ];
  }

  erase_kept : (block : ℕ) → IsErasing slots used own die block → IsErasing slots then own_then die block
  erase_kept block f = record {
    none_held = λ slot inside. not_held (then slot) (λ page version e. elim (c.held slot page version e) [
      | inl same ↦ false≢true (sym (f.none_held slot inside) ∙ ap is_held_slot same)
      | inr made ↦ false≢true (sym (f.none_done slot inside made.0) ∙ made.1)
    ]);
    none_done = λ slot inside b. elim (c.target slot b) [
      | inl a ↦ sym a.1 ∙ f.none_done slot inside a.0
      | inr new ↦ new.1
    ];
  }

  pub job_kept : (flight : Flight) → JobFits slots used own die flight → JobFits slots then own_then die flight
  job_kept (Move page version from to) f = move_kept page version from.0 to.0 f
  job_kept (Erase block) f = erase_kept block.0 f
  job_kept (Header epoch live) f = tt
  job_kept (Read batch page version slot) f = tt
  job_kept (Program page version slot) f = tt
  job_kept (Sync flushes) f = tt

-- a target that was one before
pub record FromTarget (v : View) (live : ℕ → Bool) (used : ℕ → ℕ → Option Used) (die slot : ℕ) (owner : Option ℕ) : Type 0 where
  pub before : TargetAt v.own die slot
  pub same : before.owner ≡ owner
  pub alive : live die ≡ true → v.live die ≡ true
  pub kept : live die ≡ true → v.used die slot ≡ Some Reserved → used die slot ≡ Some Reserved

-- a target in a slot that was erased
pub record NewTarget (v : View) (used : ℕ → ℕ → Option Used) (die slot : ℕ) (owner o : Option ℕ) : Type 0 where
  pub same : owner ≡ o
  pub on_live : v.live die ≡ true
  pub erased : v.used die slot ≡ None
  pub kept : used die slot ≡ Some Reserved

pub record Changes (v : View) (live spare : ℕ → Bool) (used : ℕ → ℕ → Option Used) (own : Option ℕ → Option Owned) (job : ℕ → Option Flight)
    (o : Option ℕ) : Type 0 where
  pub fewer_jobs : (die : ℕ) (flight : Flight) → job die ≡ Some flight → v.job die ≡ Some flight
  pub busy : (die : ℕ) (flight : Flight) → job die ≡ Some flight → v.live die ≡ true → live die ≡ true
  pub at_jobs : (die : ℕ) (flight : Flight) → job die ≡ Some flight → JobKept (v.used die) (used die) v.own own die
  pub spares : (die : ℕ) → v.spare die ≡ false → spare die ≡ false
  pub target : (die slot : ℕ) (b : TargetAt own die slot)
      → FromTarget v live used die slot b.owner ⊎ NewTarget v used die slot b.owner o

module _ (v : View) (h : IsSoundView v) (live spare : ℕ → Bool) (used : ℕ → ℕ → Option Used) (own : Option ℕ → Option Owned)
    (job : ℕ → Option Flight) (o : Option ℕ) (c : Changes v live spare used own job o) where
  pub changed_targets : TargetsFit live spare used own
  changed_targets die slot b =
      elim (c.target die slot b) [
        | inl f ↦ record {
          fresh = c.spares die (h.targets die slot f.before).fresh;
          kept = λ on. f.kept on ((h.targets die slot f.before).kept (f.alive on));
        }
        | inr n ↦ record {
          fresh = c.spares die (elim (cases_Bool (v.spare die)) [
            | inl is ↦ absurd (false≢true (sym (h.dies.apart die is) ∙ n.on_live))
            | inr away ↦ away
          ]);
          kept = λ on. n.kept;
        }
      ]

  clash : (die slot : ℕ) (owner other : Option ℕ) → FromTarget v live used die slot owner → NewTarget v used die slot other o → ⊥
  clash die slot owner other f n = reserved≢none (v.used die slot) ((h.targets die slot f.before).kept n.on_live) n.erased

  pub changed_apart : ApartFit live own
  changed_apart die slot a b on =
      elim (c.target die slot a) [
        | inl f ↦ elim (c.target die slot b) [
          | inl g ↦ sym f.same ∙ h.apart die slot f.before g.before (f.alive on) ∙ g.same
          | inr n ↦ absurd (clash die slot a.owner b.owner f n)
        ]
        | inr m ↦ elim (c.target die slot b) [
          | inl g ↦ absurd (clash die slot b.owner a.owner g m)
          | inr n ↦ m.same ∙ sym n.same
        ]
      ]

  pub changed_jobs : JobsFit v.slots live used own job
  changed_jobs die flight e =
      let was = h.jobs die flight (c.fewer_jobs die flight e) in
      record {
        on_live = c.busy die flight e was.on_live;
        fits = job_kept v.slots (v.used die) (used die) v.own own die (c.at_jobs die flight e) flight was.fits;
      }

-- a die whose slots are as they were
pub same_slots : (used then : ℕ → Option Used) (own own_then : Option ℕ → Option Owned) (die : ℕ) → ((slot : ℕ) → then slot ≡ used slot)
    → ((slot : ℕ) (b : TargetAt own_then die slot) → (a : TargetAt own die slot) × (a.target.programmed ≡ b.target.programmed))
    → JobKept used then own own_then die
same_slots used then own own_then die same back = record {
  kept = λ slot e alone. same slot ∙ e;
  settled = λ slot s. ap is_settled (same slot) ∙ s;
  held = λ slot page version e. inl (sym (same slot) ∙ e);
  target = λ slot b. inl (back slot b);
}

-- owners that were owners before
abbrev pub target_back : (own own_then : Option ℕ → Option Owned) → ((q : Option ℕ) (x : Owned) → own_then q ≡ Some x → own q ≡ Some x)
    → (die slot : ℕ) → TargetAt own_then die slot → TargetAt own die slot
target_back own own_then was die slot b = record {
  owner = b.owner;
  owned = b.owned;
  target = b.target;
  owns = was b.owner b.owned b.owns;
  among = b.among;
  on_die = b.on_die;
  at_slot = b.at_slot;
}
