-- Events after which no more is owned: Claim, Release, a copy that failed; and the ends of Commit, Abandon and CommitCopy.
use Rattle.fa_machine.specs.State.{Core, OpenClaim}
use Rattle.fa_machine.specs.declared.places.Copying.{Copying}
use Rattle.fa_machine.specs.declared.places.Used.{Used}
use Rattle.fa_machine.specs.declared.places.Used.TheVariants.{Held, Reserved, Stale}
use Rattle.fa_machine.specs.declared.places.Version.{Version}
use Rattle.fa_sound.proofs.Changing.{Changes, changed_apart, changed_jobs, changed_targets, held≢stale, reserved≢held, same_slots, target_back}
use Rattle.fa_sound.proofs.Owning.{claim_in, claimed_of}
use Rattle.fa_sound.specs.Owners.{Owned, TargetAt, owned_of}
use Rattle.fa_sound.specs.Sound.{ClaimsFit, IsSoundView, IsUsed, UsedFit, View, is_settled, view_of}
use Rattle.fa_types.specs.declared.numbers.Page.{Page}
use Rattle.std.proofs.Common.{None, Option, Some, ap, inl, inr, refl, sym, true, ℕ, ◌∙◌, ◌≡◌, ◌⊎◌}
use Rattle.std.specs.FinMap.{FinMap}
use Rattle.std.specs.Ordering.{nat_cmp}

module _ (core : Core) (h : IsSoundView (view_of core)) (copying : Option Copying) (claims : FinMap nat_cmp OpenClaim)
    (was : (q : Option ℕ) (x : Owned) → owned_of copying claims q ≡ Some x → owned_of core.copying core.claims q ≡ Some x)
    (fit : ClaimsFit core.page_map.geometry.pages (claim_in claims)) where
  abbrev v : View
  v = view_of core

  abbrev own : Option ℕ → Option Owned
  own = owned_of copying claims

  changes : Changes v v.live v.spare v.used own v.job None
  changes = record {
    fewer_jobs = λ die flight e. e;
    busy = λ die flight e on. on;
    at_jobs = λ die flight e. same_slots (v.used die) (v.used die) v.own own die (λ slot. refl) (λ slot b. (target_back v.own own was die slot b, refl));
    spares = λ die e. e;
    target = λ die slot b. inl (record { before = target_back v.own own was die slot b; same = refl; alive = λ on. on; kept = λ on e. e });
  }

  pub fewer_sound : IsSoundView (view_of (record core { copying = copying; claims = claims }))
  fewer_sound = record {
    copies = h.copies;
    numbers = h.numbers;
    slots = h.slots;
    held = h.held;
    once = h.once;
    targets = changed_targets v h v.live v.spare v.used own v.job None changes;
    apart = changed_apart v h v.live v.spare v.used own v.job None changes;
    spread = λ q x e. h.spread q x (was q x e);
    new = λ id x e. let n = h.new id x (was (Some id) x e) in record {
      claimed = claimed_of copying claims id x e;
      given = n.given;
      below = n.below;
      newer = n.newer;
    };
    old = λ x e. h.old x (was None x e);
    away = λ x e. h.away x (was None x e);
    jobs = changed_jobs v h v.live v.spare v.used own v.job None changes;
    dies = h.dies;
    claims = fit;
  }

-- what a slot comes to where an owner's targets come to a final state
pub data Placed (v : View) (used : ℕ → ℕ → Option Used) (o : Option ℕ) (die slot : ℕ) : Type 0 where
  Same : used die slot ≡ v.used die slot → Placed v used o die slot
  Staled : (page : Page) (version : Version) → v.used die slot ≡ Some (Held page version) → used die slot ≡ Some Stale → Placed v used o die slot
  Stops : (a : TargetAt v.own die slot) → a.owner ≡ o → v.live die ≡ true → used die slot ≡ Some Stale → Placed v used o die slot
  Gets : (page : Page) (version : Version) (a : TargetAt v.own die slot) → a.owner ≡ o → v.live die ≡ true → a.target.programmed ≡ true
      → used die slot ≡ Some (Held page version) → Placed v used o die slot

module _ (v : View) (h : IsSoundView v) (o : Option ℕ) (used : ℕ → ℕ → Option Used) (own : Option ℕ → Option Owned)
    (owner : (q : Option ℕ) (y : Owned) → own q ≡ Some y → (v.own q ≡ Some y) × (q ≡ o → ⊥))
    (placed : (die slot : ℕ) → Placed v used o die slot) where
  pub settled_slots : UsedFit v.total v.live used
  settled_slots die slot u e = at (placed die slot)
    where
      at : Placed v used o die slot → IsUsed v.live v.total die slot
      at (Same same) = h.slots die slot u (sym same ∙ e)
      at (Staled page version is now) = h.slots die slot (Held page version) is
      at (Stops a mine on now) = h.slots die slot Reserved ((h.targets die slot a).kept on)
      at (Gets page version a mine on done now) = h.slots die slot Reserved ((h.targets die slot a).kept on)

  abbrev back : (die slot : ℕ) → TargetAt own die slot → TargetAt v.own die slot
  back die slot b = target_back v.own own (λ q x e. (owner q x e).0) die slot b

  kept_if : (die slot : ℕ) → v.used die slot ≡ Some Reserved → (TargetAt v.own die slot → ⊥) → Placed v used o die slot → used die slot ≡ Some Reserved
  kept_if die slot e alone (Same same) = same ∙ e
  kept_if die slot e alone (Staled page version is now) = absurd (reserved≢held (v.used die slot) page version e is)
  kept_if die slot e alone (Stops a mine on now) = absurd (alone a)
  kept_if die slot e alone (Gets page version a mine on done now) = absurd (alone a)

  settled_if : (die slot : ℕ) → is_settled (v.used die slot) ≡ true → Placed v used o die slot → is_settled (used die slot) ≡ true
  settled_if die slot s (Same same) = ap is_settled same ∙ s
  settled_if die slot s (Staled page version is now) = ap is_settled now
  settled_if die slot s (Stops a mine on now) = ap is_settled now
  settled_if die slot s (Gets page version a mine on done now) = ap is_settled now

  held_if : (die slot : ℕ) (page : Page) (version : Version) → used die slot ≡ Some (Held page version) → Placed v used o die slot
      → (v.used die slot ≡ Some (Held page version)) ⊎ ((a : TargetAt v.own die slot) × (a.target.programmed ≡ true) × (v.used die slot ≡ Some Reserved))
  held_if die slot page version e (Same same) = inl (sym same ∙ e)
  held_if die slot page version e (Staled p w is now) = absurd (held≢stale (used die slot) page version e now)
  held_if die slot page version e (Stops a mine on now) = absurd (held≢stale (used die slot) page version e now)
  held_if die slot page version e (Gets p w a mine on done now) = inr (a, done, (h.targets die slot a).kept on)

  target_if : (die slot : ℕ) (b : TargetAt own die slot) → v.live die ≡ true → v.used die slot ≡ Some Reserved → Placed v used o die slot → used die slot ≡ Some Reserved
  target_if die slot b alive e (Same same) = same ∙ e
  target_if die slot b alive e (Staled page version is now) = absurd (reserved≢held (v.used die slot) page version e is)
  target_if die slot b alive e (Stops a mine on now) = absurd ((owner b.owner b.owned b.owns).1 (h.apart die slot (back die slot b) a alive ∙ mine))
  target_if die slot b alive e (Gets page version a mine on done now) =
      absurd ((owner b.owner b.owned b.owns).1 (h.apart die slot (back die slot b) a alive ∙ mine))

  pub settled_changes : Changes v v.live v.spare used own v.job None
  settled_changes = record {
    fewer_jobs = λ die flight e. e;
    busy = λ die flight e on. on;
    at_jobs = λ die flight e. record {
      kept = λ slot r alone. kept_if die slot r alone (placed die slot);
      settled = λ slot s. settled_if die slot s (placed die slot);
      held = λ slot page version r. held_if die slot page version r (placed die slot);
      target = λ slot b. inl (back die slot b, refl);
    };
    spares = λ die e. e;
    target = λ die slot b. inl (record {
      before = back die slot b;
      same = refl;
      alive = λ on. on;
      kept = λ on e. target_if die slot b on e (placed die slot);
    });
  }
