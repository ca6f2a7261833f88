-- What stays reserved as claims come and go, and as a slot is marked as programmed.
use Rattle.fa_mount_close_laws.proofs.Sights.{StaysOwned}
use Rattle.fa_laws.proofs.Ending.{mark_die, mark_slot, marked}
use Rattle.fa_laws.proofs.Invariant.{owned_claim, owned_of}
use Rattle.fa_laws.proofs.Scene.{IsTargetAt, Owned}
use Rattle.fa_machine.proofs.Lists.{among-map-intro}
use Rattle.fa_machine.proofs.Maps.{get-change, get-insert_other, get-remove_other, nat_same}
use Rattle.fa_machine.specs.Maps.{change}
use Rattle.fa_machine.specs.State.{OpenClaim, Reservation}
use Rattle.fa_machine.specs.Taking.{mark, mark_claim}
use Rattle.fa_machine.specs.declared.places.Copying.{Copying}
use Rattle.fa_machine.specs.declared.places.Target.{Target}
use Rattle.std.proofs.Common.{Bool, None, Option, Some, ap, eq-eqb, false, inl, inr, refl, sym, true, ℕ, ◌∙◌}
use Rattle.std.proofs.Common.{◌≡◌, ◌⊎◌}
use Rattle.std.proofs.lemmas.Bool.{and_from, cases_eq, ne_eqb, true≢false}
use Rattle.std.proofs.lemmas.Option.{none-some, same_Some}
use Rattle.std.specs.Cmp.{nat_cmp_total}
use Rattle.std.specs.FinMap.{FinMap, get, insert, remove}
use Rattle.std.specs.Ordering.{nat_cmp}
use Rattle.std.specs.Prelude.{if◌then◌else◌, is_some, option_and_then, option_map, ◌&&◌, ◌==◌}

-- an owner is this claim or not
pub owner_cases : (q : Option ℕ) (id : ℕ) → (q ≡ Some id) ⊎ (q ≡ Some id → ⊥)
owner_cases None id = inr (λ e. none-some id e)
owner_cases (Some j) id =
    elim (cases_eq j id) [
      | inl same ↦ inl (ap Some same)
      | inr apart ↦ inr (λ e. apart (same_Some j id e))
    ]

-- nothing is reserved under a claim that has no reservation
pub nothing_under : (o : Option OpenClaim) → is_some (option_and_then {T = OpenClaim} (λ c. c.reserved) o) ≡ false → (x : Owned)
    → option_and_then owned_claim o ≡ Some x → ⊥
nothing_under None free x e = none-some x e
nothing_under (Some c) free x e = of_reserved c.reserved free e
  where
    of_reserved : (r : Option Reservation) → is_some r ≡ false
        → option_map {T = Reservation} (λ r. record { page = c.page; version = r.version; targets = r.targets }) r ≡ Some x → ⊥
    of_reserved None free e = none-some x e
    of_reserved (Some r) free e = true≢false free

-- what others have reserved is as it was
pub left_owned : (copying : Option Copying) (claims : FinMap nat_cmp OpenClaim) (id : ℕ) (c : OpenClaim) (q : Option ℕ) (x : Owned)
    → owned_of copying claims q ≡ Some x → (q ≡ Some id → ⊥) → owned_of copying (insert claims id c) q ≡ Some x
left_owned copying claims id c None x e apart = e
left_owned copying claims id c (Some j) x e apart =
    ap (option_and_then owned_claim) (get-insert_other claims id c j (λ same. apart (ap Some same))) ∙ e

pub insert_owned : (copying : Option Copying) (claims : FinMap nat_cmp OpenClaim) (id : ℕ) (c : OpenClaim)
    → ((x : Owned) → owned_of copying claims (Some id) ≡ Some x → ⊥) → StaysOwned (owned_of copying claims) (owned_of copying (insert claims id c))
insert_owned copying claims id c none q x e =
    left_owned copying claims id c q x e (λ same. none x (sym (ap (owned_of copying claims) same) ∙ e))

pub remove_owned : (copying : Option Copying) (claims : FinMap nat_cmp OpenClaim) (id : ℕ)
    → ((x : Owned) → owned_of copying claims (Some id) ≡ Some x → ⊥) → StaysOwned (owned_of copying claims) (owned_of copying (remove claims id))
remove_owned copying claims id none None x e = e
remove_owned copying claims id none (Some j) x e =
    ap (option_and_then owned_claim) (get-remove_other claims id j (λ same. none x (sym (ap (λ n. owned_of copying claims (Some n)) same) ∙ e))) ∙ e

pub copy_owned : (copying : Option Copying) (copy : Copying) (claims : FinMap nat_cmp OpenClaim) → copying ≡ None
    → StaysOwned (owned_of copying claims) (owned_of (Some copy) claims)
copy_owned copying copy claims none None x e =
    absurd (none-some x (sym (ap (λ o. owned_of o claims None) none) ∙ e))
copy_owned copying copy claims none (Some j) x e = e

-- a target once a slot is marked as programmed
pub record Marked (own now : Option ℕ → Option Owned) (die slot d k : ℕ) (q : Option ℕ) (x : Owned) (t : Target) : Type 0 where
  pub owned : Owned
  pub target : Target
  pub at : IsTargetAt now d k q owned target
  pub page_is : owned.page ≡ x.page
  pub version_is : owned.version ≡ x.version
  pub still : t.programmed ≡ true → target.programmed ≡ true
  pub here : d ≡ die → k ≡ slot → target.programmed ≡ true

still_if : (b : Bool) (t : Target) → t.programmed ≡ true → (if b then record t { programmed = true } else t).programmed ≡ true
still_if true t e = refl
still_if false t e = e

abbrev pub marks_of : (page die slot id : ℕ) → OpenClaim → OpenClaim
marks_of page die slot id c = if c.page == page then mark_claim die slot c else c

module _ (page die slot : ℕ) (copying : Option Copying) (claims : FinMap nat_cmp OpenClaim)
    (of_page : (q : Option ℕ) (x : Owned) (t : Target) → IsTargetAt (owned_of copying claims) die slot q x t → x.page ≡ page) where
  abbrev own : Option ℕ → Option Owned
  own = owned_of copying claims

  abbrev now : Option ℕ → Option Owned
  now = owned_of (option_map {T = Copying} (λ c. record c { target = mark die slot c.target }) copying) (change (marks_of page die slot) claims)

  from_marked : (d k : ℕ) (q : Option ℕ) (x : Owned) (t : Target) → IsTargetAt own d k q x t → now q ≡ Some (marked die slot x)
      → Marked own now die slot d k q x t
  from_marked d k q x t at owns = record {
    owned = marked die slot x;
    target = mark die slot t;
    at = record {
      owns = owns;
      among = among-map-intro (mark die slot) t x.targets at.among;
      on_die = mark_die die slot t ∙ at.on_die;
      at_slot = mark_slot die slot t ∙ at.at_slot;
    };
    page_is = refl;
    version_is = refl;
    still = still_if (t.die.0 == die && t.slot.0 == slot) t;
    here = λ e f. ap {B = Bool} (λ b. (if b then record t { programmed = true } else t).programmed)
        (and_from (t.die.0 == die) (t.slot.0 == slot) (eq-eqb t.die.0 die (at.on_die ∙ e)) (eq-eqb t.slot.0 slot (at.at_slot ∙ f)));
  }

  from_same : (d k : ℕ) (q : Option ℕ) (x : Owned) (t : Target) → IsTargetAt own d k q x t → now q ≡ Some x → (x.page ≡ page → ⊥)
      → Marked own now die slot d k q x t
  from_same d k q x t at owns apart = record {
    owned = x;
    target = t;
    at = record { owns = owns; among = at.among; on_die = at.on_die; at_slot = at.at_slot };
    page_is = refl;
    version_is = refl;
    still = λ e. e;
    here = λ e f. absurd (apart (of_page q x t (record { owns = at.owns; among = at.among; on_die = at.on_die ∙ e; at_slot = at.at_slot ∙ f })));
  }

  -- what is reserved is as it was, or has the slot marked
  marks_owned : (q : Option ℕ) (x : Owned) → own q ≡ Some x → (now q ≡ Some (marked die slot x)) ⊎ ((now q ≡ Some x) × (x.page ≡ page → ⊥))
  marks_owned None x e = inl (of_copy copying e)
    where
      of_copy : (c : Option Copying) → owned_of c claims None ≡ Some x
          → owned_of (option_map {T = Copying} (λ c. record c { target = mark die slot c.target }) c) claims None ≡ Some (marked die slot x)
      of_copy None e = absurd (none-some x e)
      of_copy (Some c) e = ap (λ (y : Owned). Some (marked die slot y)) (same_Some _ x e)
  marks_owned (Some id) x e = of_claim (get claims id) refl
    where
      changed : (o : Option OpenClaim) → get claims id ≡ o → now (Some id) ≡ option_and_then owned_claim (option_map (marks_of page die slot id) o)
      changed o is = ap (option_and_then owned_claim) (get-change nat_cmp_total nat_same (marks_of page die slot) claims id ∙ ap (option_map (marks_of page die slot id)) is)

      of_reserved : (p : ℕ) (r : Option Reservation) → owned_claim (record { page = p; reserved = r }) ≡ Some x
          → (owned_claim (mark_claim die slot (record { page = p; reserved = r })) ≡ Some (marked die slot x)) × (x.page ≡ p)
      of_reserved p None f = absurd (none-some x f)
      of_reserved p (Some r) f = (ap (λ (y : Owned). Some (marked die slot y)) (same_Some _ x f), sym (ap (λ (y : Owned). y.page) (same_Some _ x f)))

      of_claim : (o : Option OpenClaim) → get claims id ≡ o → (now (Some id) ≡ Some (marked die slot x)) ⊎ ((now (Some id) ≡ Some x) × (x.page ≡ page → ⊥))
      of_claim None is = absurd (none-some x (sym (ap (option_and_then owned_claim) is) ∙ e))
      of_claim (Some c) is =
          let f : owned_claim c ≡ Some x = sym (ap (option_and_then owned_claim) is) ∙ e in
          let found = of_reserved c.page c.reserved f in
          elim (cases_eq c.page page) [
            | inl same ↦ inl (changed (Some c) is
                ∙ ap {B = Option Owned} (λ b. owned_claim (if b then mark_claim die slot c else c)) (eq-eqb c.page page same) ∙ found.0)
            | inr apart ↦ inr (
              changed (Some c) is
                  ∙ ap {B = Option Owned} (λ b. owned_claim (if b then mark_claim die slot c else c)) (ne_eqb c.page page apart) ∙ f,
              λ same. apart (sym found.1 ∙ same),
            )
          ]

  pub marked_target : (d k : ℕ) (q : Option ℕ) (x : Owned) (t : Target) → IsTargetAt own d k q x t → Marked own now die slot d k q x t
  marked_target d k q x t at =
      elim (marks_owned q x at.owns) [
        | inl new ↦ from_marked d k q x t at new
        | inr same ↦ from_same d k q x t at same.0 same.1
      ]
