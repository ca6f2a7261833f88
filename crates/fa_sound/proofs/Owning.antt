-- What is owned after claims change.
use Rattle.fa_machine.proofs.Maps.{get-insert_other, get-insert_same, get-remove_other, get-remove_same}
use Rattle.fa_machine.specs.State.{OpenClaim, Reservation}
use Rattle.fa_machine.specs.declared.places.Copying.{Copying}
use Rattle.fa_sound.specs.Owners.{Owned, owned_claim, owned_of}
use Rattle.fa_sound.specs.Sound.{ClaimsFit}
use Rattle.std.proofs.Common.{None, Option, Some, ap, eq-eqb, false, inl, inr, refl, sym, true, ℕ, ◌∙◌, ◌≡◌, ◌⊎◌}
use Rattle.std.proofs.lemmas.Bool.{cases_eq, false≢true}
use Rattle.std.proofs.lemmas.Option.{none-some, same_Some}
use Rattle.fa_machine.proofs.Values.{any_value}
use Rattle.std.specs.FinMap.{FinMap, get, insert, remove, values}
use Rattle.std.specs.List.{list_any}
use Rattle.std.specs.Ordering.{nat_cmp}
use Rattle.std.specs.Prelude.{is_some, option_and_then, option_map, unwrap_or, ◌==◌}

abbrev pub claim_in : FinMap nat_cmp OpenClaim → ℕ → Option ℕ
claim_in claims id = option_map {T = OpenClaim} (λ c. c.page) (get claims id)

-- what is reserved once a claim was inserted
pub own_insert : (copying : Option Copying) (claims : FinMap nat_cmp OpenClaim) (id : ℕ) (c : OpenClaim) (q : Option ℕ) (x : Owned)
    → owned_of copying (insert claims id c) q ≡ Some x
    → ((q ≡ Some id) × (owned_claim c ≡ Some x)) ⊎ ((owned_of copying claims q ≡ Some x) × (q ≡ Some id → ⊥))
own_insert copying claims id c None x e = inr (e, λ same. none-some id same)
own_insert copying claims id c (Some j) x e =
    elim (cases_eq j id) [
      | inl same ↦
          inl (ap Some same, sym (ap (option_and_then owned_claim) (ap (get (insert claims id c)) same ∙ get-insert_same claims id c)) ∙ e)
      | inr apart ↦
          inr (sym (ap (option_and_then owned_claim) (get-insert_other claims id c j apart)) ∙ e, λ same. apart (same_Some j id same))
    ]

pub own_remove : (copying : Option Copying) (claims : FinMap nat_cmp OpenClaim) (id : ℕ) (q : Option ℕ) (x : Owned)
    → owned_of copying (remove claims id) q ≡ Some x → owned_of copying claims q ≡ Some x
own_remove copying claims id None x e = e
own_remove copying claims id (Some j) x e =
    elim (cases_eq j id) [
      | inl same ↦ absurd (none-some x (sym (ap (option_and_then owned_claim) (ap (get (remove claims id)) same ∙ get-remove_same claims id)) ∙ e))
      | inr apart ↦ sym (ap (option_and_then owned_claim) (get-remove_other claims id j apart)) ∙ e
    ]

-- what is reserved under a claim is of the claim's page
claimed_if : (c : OpenClaim) (r : Option Reservation) (x : Owned)
    → option_map {T = Reservation} (λ r. record { page = c.page; version = r.version; targets = r.targets }) r ≡ Some x → c.page ≡ x.page
claimed_if c None x e = absurd (none-some x e)
claimed_if c (Some r) x e = ap (λ (y : Owned). y.page) (same_Some _ x e)

claimed_at : (o : Option OpenClaim) (x : Owned) → option_and_then owned_claim o ≡ Some x → option_map {T = OpenClaim} (λ c. c.page) o ≡ Some x.page
claimed_at None x e = absurd (none-some x e)
claimed_at (Some c) x e = ap Some (claimed_if c c.reserved x e)

pub claimed_of : (copying : Option Copying) (claims : FinMap nat_cmp OpenClaim) (id : ℕ) (x : Owned) → owned_of copying claims (Some id) ≡ Some x
    → claim_in claims id ≡ Some x.page
claimed_of copying claims id x e = claimed_at (get claims id) x e

page_if : (o : Option OpenClaim) → is_some o ≡ true
    → option_map {T = OpenClaim} (λ c. c.page) o ≡ Some (unwrap_or (option_map {T = OpenClaim} (λ c. c.page) o) 0)
page_if None e = absurd (false≢true e)
page_if (Some c) e = refl

-- an open claim that is written anew with its own page
pub claim_same : (claims : FinMap nat_cmp OpenClaim) (id : ℕ) (r : Option Reservation) → is_some (get claims id) ≡ true → (j : ℕ)
    → claim_in (insert claims id (record { page = unwrap_or (claim_in claims id) 0; reserved = r })) j ≡ claim_in claims j
claim_same claims id r opened j =
    elim (cases_eq j id) [
      | inl same ↦
          ap (option_map {T = OpenClaim} (λ c. c.page)) (ap (get (insert claims id (record { page = unwrap_or (claim_in claims id) 0; reserved = r }))) same
          ∙ get-insert_same claims id (record { page = unwrap_or (claim_in claims id) 0; reserved = r }))
          ∙ sym (page_if (get claims id) opened) ∙ sym (ap (claim_in claims) same)
      | inr apart ↦ ap (option_map {T = OpenClaim} (λ c. c.page)) (get-insert_other claims id (record { page = unwrap_or (claim_in claims id) 0; reserved = r }) j apart)
    ]

pub claims_same : (pages : ℕ) (claim then : ℕ → Option ℕ) → ((id : ℕ) → then id ≡ claim id) → ClaimsFit pages claim → ClaimsFit pages then
claims_same pages claim then same f = record {
  inside = λ id page e. f.inside id page (sym (same id) ∙ e);
  once = λ id other page e g. f.once id other page (sym (same id) ∙ e) (sym (same other) ∙ g);
}

pub opened : (claims : FinMap nat_cmp OpenClaim) (id : ℕ) → is_some (get claims id) ≡ true
    → claim_in claims id ≡ Some (unwrap_or (claim_in claims id) 0)
opened claims id e = page_if (get claims id) e

-- a claim's page after an insert of a claim, and after a removal
pub claim_inserted : (claims : FinMap nat_cmp OpenClaim) (id : ℕ) (c : OpenClaim) (j p : ℕ) → claim_in (insert claims id c) j ≡ Some p
    → ((j ≡ id) × (c.page ≡ p)) ⊎ (claim_in claims j ≡ Some p)
claim_inserted claims id c j p e =
    elim (cases_eq j id) [
      | inl same ↦ inl (
        same,
        same_Some c.page p (sym (ap (option_map {T = OpenClaim} (λ c. c.page))
            (ap (get (insert claims id c)) same ∙ get-insert_same claims id c)) ∙ e),
      )
      | inr apart ↦ inr (sym (ap (option_map {T = OpenClaim} (λ c. c.page)) (get-insert_other claims id c j apart)) ∙ e)
    ]

pub claim_removed : (claims : FinMap nat_cmp OpenClaim) (id j p : ℕ) → claim_in (remove claims id) j ≡ Some p → claim_in claims j ≡ Some p
claim_removed claims id j p e =
    elim (cases_eq j id) [
      | inl same ↦ absurd (none-some p (sym (ap (option_map {T = OpenClaim} (λ c. c.page)) (ap (get (remove claims id)) same ∙ get-remove_same claims id)) ∙ e))
      | inr apart ↦ sym (ap (option_map {T = OpenClaim} (λ c. c.page)) (get-remove_other claims id j apart)) ∙ e
    ]

claim_some : (o : Option OpenClaim) (p : ℕ) → option_map {T = OpenClaim} (λ c. c.page) o ≡ Some p → (c : OpenClaim) × (o ≡ Some c) × (c.page ≡ p)
claim_some None p e = absurd (none-some p e)
claim_some (Some c) p e = (c, refl, same_Some c.page p e)

-- a page that none claims is no claim's
pub unclaimed : (claims : FinMap nat_cmp OpenClaim) (page j : ℕ) → list_any (λ (c : OpenClaim). c.page == page) (values claims) ≡ false
    → claim_in claims j ≡ Some page → ⊥
unclaimed claims page j none e =
    let c = claim_some (get claims j) page e in
    false≢true (sym none ∙ any_value (λ (c : OpenClaim). c.page == page) claims j c.0 c.1 (eq-eqb c.0.page page c.2))

pub reserved_owned : (o : Option OpenClaim) (r : Reservation) → option_and_then {T = OpenClaim} (λ c. c.reserved) o ≡ Some r
    → option_and_then owned_claim o ≡ Some (record { page = unwrap_or (option_map {T = OpenClaim} (λ c. c.page) o) 0; version = r.version; targets = r.targets })
reserved_owned None r e = absurd (none-some r e)
reserved_owned (Some c) r e =
    ap (option_map {T = Reservation} (λ r. record { page = c.page; version = r.version; targets = r.targets })) e

pub reserved_open : (o : Option OpenClaim) (r : Reservation) → option_and_then {T = OpenClaim} (λ c. c.reserved) o ≡ Some r → is_some o ≡ true
reserved_open None r e = absurd (none-some r e)
reserved_open (Some c) r e = refl
