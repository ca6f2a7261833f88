-- The claims that the entries of a table stand for.
use Rattle.fa_core_tables.specs.Claims.{claim_of, claims_in, reservation_of}
use Rattle.fa_core_tables.specs.declared.targets.Reservation.{Reservation}
use Rattle.fa_machine.proofs.NumberTables.{get_table, same_map_of, there}
use Rattle.fa_machine.proofs.Maps.{get-change, has_some, nat_same}
use Rattle.fa_machine.proofs.Values.{any_value, some_value}
use Rattle.fa_machine.specs.Maps.{change}
use Rattle.fa_machine.specs.State.{OpenClaim, Reservation as ReservedWrite}
use Rattle.fa_machine.specs.Taking.{mark, mark_claim}
use Rattle.std.proofs.Common.{List, None, Option, Some, [], ap, arith, cond, eq-eqb, eqb-true, inl, inr, length, map, refl, sym, true, ℕ}
use Rattle.std.proofs.Common.{◌∙◌, ◌∷◌, ◌≡◌}
use Rattle.std.proofs.lemmas.Bool.{cases_Bool, cases_eq, false≢true, ne_eqb}
use Rattle.std.proofs.lemmas.Cmp.{tied_itself}
use Rattle.std.proofs.lemmas.Option.{none-some, same_Some}
use Rattle.std.specs.Cmp.{nat_cmp_total, unsigned_tied}
use Rattle.std.specs.FinMap.{FinMap, contains_key, empty_of_len, find, get, get-empty, get-from_entries, len, len-empty, get-insert}
use Rattle.std.specs.FinMap.{get-remove, insert, nat_cmp-IsAntisymmetric}
use Rattle.std.specs.FinMap.{remove, same_map, values}
use Rattle.std.specs.List.{list_any}
use Rattle.std.specs.Map.{lookup}
use Rattle.std.specs.Ordering.{eq_by_cmp, is_eq, nat_cmp}
use Rattle.std.specs.Prelude.{if◌then◌else◌, is_some, option_and_then, option_map, unwrap_or, ◌==◌}

abbrev pub Entries : Type 0
Entries = List (ℕ × Option Reservation)

-- what a table has at a number
abbrev pub at : Entries → ℕ → Option (Option Reservation)
at es q = lookup (λ k. q == k) es

pub get_claims : (es : Entries) (q : ℕ) → get (claims_in es) q ≡ option_map (claim_of q) (at es q)
get_claims = get_table claim_of

same_claims : (m n : FinMap nat_cmp OpenClaim) → ((q : ℕ) → get m q ≡ get n q) → m ≡ n
same_claims = same_map_of claim_of

module _ (es : Entries) where
  pub open_at : (q : ℕ) → is_some (at es q) ≡ contains_key (claims_in es) q
  open_at = there claim_of es

  own_page : (o : Option (Option Reservation)) (q : ℕ) (c : OpenClaim) → option_map (claim_of q) o ≡ Some c → c.page ≡ q
  own_page None q c e = absurd (none-some c e)
  own_page (Some r) q c e = ap (λ (x : OpenClaim). x.page) (sym (same_Some (claim_of q r) c e))

  -- a claim's number is its page's
  pub page_is : (q : ℕ) (c : OpenClaim) → get (claims_in es) q ≡ Some c → c.page ≡ q
  page_is q c e = own_page (at es q) q c (sym (get_claims es q) ∙ e)

  pub page_at : (q : ℕ) → contains_key (claims_in es) q ≡ true
      → q ≡ unwrap_or (option_map {T = OpenClaim} (λ c. c.page) (get (claims_in es) q)) 0
  page_at q there =
      let c = has_some (get (claims_in es) q) there in
      sym (page_is q c.0 c.1) ∙ ap (λ o. unwrap_or (option_map {T = OpenClaim} (λ c. c.page) o) 0) (sym c.1)

  pub claimed_at : (page : ℕ) → is_some (at es page) ≡ list_any (λ (c : OpenClaim). c.page == page) (values (claims_in es))
  claimed_at page =
      open_at page ∙ elim (cases_Bool (contains_key (claims_in es) page)) [
        | inl there ↦
            let c = has_some (get (claims_in es) page) there in
            there ∙ sym (any_value (λ (c : OpenClaim). c.page == page) (claims_in es) page c.0 c.1
            (eq-eqb c.0.page page (page_is page c.0 c.1)))
        | inr absent ↦ elim (cases_Bool (list_any (λ (c : OpenClaim). c.page == page) (values (claims_in es)))) [
          | inr not_any ↦ absent ∙ sym not_any
          | inl any ↦
              let found = some_value nat_cmp_total nat_same (tied_itself nat_cmp_total) (λ (c : OpenClaim). c.page == page) (claims_in es)
              any in
              let same : found.0 ≡ page = sym (page_is found.0 found.1 found.2) ∙ eqb-true found.1.page page found.3 in
              absurd (false≢true (sym absent ∙ ap (λ q. contains_key (claims_in es) q) (sym same) ∙ ap is_some found.2))
        ]
      ]

  pub reserved_at : (q : ℕ) (o : Option (Option Reservation)) → at es q ≡ o
      → option_and_then {T = OpenClaim} (λ c. c.reserved) (get (claims_in es) q) ≡ option_and_then (λ r. option_map reservation_of r) o
  reserved_at q o is =
      ap (option_and_then {T = OpenClaim} (λ c. c.reserved)) (get_claims es q ∙ ap (option_map (claim_of q)) is) ∙ go o
    where
      go : (o : Option (Option Reservation)) → option_and_then {T = OpenClaim} (λ c. c.reserved) (option_map (claim_of q) o)
          ≡ option_and_then (λ r. option_map reservation_of r) o
      go None = refl
      go (Some r) = refl

-- The claim of a page after a copy of it was programmed, among claims that have their pages' numbers.
module _ (m : FinMap nat_cmp OpenClaim) (own : (q : ℕ) (c : OpenClaim) → get m q ≡ Some c → c.page ≡ q) (page die slot : ℕ) where
  abbrev pub marked_claim : ℕ → OpenClaim → OpenClaim
  marked_claim id c = if c.page == page then mark_claim die slot c else c

  other_claim : (q : ℕ) → (q ≡ page → ⊥) → (o : Option OpenClaim) → get m q ≡ o → option_map (marked_claim q) o ≡ o
  other_claim q apart None is = refl
  other_claim q apart (Some c) is =
      ap (λ b. Some (if b then mark_claim die slot c else c)) (ne_eqb c.page page (λ e. apart (sym (own q c is) ∙ e)))

  this_claim : (c : OpenClaim) → get m page ≡ Some c → marked_claim page c ≡ mark_claim die slot c
  this_claim c is = ap (λ b. if b then mark_claim die slot c else c) (eq-eqb c.page page (own page c is))

  with_reservation : (c : OpenClaim) (r n : ReservedWrite) → c.page ≡ page → c.reserved ≡ Some r
      → n ≡ record r { targets = map (mark die slot) r.targets }
      → mark_claim die slot c ≡ record { page = page; reserved = Some n }
  with_reservation c r n of_page is new i =
      record {
        page = of_page i;
        reserved = (ap (option_map (λ (x : ReservedWrite). record x { targets = map (mark die slot) x.targets }))
            is ∙ ap Some (sym new)) i;
      }

  without : (c : OpenClaim) → c.reserved ≡ None → mark_claim die slot c ≡ c
  without c is i =
      record {
        page = c.page;
        reserved = (ap (option_map (λ (x : ReservedWrite). record x { targets = map (mark die slot) x.targets })) is
            ∙ sym is) i;
      }

  reserved_claim : (o : Option OpenClaim) (r : ReservedWrite) → option_and_then {T = OpenClaim} (λ c. c.reserved) o ≡ Some r
      → (c : OpenClaim) × (o ≡ Some c) × (c.reserved ≡ Some r)
  reserved_claim None r is = absurd (none-some r is)
  reserved_claim (Some c) r is = (c, refl, is)

  -- where something is reserved under it
  pub marked : (r n : ReservedWrite) → option_and_then {T = OpenClaim} (λ c. c.reserved) (get m page) ≡ Some r
      → n ≡ record r { targets = map (mark die slot) r.targets }
      → insert m page (record { page = page; reserved = Some n }) ≡ change marked_claim m
  marked r n is new =
      let c = reserved_claim (get m page) r is in
      same_claims _ _ (λ q. get-insert nat_cmp_total m page (record { page = page; reserved = Some n }) q
      ∙ elim (cases_eq q page) [
        | inl same ↦
            ap (λ b. cond b (Some (record { page = page; reserved = Some n })) (get m q)) (unsigned_tied q page ∙ eq-eqb q page same)
            ∙ ap Some (sym (with_reservation c.0 r n (own page c.0 c.1) c.2 new)) ∙ ap Some (sym (this_claim c.0 c.1))
            ∙ sym (ap (option_map (marked_claim page)) c.1)
            ∙ ap (λ k. option_map (marked_claim k) (get m k)) (sym same)
        | inr apart ↦
            ap (λ b. cond b (Some (record { page = page; reserved = Some n })) (get m q)) (unsigned_tied q page ∙ ne_eqb q page apart)
            ∙ sym (other_claim q apart (get m q) refl)
      ]
      ∙ sym (get-change nat_cmp_total nat_same marked_claim m q))

  nothing_marked : (o : Option OpenClaim) → get m page ≡ o → option_and_then {T = OpenClaim} (λ c. c.reserved) o ≡ None
      → option_map (marked_claim page) o ≡ o
  nothing_marked None is none = refl
  nothing_marked (Some c) is none = ap Some (this_claim c is ∙ without c none)

  -- where nothing is
  pub marks_none : option_and_then {T = OpenClaim} (λ c. c.reserved) (get m page) ≡ None → m ≡ change marked_claim m
  marks_none none =
      same_claims _ _ (λ q. elim (cases_eq q page) [
        | inl same ↦
            ap (get m) same ∙ sym (nothing_marked (get m page) refl none) ∙ ap (λ k. option_map (marked_claim k) (get m k)) (sym same)
        | inr apart ↦ sym (other_claim q apart (get m q) refl)
      ]
      ∙ sym (get-change nat_cmp_total nat_same marked_claim m q))
