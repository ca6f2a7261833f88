-- What is found in maps that were changed.
use Rattle.fa_machine.specs.Maps.{change, keep, place_cmp}
use Rattle.std.proofs.Common.{Bool, List, None, Option, Some, [], ap, cond, eq-eqb, eqb-true, false, inl, inr, map, refl, sym, true, ℕ}
use Rattle.std.proofs.Common.{◌∙◌, ◌∷◌, ◌≡◌, ◌⊎◌}
use Rattle.std.proofs.lemmas.Bool.{and_from, and_parts, cases_Bool, cases_eq, false_from_ne_true, false≢true, ne_eqb}
use Rattle.std.proofs.lemmas.Cmp.{on_total}
use Rattle.std.proofs.lemmas.Option.{none-some, same_Some}
use Rattle.std.specs.Cmp.{IsTotalOrder, nat_cmp_total, then_total, unsigned_tied}
use Rattle.std.specs.FinMap.{FinMap, entries, entries_sorted, find as find_entry, get, get-entries, get-from_entries, get-insert}
use Rattle.std.specs.FinMap.{get-remove, insert, is_sorted, remove}
use Rattle.std.specs.Ordering.{eq_by_cmp, is_eq, is_lt, nat_cmp, ordering_then}
use Rattle.std.specs.Prelude.{T, filter, if◌then◌else◌, is_some, option_map, ◌&&◌, ◌==◌}
use Rattle.std.specs.declared.cmp.Ordering.{Ordering}
use Rattle.std.specs.declared.cmp.Ordering.TheVariants.{Equal, Greater, Less}
use Rattle.std.specs.FinMap.Entries.{below_all}

pub place_cmp_total : IsTotalOrder place_cmp
place_cmp_total = then_total (on_total (λ (place : ℕ × ℕ). place.0) nat_cmp_total) (on_total (λ (place : ℕ × ℕ). place.1) nat_cmp_total)

pub has_some : {X : Type 0} (o : Option X) → is_some o ≡ true → (x : X) × (o ≡ Some x)
has_some None e = absurd (false≢true e)
has_some (Some x) e = (x, refl)

pub both_of : (a b : Bool) → T (a && b) → T a × T b
both_of true b h = (tt, h)
both_of false b h = absurd h

if_less : (r : Ordering) → T (is_lt r) → r ≡ Less
if_less Less h = refl
if_less Equal h = absurd h
if_less Greater h = absurd h

pub if_equal : (r : Ordering) → is_eq r ≡ true → r ≡ Equal
if_equal Less h = absurd (false≢true h)
if_equal Equal h = refl
if_equal Greater h = absurd (false≢true h)

-- what a test leaves of what was found
abbrev pub passed : {X : Type 0} → (X → Bool) → Option X → Option X
passed test None = None
passed test (Some x) = if test x then Some x else None

module _ {K X : Type 0} {R : K → K → Ordering} (o : IsTotalOrder R) (same : (x y : K) → R x y ≡ Equal → x ≡ y) where
  pub found_below : (q : K) (es : List (K × X)) → T (below_all R q es) → find_entry R q es ≡ None
  found_below q [] h = refl
  found_below q (e ∷ es) h =
      let parts = both_of _ _ h in
      ap (λ r. cond (is_eq r) (Some e.1) (find_entry R q es)) (if_less (R q e.0) parts.0) ∙ found_below q es parts.1

  none_kept : (test : K → X → Bool) (q : K) (es : List (K × X)) → find_entry R q es ≡ None → find_entry R q (filter (λ e. test e.0 e.1) es) ≡ None
  none_kept test q [] h = refl
  none_kept test q (e ∷ es) h =
      elim (cases_Bool (eq_by_cmp R q e.0)) [
        | inl tied ↦ absurd (none-some e.1 (sym h ∙ ap (λ b. cond b (Some e.1) (find_entry R q es)) tied))
        | inr apart ↦
            let rest = none_kept test q es (sym (ap (λ b. cond b (Some e.1) (find_entry R q es)) apart) ∙ h) in
            kept (test e.0 e.1) apart rest
      ]
    where
      kept : (b : Bool) → eq_by_cmp R q e.0 ≡ false → find_entry R q (filter (λ e. test e.0 e.1) es) ≡ None
          → find_entry R q (cond b (e ∷ filter (λ e. test e.0 e.1) es) (filter (λ e. test e.0 e.1) es)) ≡ None
      kept true apart rest = ap (λ b. cond b (Some e.1) (find_entry R q (filter (λ e. test e.0 e.1) es))) apart ∙ rest
      kept false apart rest = rest

  found_first : (test : K → X → Bool) (q : K) (e : K × X) (es : List (K × X)) → q ≡ e.0 → eq_by_cmp R q e.0 ≡ true → find_entry R q es ≡ None
      → (b : Bool) → test e.0 e.1 ≡ b → find_entry R q (cond b (e ∷ filter (λ e. test e.0 e.1) es) (filter (λ e. test e.0 e.1) es)) ≡ passed (test q) (Some e.1)
  found_first test q e es is tied none true t =
      ap (λ b. cond b (Some e.1) (find_entry R q (filter (λ e. test e.0 e.1) es))) tied
      ∙ sym (ap (λ b. if b then Some e.1 else None) (ap (λ k. test k e.1) is ∙ t))
  found_first test q e es is tied none false t =
      none_kept test q es none ∙ sym (ap (λ b. if b then Some e.1 else None) (ap (λ k. test k e.1) is ∙ t))

  found_kept : (test : K → X → Bool) (q : K) (es : List (K × X)) → T (is_sorted R es)
      → find_entry R q (filter (λ e. test e.0 e.1) es) ≡ passed (test q) (find_entry R q es)
  found_kept test q [] h = refl
  found_kept test q (e ∷ es) h =
      let parts = both_of _ _ h in
      elim (cases_Bool (eq_by_cmp R q e.0)) [
        | inl tied ↦
            let is = same q e.0 (if_equal (R q e.0) tied) in
            let none = ap (λ k. find_entry R k es) is ∙ found_below e.0 es parts.0 in
            found_first test q e es is tied none (test e.0 e.1) refl
            ∙ sym (ap (λ b. passed (test q) (cond b (Some e.1) (find_entry R q es))) tied)
        | inr apart ↦
            let rest = found_kept test q es parts.1 in
            skipped (test e.0 e.1) apart ∙ rest ∙ sym (ap (λ b. passed (test q) (cond b (Some e.1) (find_entry R q es))) apart)
      ]
    where
      skipped : (b : Bool) → eq_by_cmp R q e.0 ≡ false
          → find_entry R q (cond b (e ∷ filter (λ e. test e.0 e.1) es) (filter (λ e. test e.0 e.1) es)) ≡ find_entry R q (filter (λ e. test e.0 e.1) es)
      skipped true apart = ap (λ b. cond b (Some e.1) (find_entry R q (filter (λ e. test e.0 e.1) es))) apart
      skipped false apart = refl

  pub get-keep : (test : K → X → Bool) (m : FinMap R X) (q : K) → get (keep test m) q ≡ passed (test q) (get m q)
  get-keep test m q =
      get-from_entries o (filter (λ e. test e.0 e.1) (entries m)) q
      ∙ found_kept test q (entries m) (entries_sorted m)
      ∙ sym (ap (passed (test q)) (get-entries m q))

  -- what is found in entries whose values were changed
  pub found_changed : {Y : Type 0} (f : K → X → Y) (q : K) (es : List (K × X))
      → find_entry R q (map (λ e. (e.0, f e.0 e.1)) es) ≡ option_map (f q) (find_entry R q es)
  found_changed f q [] = refl
  found_changed f q (e ∷ es) =
      elim (cases_Bool (eq_by_cmp R q e.0)) [
        | inl tied ↦
            let is = same q e.0 (if_equal (R q e.0) tied) in
            ap (λ b. cond b (Some (f e.0 e.1)) (find_entry R q (map (λ e. (e.0, f e.0 e.1)) es))) tied
            ∙ ap (λ k. Some (f k e.1)) (sym is)
            ∙ sym (ap (λ b. option_map (f q) (cond b (Some e.1) (find_entry R q es))) tied)
        | inr apart ↦
            ap (λ b. cond b (Some (f e.0 e.1)) (find_entry R q (map (λ e. (e.0, f e.0 e.1)) es))) apart
            ∙ found_changed f q es
            ∙ sym (ap (λ b. option_map (f q) (cond b (Some e.1) (find_entry R q es))) apart)
      ]

  pub get-change : (f : K → X → X) (m : FinMap R X) (q : K) → get (change f m) q ≡ option_map (f q) (get m q)
  get-change f m q =
      get-from_entries o (map (λ e. (e.0, f e.0 e.1)) (entries m)) q
      ∙ found_changed f q (entries m)
      ∙ sym (ap (option_map (f q)) (get-entries m q))

pub nat_same : (x y : ℕ) → nat_cmp x y ≡ Equal → x ≡ y
nat_same x y e = eqb-true x y (sym (unsigned_tied x y) ∙ ap is_eq e)

then_parts : (a b : Ordering) → ordering_then a b ≡ Equal → (a ≡ Equal) × (b ≡ Equal)
then_parts Equal b e = (refl, e)
then_parts Less b e = absurd (false≢true (ap is_eq e))
then_parts Greater b e = absurd (false≢true (ap is_eq e))

pub place_same : (x y : ℕ × ℕ) → place_cmp x y ≡ Equal → x ≡ y
place_same x y e =
    let parts = then_parts (nat_cmp x.0 y.0) (nat_cmp x.1 y.1) e in
    let a = nat_same x.0 y.0 parts.0 in
    let b = nat_same x.1 y.1 parts.1 in
    λ i. (a i, b i)

tied_parts : (a b : Ordering) → is_eq (ordering_then a b) ≡ (is_eq a && is_eq b)
tied_parts Equal b = refl
tied_parts Less b = refl
tied_parts Greater b = refl

pub place_tied : (x y : ℕ × ℕ) → eq_by_cmp place_cmp x y ≡ (x.0 == y.0 && x.1 == y.1)
place_tied x y = tied_parts (nat_cmp x.0 y.0) (nat_cmp x.1 y.1) ∙ (λ i. unsigned_tied x.0 y.0 i && unsigned_tied x.1 y.1 i)

pub place_itself : (x : ℕ × ℕ) → place_cmp x x ≡ Equal
place_itself x = if_equal (place_cmp x x) (place_tied x x ∙ and_from (x.0 == x.0) (x.1 == x.1) (eq-eqb x.0 x.0 refl) (eq-eqb x.1 x.1 refl))

module _ {X : Type 0} where
  pub get-insert_same : (m : FinMap nat_cmp X) (k : ℕ) (x : X) → get (insert m k x) k ≡ Some x
  get-insert_same m k x = get-insert nat_cmp_total m k x k ∙ ap (λ b. cond b (Some x) (get m k)) (unsigned_tied k k ∙ eq-eqb k k refl)

  pub get-insert_other : (m : FinMap nat_cmp X) (k : ℕ) (x : X) (q : ℕ) → (q ≡ k → ⊥) → get (insert m k x) q ≡ get m q
  get-insert_other m k x q apart = get-insert nat_cmp_total m k x q ∙ ap (λ b. cond b (Some x) (get m q)) (unsigned_tied q k ∙ ne_eqb q k apart)

  pub get-remove_same : (m : FinMap nat_cmp X) (k : ℕ) → get (remove m k) k ≡ None
  get-remove_same m k = get-remove nat_cmp_total m k k ∙ ap (λ b. cond b None (get m k)) (unsigned_tied k k ∙ eq-eqb k k refl)

  pub get-remove_other : (m : FinMap nat_cmp X) (k q : ℕ) → (q ≡ k → ⊥) → get (remove m k) q ≡ get m q
  get-remove_other m k q apart = get-remove nat_cmp_total m k q ∙ ap (λ b. cond b None (get m q)) (unsigned_tied q k ∙ ne_eqb q k apart)

  -- what is found after a removal was there, at another key
  pub get-remove_some : (m : FinMap nat_cmp X) (k q : ℕ) (x : X) → get (remove m k) q ≡ Some x → (get m q ≡ Some x) × (q ≡ k → ⊥)
  get-remove_some m k q x e =
      elim (cases_eq q k) [
        | inl same ↦ absurd (none-some x (sym (ap (get (remove m k)) same ∙ get-remove_same m k) ∙ e))
        | inr apart ↦ (sym (get-remove_other m k q apart) ∙ e, apart)
      ]

  -- what is found after an insert was inserted, or was there at another key
  pub get-insert_cases : (m : FinMap nat_cmp X) (k : ℕ) (x : X) (q : ℕ) (y : X) → get (insert m k x) q ≡ Some y
      → ((q ≡ k) × (x ≡ y)) ⊎ ((get m q ≡ Some y) × (q ≡ k → ⊥))
  get-insert_cases m k x q y e =
      elim (cases_eq q k) [
        | inl same ↦ inl (same, same_Some x y (sym (get-insert_same m k x) ∙ sym (ap (get (insert m k x)) same) ∙ e))
        | inr apart ↦ inr (sym (get-insert_other m k x q apart) ∙ e, apart)
      ]

  pub get-place_same : (m : FinMap place_cmp X) (d k : ℕ) (x : X) → get (insert m (d, k) x) (d, k) ≡ Some x
  get-place_same m d k x = get-insert place_cmp_total m (d, k) x (d, k) ∙ ap (λ b. cond b (Some x) (get m (d, k))) (ap is_eq (place_itself (d, k)))

  pub get-place_other : (m : FinMap place_cmp X) (d k : ℕ) (x : X) (d' k' : ℕ) → (d' ≡ d → k' ≡ k → ⊥)
      → get (insert m (d, k) x) (d', k') ≡ get m (d', k')
  get-place_other m d k x d' k' apart =
      get-insert place_cmp_total m (d, k) x (d', k')
      ∙ ap (λ b. cond b (Some x) (get m (d', k')))
      (false_from_ne_true _ (λ tied. let parts = and_parts (d' == d) (k' == k) (sym (place_tied (d', k') (d, k)) ∙ tied) in
      apart (eqb-true d' d parts.0) (eqb-true k' k parts.1)))
