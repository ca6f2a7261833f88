-- What is found in maps that were changed many times, and among the values of a map.
use Rattle.fa_machine.specs.Among.{Among}
use Rattle.fa_machine.proofs.Maps.{both_of, found_below, if_equal}
use Rattle.fa_machine.specs.Maps.{insert_all}
use Rattle.std.proofs.Common.{Bool, List, Some, [], ap, cond, inl, inr, map, refl, sym, true}
use Rattle.std.proofs.Common.{◌∙◌, ◌∷◌, ◌≡◌, ◌⊎◌}
use Rattle.std.proofs.lemmas.Bool.{cases_Bool, false≢true, or_cases, or_left, or_right}
use Rattle.std.proofs.lemmas.Option.{none-some, same_Some}
use Rattle.std.specs.Cmp.{IsTotalOrder}
use Rattle.std.specs.FinMap.{FinMap, entries, entries_sorted, find as find_entry, get, get-entries, get-insert, insert, is_sorted, values}
use Rattle.std.specs.List.{list_any}
use Rattle.std.specs.Ordering.{eq_by_cmp, is_eq}
use Rattle.std.specs.Prelude.{T}
use Rattle.std.specs.declared.cmp.Ordering.{Ordering}
use Rattle.std.specs.declared.cmp.Ordering.TheVariants.{Equal}

module _ {K X : Type 0} {R : K → K → Ordering} (o : IsTotalOrder R) (same : (x y : K) → R x y ≡ Equal → x ≡ y) where
  -- after many inserts at one value a key has it where it is one of them, and else what it had
  pub get-insert_all : (ks : List K) (x : X) (m : FinMap R X) (q : K)
      → (get (insert_all ks x m) q ≡ get m q) ⊎ (Among q ks × (get (insert_all ks x m) q ≡ Some x))
  get-insert_all [] x m q = inl refl
  get-insert_all (k ∷ ks) x m q =
      elim (get-insert_all ks x (insert m k x) q) [
        | inr found ↦ inr (inr found.0, found.1)
        | inl later ↦ elim (cases_Bool (eq_by_cmp R q k)) [
          | inl tied ↦ inr (inl (sym (same q k (if_equal (R q k) tied))), later ∙ get-insert o m k x q ∙ ap (λ b. cond b (Some x) (get m q)) tied)
          | inr apart ↦ inl (later ∙ get-insert o m k x q ∙ ap (λ b. cond b (Some x) (get m q)) apart)
        ]
      ]

  pub get-insert_all_among : (ks : List K) (x : X) (m : FinMap R X) (q : K) → R q q ≡ Equal → Among q ks → get (insert_all ks x m) q ≡ Some x
  get-insert_all_among [] x m q tied i = absurd i
  get-insert_all_among (k ∷ ks) x m q tied (inr rest) = get-insert_all_among ks x (insert m k x) q tied rest
  get-insert_all_among (k ∷ ks) x m q tied (inl is) =
      elim (get-insert_all ks x (insert m k x) q) [
        | inr found ↦ found.1
        | inl later ↦ later ∙ get-insert o m k x q ∙ ap (λ b. cond b (Some x) (get m q)) (ap is_eq (ap (R q) is ∙ tied))
      ]

-- what is found is among the values
pub any_value : {K X : Type 0} {R : K → K → Ordering} (passes : X → Bool) (m : FinMap R X) (q : K) (x : X) → get m q ≡ Some x → passes x ≡ true
    → list_any passes (values m) ≡ true
any_value {K} {X} {R} passes m q x e p = go (entries m) (sym (get-entries m q) ∙ e)
  where
    go : (es : List (K × X)) → find_entry R q es ≡ Some x → list_any passes (map (λ e. e.1) es) ≡ true
    go [] h = absurd (none-some x h)
    go (e ∷ es) h =
        elim (cases_Bool (eq_by_cmp R q e.0)) [
          | inl tied ↦ or_left (passes e.1) _ (ap passes (same_Some e.1 x (sym (ap (λ b. cond b (Some e.1) (find_entry R q es)) tied) ∙ h)) ∙ p)
          | inr apart ↦ or_right (passes e.1) _ (go es (sym (ap (λ b. cond b (Some e.1) (find_entry R q es)) apart) ∙ h))
        ]

-- what is among the values is found at some key
module _ {K X : Type 0} {R : K → K → Ordering} (o : IsTotalOrder R) (same : (x y : K) → R x y ≡ Equal → x ≡ y) (itself : (k : K) → R k k ≡ Equal) where
  value_in : (passes : X → Bool) (es : List (K × X)) → T (is_sorted R es) → list_any passes (map (λ e. e.1) es) ≡ true
      → (q : K) × (x : X) × (find_entry R q es ≡ Some x) × (passes x ≡ true)
  value_in passes [] h e = absurd (false≢true e)
  value_in passes (f ∷ fs) h e =
      let parts = both_of _ _ h in
      elim (or_cases (passes f.1) (list_any passes (map (λ e. e.1) fs)) e) [
        | inl here ↦ (f.0, f.1, ap (λ r. cond (is_eq r) (Some f.1) (find_entry R f.0 fs)) (itself f.0), here)
        | inr later ↦
            let rest = value_in passes fs parts.1 later in
            elim (cases_Bool (eq_by_cmp R rest.0 f.0)) [
              | inr apart ↦ (rest.0, rest.1, ap (λ b. cond b (Some f.1) (find_entry R rest.0 fs)) apart ∙ rest.2, rest.3)
              | inl tied ↦
                  let is = same rest.0 f.0 (if_equal (R rest.0 f.0) tied) in
                  absurd (none-some rest.1 (sym (ap (λ k. find_entry R k fs) is ∙ found_below o same f.0 fs parts.0) ∙ rest.2))
            ]
      ]

  pub some_value : (passes : X → Bool) (m : FinMap R X) → list_any passes (values m) ≡ true
      → (q : K) × (x : X) × (get m q ≡ Some x) × (passes x ≡ true)
  some_value passes m e =
      let found = value_in passes (entries m) (entries_sorted m) e in
      (found.0, found.1, get-entries m found.0 ∙ found.2, found.3)
