-- What is found out of the dies one by one.
use Rattle.fa_machine.proofs.Maps.{get-insert_other, get-insert_same}
use Rattle.fa_machine.specs.Maps.{below, insert_all}
use Rattle.fa_machine.specs.State.{MapState, is_live}
use Rattle.fa_map_calls.specs.Slots.{IsPageMap}
use Rattle.std.proofs.Common.{◌≡◌, ℕ, ◌+◌, ◌<◌, ◌≤◌, Bool, true, false, List, [], ◌∷◌, Option, Some, ap, cond}
use Rattle.std.proofs.Common.{inl, inr, length, length-set, refl, sym, map, get_or, set, ◌∙◌, arith, below_more}
use Rattle.std.proofs.lemmas.Bool.{cases_Bool, cases_lt}
use Rattle.std.proofs.lemmas.List.{ext_get_or, get_or-set_other, get_or-set_same}
use Rattle.std.proofs.lemmas.List.FromFn.{get_or-map-range_with_len}
use Rattle.std.proofs.lemmas.List.FromFn.{length-map-range_with_len}
use Rattle.std.specs.Cmp.{nat_cmp_total}
use Rattle.std.specs.FinMap.{FinMap, contains_key-keys, get, get-insert, insert, keys, nat_cmp-IsAntisymmetric, same_map}
use Rattle.std.specs.List.{list_any}
use Rattle.std.specs.Ordering.{eq_by_cmp, nat_cmp}
use Rattle.std.specs.Prelude.{◌||◌}

either : {Y : Type 0} (a b : Bool) (y z : Y) → cond b y (cond a y z) ≡ cond (a || b) y z
either true true y z = refl
either true false y z = refl
either false true y z = refl
either false false y z = refl

-- the keys that were inserted at one value have it, and the others what they had
get_inserted : {X : Type 0} (ks : List ℕ) (x : X) (m : FinMap nat_cmp X) (q : ℕ)
    → get (insert_all ks x m) q ≡ cond (list_any (eq_by_cmp nat_cmp q) ks) (Some x) (get m q)
get_inserted [] x m q = refl
get_inserted (k ∷ ks) x m q =
    get_inserted ks x (insert m k x) q
    ∙ ap (λ y. cond (list_any (eq_by_cmp nat_cmp q) ks) (Some x) y) (get-insert nat_cmp_total m k x q)
    ∙ either (eq_by_cmp nat_cmp q k) (list_any (eq_by_cmp nat_cmp q) ks) (Some x) (get m q)

-- one die more has a value, or has none
module _ (live : ℕ → Bool) (before after : FinMap nat_cmp ℕ) (x n : ℕ) where
  abbrev value : ℕ → Option ℕ
  value die = cond (live die) (Some x) (get before die)

  abbrev Inserted : FinMap nat_cmp ℕ → ℕ → Type 0
  Inserted found end = (die : ℕ) → die < end → get found die ≡ value die

  abbrev Kept : FinMap nat_cmp ℕ → ℕ → Type 0
  Kept found end = (die : ℕ) → end ≤ die → get found die ≡ get before die

  inserted_more : live n ≡ true → Inserted after n → Kept after n → (found : FinMap nat_cmp ℕ) → found ≡ insert after n x
      → Inserted found (n + 1) × Kept found (n + 1)
  inserted_more live_now inserted kept found is =
      let at = λ (die : ℕ). ap (λ (m : FinMap nat_cmp ℕ). get m die) is in (
        below_more _ _ (λ die low. at die ∙ get-insert_other after n x die (λ same. omega (arith, low, same)) ∙ inserted die low)
            (at n ∙ get-insert_same after n x ∙ sym (ap (λ b. cond b (Some x) (get before n)) live_now)),
        λ die past. at die ∙ get-insert_other after n x die (λ same. omega (arith, past, same)) ∙ kept die (omega (arith, past)),
      )

  kept_more : live n ≡ false → Inserted after n → Kept after n → (found : FinMap nat_cmp ℕ) → found ≡ after
      → Inserted found (n + 1) × Kept found (n + 1)
  kept_more out inserted kept found is =
      let at = λ (die : ℕ). ap (λ (m : FinMap nat_cmp ℕ). get m die) is in (
        below_more _ _ (λ die low. at die ∙ inserted die low)
            (at n ∙ kept n (omega arith) ∙ sym (ap (λ b. cond b (Some x) (get before n)) out)),
        λ die past. at die ∙ kept die (omega (arith, past)),
      )

  pub asked_more : (asks : Bool) → asks ≡ live n → Inserted after n → Kept after n → (found : FinMap nat_cmp ℕ)
      → found ≡ cond asks (insert after n x) after → Inserted found (n + 1) × Kept found (n + 1)
  asked_more true is inserted kept found found_is = inserted_more (sym is) inserted kept found found_is
  asked_more false is inserted kept found found_is = kept_more (sym is) inserted kept found found_is

module _ (m : MapState) (whole : IsPageMap m) where
  not_live : (die : ℕ) → m.geometry.dies ≤ die → is_live m die ≡ false
  not_live die past =
      elim (cases_Bool (is_live m die)) [
        | inl live ↦ let low = whole.live die live in absurd (omega (arith, low, past))
        | inr out ↦ out
      ]

  -- a mark for each live die
  pub marked_all : (marks : List Bool) (n : ℕ) → length marks ≡ n
      → ((die : ℕ) → die < m.geometry.dies → get_or marks die false ≡ is_live m die)
      → ((die : ℕ) → m.geometry.dies ≤ die → get_or marks die false ≡ false) → marks ≡ map (is_live m) (below n)
  marked_all marks n long marked unmarked =
      ext_get_or false marks (map (is_live m) (below n)) (long ∙ sym (length-map-range_with_len (is_live m) 0 n))
      (λ die low.
      let there = sym (get_or-map-range_with_len (is_live m) 0 n die die false (omega (arith, low, long)) (omega arith)) in
      elim (cases_lt die m.geometry.dies) [
        | inl less ↦ marked die less ∙ there
        | inr past ↦ unmarked die past ∙ sym (not_live die past) ∙ there
      ])

  -- a value for each live die
  pub inserted_all : (before after : FinMap nat_cmp ℕ) (x : ℕ)
      → ((die : ℕ) → die < m.geometry.dies → get after die ≡ cond (is_live m die) (Some x) (get before die))
      → ((die : ℕ) → m.geometry.dies ≤ die → get after die ≡ get before die) → after ≡ insert_all (keys m.live) x before
  inserted_all before after x inserted kept =
      same_map nat_cmp_total nat_cmp-IsAntisymmetric after (insert_all (keys m.live) x before)
      (λ die.
      let value = λ (b : Bool). cond b (Some x) (get before die) in
      let there = sym (get_inserted (keys m.live) x before die ∙ ap value (sym (contains_key-keys m.live die))) in
      elim (cases_lt die m.geometry.dies) [
        | inl less ↦ inserted die less ∙ there
        | inr past ↦ kept die past ∙ sym (ap value (not_live die past)) ∙ there
      ])

-- one die more has its mark
pub marked_more : (live : ℕ → Bool) (marks : List Bool) (n : ℕ) (mark : Bool) → length marks ≡ 64 → n < 64 → mark ≡ live n
    → ((die : ℕ) → die < n → get_or marks die false ≡ live die) → ((die : ℕ) → n ≤ die → get_or marks die false ≡ false)
    → (length (set marks n mark) ≡ 64) × (((die : ℕ) → die < n + 1 → get_or (set marks n mark) die false ≡ live die)
    × ((die : ℕ) → n + 1 ≤ die → get_or (set marks n mark) die false ≡ false))
marked_more live marks n mark long low is marked unmarked = (
  length-set marks n mark ∙ long,
  (
    below_more _ _ (λ die less. get_or-set_other marks n die mark false (λ same. omega (arith, less, same)) ∙ marked die less)
        (get_or-set_same marks n mark false (omega (arith, low, long)) ∙ is),
    λ die past. get_or-set_other marks n die mark false (λ same. omega (arith, past, same)) ∙ unmarked die (omega (arith, past)),
  ),
)
