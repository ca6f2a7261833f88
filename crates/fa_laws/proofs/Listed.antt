-- Maps that are given by the list of their entries, in order: what is found in them, and what the changes make of them.
use Rattle.fa_machine.specs.Maps.{change, keep}
use Rattle.std.proofs.Common.{Bool, List, None, Some, [], ap, cond, false, map, not, refl, sym, true, ◌∙◌, ◌∷◌, ◌≡◌}
use Rattle.std.specs.Cmp.{IsTotalOrder, eq_by_cmp_equiv}
use Rattle.std.specs.FinMap.{FinMap, empty, entries-from_sorted, find as find_entry, from_entries, from_sorted}
use Rattle.std.specs.FinMap.{get-empty, get-from_entries, get-from_sorted, get-insert, get-remove, insert, is_sorted, len, len-entries, put, remove, same_map}
use Rattle.std.specs.FinMap.Entries.{find-put, find-where_key, is_sorted-put, is_sorted-where_key, where_key}
use Rattle.std.specs.Ordering.{eq_by_cmp}
use Rattle.std.specs.Prelude.{T, filter, fold, length}
use Rattle.std.specs.declared.cmp.Ordering.{Ordering}
use Rattle.std.specs.declared.cmp.Ordering.TheVariants.{Equal}

turned : {A : Type 0} (b : Bool) (x y : A) → cond (not b) x y ≡ cond b y x
turned true x y = refl
turned false x y = refl

module _ {K X : Type 0} {R : K → K → Ordering} (o : IsTotalOrder R) (same : (x y : K) → R x y ≡ Equal → x ≡ y) where
  from_entries_listed : (es : List (K × X)) → T (is_sorted R es) → from_entries {R = R} es ≡ from_sorted es
  from_entries_listed es h = same_map o same _ _ (λ q. get-from_entries o es q ∙ sym (get-from_sorted R es q h))

  pub insert_listed : (es : List (K × X)) (k : K) (x : X) → T (is_sorted R es) → insert (from_sorted {R = R} es) k x ≡ from_sorted (put R k x es)
  insert_listed es k x h = same_map o same _ _ (λ q.
      get-insert o (from_sorted es) k x q ∙ ap (cond (eq_by_cmp R q k) (Some x)) (get-from_sorted R es q h)
      ∙ sym (find-put R o q k x es) ∙ sym (get-from_sorted R (put R k x es) q (is_sorted-put R o k x es h)))

  abbrev pub without_key : K → List (K × X) → List (K × X)
  without_key k es = where_key R (λ x. not (eq_by_cmp R k x)) es

  pub remove_listed : (es : List (K × X)) (k : K) → T (is_sorted R es) → remove (from_sorted {R = R} es) k ≡ from_sorted (without_key k es)
  remove_listed es k h = same_map o same _ _ (λ q.
      get-remove o (from_sorted es) k q ∙ ap (cond (eq_by_cmp R q k) None) (get-from_sorted R es q h)
      ∙ ap (λ b. cond b None (find_entry R q es)) ((eq_by_cmp_equiv o).symm q k)
      ∙ sym (turned (eq_by_cmp R k q) (find_entry R q es) None)
      ∙ sym (find-where_key R (λ x. not (eq_by_cmp R k x)) q (λ x e. ap (λ y. not (eq_by_cmp R k y)) (sym (same q x e))) es)
      ∙ sym (get-from_sorted R (without_key k es) q (is_sorted-where_key R (λ x. not (eq_by_cmp R k x)) es h)))

  pub keep_listed : (test : K → X → Bool) (es : List (K × X)) → T (is_sorted R es) → T (is_sorted R (filter (λ e. test e.0 e.1) es))
      → keep test (from_sorted {R = R} es) ≡ from_sorted (filter (λ e. test e.0 e.1) es)
  keep_listed test es h left =
      ap (λ fs. from_entries {R = R} (filter (λ e. test e.0 e.1) fs)) (entries-from_sorted R es h)
      ∙ from_entries_listed (filter (λ e. test e.0 e.1) es) left

  pub change_listed : (f : K → X → X) (es : List (K × X)) → T (is_sorted R es) → T (is_sorted R (map (λ e. (e.0, f e.0 e.1)) es))
      → change f (from_sorted {R = R} es) ≡ from_sorted (map (λ e. (e.0, f e.0 e.1)) es)
  change_listed f es h left =
      ap (λ fs. from_entries {R = R} (map (λ e. (e.0, f e.0 e.1)) fs)) (entries-from_sorted R es h)
      ∙ from_entries_listed (map (λ e. (e.0, f e.0 e.1)) es) left

  pub len_listed : (es : List (K × X)) → T (is_sorted R es) → len (from_sorted {R = R} es) ≡ length es
  len_listed es h = len-entries (from_sorted es) ∙ ap length (entries-from_sorted R es h)

  -- many inserts, one after the other
  pub inserts_listed : {Y : Type 0} (key : Y → K) (value : Y → X) (ys : List Y) (es : List (K × X)) → T (is_sorted R es)
      → fold (λ (m : FinMap R X) y. insert m (key y) (value y)) (from_sorted es) ys
      ≡ from_sorted (fold (λ fs y. put R (key y) (value y) fs) es ys)
  inserts_listed key value [] es h = refl
  inserts_listed key value (y ∷ ys) es h =
      ap (λ m. fold (λ (m : FinMap R X) y. insert m (key y) (value y)) m ys) (insert_listed es (key y) (value y) h)
      ∙ inserts_listed key value ys (put R (key y) (value y) es) (is_sorted-put R o (key y) (value y) es h)

pub empty_listed : {K X : Type 0} {R : K → K → Ordering} (o : IsTotalOrder R) (same : (x y : K) → R x y ≡ Equal → x ≡ y) → from_sorted {X = X} {R = R} [] ≡ empty
empty_listed {R = R} o same = same_map o same _ _ (λ q. get-from_sorted R [] q tt ∙ sym (get-empty R q))
