-- The entries of a table by numbers, with their values as clauses see them, as a finite map.
use Rattle.fa_machine.proofs.Maps.{found_changed, nat_same}
use Rattle.std.proofs.Common.{List, None, Option, Some, [], ap, arith, cond, eq-eqb, inl, inr, length, map, refl, sym, ℕ}
use Rattle.std.proofs.Common.{◌∙◌, ◌∷◌, ◌≡◌}
use Rattle.std.proofs.lemmas.Bool.{cases_eq, false≢true, ne_eqb}
use Rattle.std.specs.Cmp.{nat_cmp_total, unsigned_tied}
use Rattle.std.specs.FinMap.{FinMap, contains_key, empty_of_len, find, from_entries, get, get-empty, get-from_entries, get-insert}
use Rattle.std.specs.FinMap.{get-remove}
use Rattle.std.specs.FinMap.{insert, len, len-empty, nat_cmp-IsAntisymmetric, remove, same_map}
use Rattle.std.specs.Map.{lookup}
use Rattle.std.specs.Ordering.{eq_by_cmp, nat_cmp}
use Rattle.std.specs.Prelude.{is_some, option_map, ◌==◌}

-- a table compares numbers by equality, and a finite map by their order
pub found_is : {X : Type 0} (q : ℕ) (es : List (ℕ × X)) → find nat_cmp q es ≡ lookup (λ k. q == k) es
found_is q [] = refl
found_is q (e ∷ es) = λ i. cond (unsigned_tied q e.0 i) (Some e.1) (found_is q es i)

module _ {X Y : Type 0} (f : ℕ → X → Y) where
  -- what a table has at a number
  abbrev pub at : List (ℕ × X) → ℕ → Option X
  at es q = lookup (λ k. q == k) es

  -- the finite map that a table is seen as
  abbrev pub map_of : List (ℕ × X) → FinMap nat_cmp Y
  map_of es = from_entries (map (λ e. (e.0, f e.0 e.1)) es)

  pub get_table : (es : List (ℕ × X)) (q : ℕ) → get (map_of es) q ≡ option_map (f q) (at es q)
  get_table es q =
      get-from_entries nat_cmp_total (map (λ e. (e.0, f e.0 e.1)) es) q
      ∙ found_changed nat_cmp_total nat_same f q es
      ∙ ap (option_map (f q)) (found_is q es)

  -- two maps that have the same at each number
  pub same_map_of : (m n : FinMap nat_cmp Y) → ((q : ℕ) → get m q ≡ get n q) → m ≡ n
  same_map_of = same_map nat_cmp_total nat_cmp-IsAntisymmetric

  -- two tables that differ at one number
  module _ (old new : List (ℕ × X)) (k : ℕ) (w : Option X) (updated : (q : ℕ) → at new q ≡ cond (k == q) w (at old q)) where
    get_updated : (q : ℕ) → get (map_of new) q ≡ cond (eq_by_cmp nat_cmp q k) (option_map (f k) w) (get (map_of old) q)
    get_updated q =
        get_table new q ∙ ap (option_map (f q)) (updated q)
        ∙ elim (cases_eq q k) [
          | inl same ↦
              ap (λ b. option_map (f q) (cond b w (at old q))) (eq-eqb k q (sym same))
              ∙ ap (λ n. option_map (f n) w) same
              ∙ sym (ap (λ b. cond b (option_map (f k) w) (get (map_of old) q)) (unsigned_tied q k ∙ eq-eqb q k same))
          | inr apart ↦
              ap (λ b. option_map (f q) (cond b w (at old q))) (ne_eqb k q (λ e. apart (sym e)))
              ∙ sym (get_table old q)
              ∙ sym (ap (λ b. cond b (option_map (f k) w) (get (map_of old) q)) (unsigned_tied q k ∙ ne_eqb q k apart))
        ]

    pub inserted : (x : X) → w ≡ Some x → map_of new ≡ insert (map_of old) k (f k x)
    inserted x is =
        same_map_of _ _ (λ q. get_updated q
        ∙ ap (λ o. cond (eq_by_cmp nat_cmp q k) (option_map (f k) o) (get (map_of old) q)) is
        ∙ sym (get-insert nat_cmp_total (map_of old) k (f k x) q))

    pub removed : w ≡ None → map_of new ≡ remove (map_of old) k
    removed is =
        same_map_of _ _ (λ q. get_updated q
        ∙ ap (λ o. cond (eq_by_cmp nat_cmp q k) (option_map (f k) o) (get (map_of old) q)) is
        ∙ sym (get-remove nat_cmp_total (map_of old) k q))

  some_mapped : (o : Option X) (q : ℕ) → is_some (option_map (f q) o) ≡ is_some o
  some_mapped None q = refl
  some_mapped (Some x) q = refl

  pub there : (es : List (ℕ × X)) (q : ℕ) → is_some (at es q) ≡ contains_key (map_of es) q
  there es q = sym (ap is_some (get_table es q) ∙ some_mapped (at es q) q)

  -- a table of nothing
  pub none_in : (es : List (ℕ × X)) → length es ≡ 0 → len (map_of es) ≡ 0
  none_in [] none = len-empty nat_cmp Y
  none_in (e ∷ es) none = absurd (omega (arith, none))

  pub no_entries : (es : List (ℕ × X)) → len (map_of es) ≡ 0 → length es ≡ 0
  no_entries [] none = refl
  no_entries (e ∷ es) none =
      let nothing = empty_of_len (map_of (e ∷ es)) none in
      absurd (false≢true (sym (ap (λ m. contains_key m e.0) nothing ∙ ap is_some (get-empty nat_cmp e.0)) ∙ sym (there (e ∷ es) e.0)
      ∙ ap (λ b. is_some (cond b (Some e.1) (at es e.0))) (eq-eqb e.0 e.0 refl)))
