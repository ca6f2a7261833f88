-- A list with a place for each die, as a finite map: what is found in it, and how it grows and shrinks.
use Rattle.std.proofs.Common.{◌≡◌, ℕ, ◌+◌, ◌-◌, ◌<◌, ◌≤◌, zero, suc, Bool, true, false, List, [], ◌∷◌, Option, Some, None, ap, cond}
use Rattle.std.proofs.Common.{inl, inr, length, refl, set, sym, ◌∙◌, arith}
use Rattle.std.proofs.lemmas.Bool.{cases_eq, cases_lt, eq-eqb, ne_eqb}
use Rattle.std.proofs.lemmas.List.{get_or_past, get_or-replicate, get_or-set_other, get_or-set_same, length-replicate, length-set}
use Rattle.std.proofs.lemmas.List.FromFn.{length-range_with_len}
use Rattle.std.proofs.lemmas.Option.{none-some}
use Rattle.std.specs.Cmp.{nat_cmp_total, unsigned_tied}
use Rattle.std.specs.FinMap.{contains_key, empty, empty_of_len, from_entries, get, get-empty, get-from_entries, get-insert}
use Rattle.std.specs.FinMap.{get-remove, insert, len, len-empty, len-insert, len-remove, nat_cmp-IsAntisymmetric, remove, same_map}
use Rattle.std.specs.FinMap.{find as find_entry}
use Rattle.std.specs.List.{cons_option, range_with_len}
use Rattle.std.specs.Ordering.{eq_by_cmp, nat_cmp}
use Rattle.std.specs.Prelude.{filter_map, is_some, option_map, replicate}
use Rattle.fa_core_tables.specs.Tabled.{table_of, value_at}

-- what is no value is none
pub only_none : {X : Type 0} (R : Option X → Type 0) → ((x : X) → R (Some x) → ⊥) → (y : Option X) → R y → y ≡ None
only_none R off None h = refl
only_none R off (Some x) h = absurd (off x h)

tied : (q k : ℕ) → q ≡ k → eq_by_cmp nat_cmp q k ≡ true
tied q k same = unsigned_tied q k ∙ eq-eqb q k same

apart_cmp : (q k : ℕ) → (q ≡ k → ⊥) → eq_by_cmp nat_cmp q k ≡ false
apart_cmp q k off = unsigned_tied q k ∙ ne_eqb q k off

cond_le : (b : Bool) (m n : ℕ) → m ≤ n → cond b m (m + 1) ≤ n + 1
cond_le true m n h = omega arith
cond_le false m n h = omega arith

module _ {X : Type 0} where
  abbrev pub nothing : Option X
  nothing = None

  abbrev entry_of : ℕ → Option X → Option (ℕ × X)
  entry_of die value = option_map (λ x. (die, x)) value

  abbrev entries_of : (ℕ → Option X) → List ℕ → List (ℕ × X)
  entries_of value dies = filter_map (λ die. option_map (λ x. (die, x)) (value die)) dies

  skipped : (q k : ℕ) (o : Option X) (es : List (ℕ × X)) → (q ≡ k → ⊥)
      → find_entry nat_cmp q (cons_option (entry_of k o) es) ≡ find_entry nat_cmp q es
  skipped q k None es off = refl
  skipped q k (Some x) es off = ap (λ (b : Bool). cond b (Some x) (find_entry nat_cmp q es)) (apart_cmp q k off)

  met : (q k : ℕ) (o : Option X) (es : List (ℕ × X)) → q ≡ k → find_entry nat_cmp q es ≡ None
      → find_entry nat_cmp q (cons_option (entry_of k o) es) ≡ o
  met q k None es same none = none
  met q k (Some x) es same none = ap (λ (b : Bool). cond b (Some x) (find_entry nat_cmp q es)) (tied q k same)

  absent : (value : ℕ → Option X) (a n q : ℕ) → ((k : ℕ) → a ≤ k → k < a + n → q ≡ k → ⊥)
      → find_entry nat_cmp q (entries_of value (range_with_len a n)) ≡ None
  absent value a zero q off = refl
  absent value a (suc n) q off =
      skipped q a (value a) (entries_of value (range_with_len (a + 1) n)) (off a (omega arith) (omega arith))
      ∙ absent value (a + 1) n q (λ k low high. off k (omega arith) (omega arith))

  present : (value : ℕ → Option X) (a n q : ℕ) → a ≤ q → q < a + n
      → find_entry nat_cmp q (entries_of value (range_with_len a n)) ≡ value q
  present value a zero q low high = absurd (omega (arith, low, high))
  present value a (suc n) q low high =
      elim (cases_eq q a) [
        | inl same ↦
            met q a (value a) (entries_of value (range_with_len (a + 1) n)) same
            (absent value (a + 1) n q (λ k from below is. omega (arith, from, same, is)))
            ∙ ap value (sym same)
        | inr off ↦
            skipped q a (value a) (entries_of value (range_with_len (a + 1) n)) off
            ∙ present value (a + 1) n q (omega (arith, low, off)) (omega (arith, high))
      ]

  -- the value of each die
  pub get_table : (table : List (Option X)) (q : ℕ) → get (table_of table) q ≡ value_at table q
  get_table table q =
      get-from_entries nat_cmp_total (entries_of (value_at table) (range_with_len 0 (length table))) q
      ∙ elim (cases_lt q (length table)) [
        | inl less ↦ present (value_at table) 0 (length table) q (omega arith) (omega (arith, less))
        | inr past ↦
            absent (value_at table) 0 (length table) q (λ k from below is. omega (arith, past, below, is))
            ∙ sym (get_or_past table q None past)
      ]

  value_set : (table : List (Option X)) (die : ℕ) (o : Option X) (q : ℕ) → die < length table
      → value_at (set table die o) q ≡ cond (eq_by_cmp nat_cmp q die) o (value_at table q)
  value_set table die o q fits =
      elim (cases_eq q die) [
        | inl same ↦
            ap (value_at (set table die o)) same ∙ get_or-set_same table die o None fits
            ∙ sym (ap (λ (b : Bool). cond b o (value_at table q)) (tied q die same))
        | inr off ↦
            get_or-set_other table die q o None off
            ∙ sym (ap (λ (b : Bool). cond b o (value_at table q)) (apart_cmp q die off))
      ]

  -- one value written, and one taken away
  pub table_insert : (table : List (Option X)) (die : ℕ) (x : X) → die < length table
      → table_of (set table die (Some x)) ≡ insert (table_of table) die x
  table_insert table die x fits =
      same_map nat_cmp_total nat_cmp-IsAntisymmetric (table_of (set table die (Some x))) (insert (table_of table) die x)
      (λ q. get_table (set table die (Some x)) q ∙ value_set table die (Some x) q fits
      ∙ ap (λ (o : Option X). cond (eq_by_cmp nat_cmp q die) (Some x) o) (sym (get_table table q))
      ∙ sym (get-insert nat_cmp_total (table_of table) die x q))

  pub table_remove : (table : List (Option X)) (die : ℕ) → die < length table
      → table_of (set table die None) ≡ remove (table_of table) die
  table_remove table die fits =
      same_map nat_cmp_total nat_cmp-IsAntisymmetric (table_of (set table die None)) (remove (table_of table) die)
      (λ q. get_table (set table die None) q ∙ value_set table die None q fits
      ∙ ap (λ (o : Option X). cond (eq_by_cmp nat_cmp q die) None o) (sym (get_table table q))
      ∙ sym (get-remove nat_cmp_total (table_of table) die q))

  -- nothing to take away
  pub table_absent : (table : List (Option X)) (die : ℕ) → length table ≤ die → table_of table ≡ remove (table_of table) die
  table_absent table die past =
      same_map nat_cmp_total nat_cmp-IsAntisymmetric (table_of table) (remove (table_of table) die)
      (λ q. kept q ∙ sym (get-remove nat_cmp_total (table_of table) die q))
    where
      kept : (q : ℕ) → get (table_of table) q ≡ cond (eq_by_cmp nat_cmp q die) None (get (table_of table) q)
      kept q =
          elim (cases_eq q die) [
            | inl same ↦
                get_table table q ∙ get_or_past table q None (omega (arith, same, past))
                ∙ sym (ap (λ (b : Bool). cond b None (get (table_of table) q)) (tied q die same))
            | inr off ↦ sym (ap (λ (b : Bool). cond b None (get (table_of table) q)) (apart_cmp q die off))
          ]

  none_at : (n q : ℕ) → value_at (replicate n nothing) q ≡ None
  none_at n q =
      elim (cases_lt q n) [
        | inl less ↦ get_or-replicate n q nothing nothing less
        | inr past ↦
            get_or_past (replicate n nothing) q None
            (let long = length-replicate {A = Option X} n nothing in omega (arith, long, past))
      ]

  pub table_none : (n : ℕ) → table_of (replicate n nothing) ≡ empty
  table_none n =
      same_map nat_cmp_total nat_cmp-IsAntisymmetric (table_of (replicate n nothing)) empty
      (λ q. get_table (replicate n nothing) q ∙ none_at n q ∙ sym (get-empty nat_cmp q))

  -- ## How many values

  len_le : (es : List (ℕ × X)) → len (from_entries {R = nat_cmp} es) ≤ length es
  len_le [] = let none = len-empty nat_cmp X in omega (arith, none)
  len_le (e ∷ es) =
      let more = len-insert nat_cmp_total (from_entries es) e.0 e.1 in
      let most = cond_le (contains_key (from_entries {R = nat_cmp} es) e.0) (len (from_entries {R = nat_cmp} es)) (length es) (len_le es) in
      omega (arith, more, most)

  cons_le : (o : Option (ℕ × X)) (es : List (ℕ × X)) → length (cons_option o es) ≤ length es + 1
  cons_le None es = omega arith
  cons_le (Some e) es = omega arith

  entries_le : (value : ℕ → Option X) (dies : List ℕ) → length (entries_of value dies) ≤ length dies
  entries_le value [] = omega arith
  entries_le value (die ∷ dies) =
      let first = cons_le (entry_of die (value die)) (entries_of value dies) in
      let rest = entries_le value dies in
      omega (arith, first, rest)

  pub table_le : (table : List (Option X)) → len (table_of table) ≤ length table
  table_le table =
      let few = len_le (entries_of (value_at table) (range_with_len 0 (length table))) in
      let short = entries_le (value_at table) (range_with_len 0 (length table)) in
      let long = length-range_with_len 0 (length table) in
      omega (arith, few, short, long)

  pub table_len_insert : (table : List (Option X)) (die : ℕ) (x : X) (b : Bool) → die < length table → is_some (value_at table die) ≡ b
      → len (table_of (set table die (Some x))) ≡ cond b (len (table_of table)) (len (table_of table) + 1)
  table_len_insert table die x b fits is =
      ap len (table_insert table die x fits)
      ∙ len-insert nat_cmp_total (table_of table) die x
      ∙ ap (λ (b : Bool). cond b (len (table_of table)) (len (table_of table) + 1)) (ap is_some (get_table table die) ∙ is)

  pub table_len_remove : (table : List (Option X)) (die : ℕ) (b : Bool) → die < length table → is_some (value_at table die) ≡ b
      → len (table_of (set table die None)) ≡ cond b (len (table_of table) - 1) (len (table_of table))
  table_len_remove table die b fits is =
      ap len (table_remove table die fits)
      ∙ len-remove nat_cmp_total (table_of table) die
      ∙ ap (λ (b : Bool). cond b (len (table_of table) - 1) (len (table_of table))) (ap is_some (get_table table die) ∙ is)

  -- one more value, and one less, are within bounds
  pub table_room : (table : List (Option X)) (die : ℕ) → X → die < length table → is_some (value_at table die) ≡ false
      → len (table_of table) + 1 ≤ length table
  table_room table die x fits free =
      let most = table_le (set table die (Some x)) in
      let more = table_len_insert table die x false fits free in
      let long = length-set table die (Some x) in
      omega (arith, most, more, long)

  some_present : (o : Option X) → is_some o ≡ true → o ≡ None → ⊥
  some_present None is none = cc
  some_present (Some x) is none = none-some x (sym none)

  pub table_some : (table : List (Option X)) (die : ℕ) → is_some (value_at table die) ≡ true → 0 < len (table_of table)
  table_some table die is =
      elim (cases_eq (len (table_of table)) 0) [
        | inl none ↦
            absurd (some_present (value_at table die) is
            (sym (get_table table die) ∙ ap (λ m. get m die) (empty_of_len (table_of table) none) ∙ get-empty nat_cmp die))
        | inr some ↦ omega (arith, some)
      ]
