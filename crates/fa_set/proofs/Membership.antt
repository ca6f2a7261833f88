-- The members of a set are the numbers of its lowest level.
use Rattle.std.proofs.Common.{◌≡◌, ℕ, ◌+◌, ◌-◌, ◌<◌, ◌≤◌, ◌==◌, ◌&&◌, ◌||◌, not, zero, suc, Bool, true, false, List, ◌∷◌, Option, Some, None, ap, cond, inl, inr, refl, sym, ◌∙◌, arith}
use Rattle.std.proofs.lemmas.Bool.{and_from, and_right, cases_Bool, cases_eq, cases_lt, eq-eqb, ne_eqb, lt-ltb, le-ltb, false≢true}
use Rattle.std.specs.Cmp.{nat_cmp_total, unsigned_tied}
use Rattle.std.specs.FinMap.{contains_key, empty, get, insert, remove, get-empty, get-insert, get-remove, get-from_entries, same_map, nat_cmp-IsAntisymmetric, find as find_entry}
use Rattle.std.specs.Ordering.{eq_by_cmp, nat_cmp}
use Rattle.std.specs.List.{find, range_with_len}
use Rattle.std.specs.Prelude.{filter, is_some, map, nat_lt}
use Rattle.fa_set.specs.Members.{numbers_below}
use Rattle.fa_set.specs.Words.{IsLowest, has}

abbrev unit : Bool → Option (Unit {0})
unit b = cond b (Some tt) None

abbrev pair : ℕ → ℕ × Unit {0}
pair k = (k, tt)

tied : (q k : ℕ) → q ≡ k → eq_by_cmp nat_cmp q k ≡ true
tied q k same = unsigned_tied q k ∙ eq-eqb q k same

apart_cmp : (q k : ℕ) → (q ≡ k → ⊥) → eq_by_cmp nat_cmp q k ≡ false
apart_cmp q k off = unsigned_tied q k ∙ ne_eqb q k off

absent : (p : ℕ → Bool) (a n q : ℕ) → ((k : ℕ) → a ≤ k → k < a + n → k ≡ q → p k ≡ false)
    → find_entry nat_cmp q (map pair (filter p (range_with_len a n))) ≡ None
absent p a zero q off = refl
absent p a (suc n) q off = go (absent p (a + 1) n q (λ k low high. off k (omega arith) (omega arith))) (p a) refl
  where
    go : find_entry nat_cmp q (map pair (filter p (range_with_len (a + 1) n))) ≡ None → (b : Bool) → p a ≡ b
        → find_entry nat_cmp q (map pair (filter p (range_with_len a (suc n)))) ≡ None
    go rest false is = ap (λ (b : Bool). find_entry nat_cmp q (map pair (cond b (a ∷ filter p (range_with_len (a + 1) n)) (filter p (range_with_len (a + 1) n))))) is ∙ rest
    go rest true is =
        ap (λ (b : Bool). find_entry nat_cmp q (map pair (cond b (a ∷ filter p (range_with_len (a + 1) n)) (filter p (range_with_len (a + 1) n))))) is
        ∙ ap (λ (b : Bool). cond b (Some tt) (find_entry nat_cmp q (map pair (filter p (range_with_len (a + 1) n)))))
        (apart_cmp q a (λ same. false≢true (sym (off a (omega arith) (omega arith) (sym same)) ∙ is)))
        ∙ rest

present : (p : ℕ → Bool) (a n q : ℕ) → a ≤ q → q < a + n → p q ≡ true
    → find_entry nat_cmp q (map pair (filter p (range_with_len a n))) ≡ Some tt
present p a zero q low high is = absurd (omega (arith, low, high))
present p a (suc n) q low high is =
    elim (cases_eq q a) [
      | inl same ↦
          ap (λ (b : Bool). find_entry nat_cmp q (map pair (cond b (a ∷ filter p (range_with_len (a + 1) n)) (filter p (range_with_len (a + 1) n))))) (ap p (sym same) ∙ is)
          ∙ ap (λ (b : Bool). cond b (Some tt) (find_entry nat_cmp q (map pair (filter p (range_with_len (a + 1) n))))) (tied q a same)
      | inr off ↦ go (present p (a + 1) n q (omega (arith, low, off)) (omega (arith, high)) is) (p a) refl off
    ]
  where
    go : find_entry nat_cmp q (map pair (filter p (range_with_len (a + 1) n))) ≡ Some tt → (b : Bool) → p a ≡ b → (q ≡ a → ⊥)
        → find_entry nat_cmp q (map pair (filter p (range_with_len a (suc n)))) ≡ Some tt
    go rest false at off =
        ap (λ (b : Bool). find_entry nat_cmp q (map pair (cond b (a ∷ filter p (range_with_len (a + 1) n)) (filter p (range_with_len (a + 1) n))))) at
        ∙ rest
    go rest true at off =
        ap (λ (b : Bool). find_entry nat_cmp q (map pair (cond b (a ∷ filter p (range_with_len (a + 1) n)) (filter p (range_with_len (a + 1) n))))) at
        ∙ ap (λ (b : Bool). cond b (Some tt) (find_entry nat_cmp q (map pair (filter p (range_with_len (a + 1) n))))) (apart_cmp q a off)
        ∙ rest

module _ (bound : ℕ) (words : List ℕ) where
  pub get_below : (q : ℕ) → get (numbers_below bound words) q ≡ unit (nat_lt q bound && has words q)
  get_below q =
      get-from_entries nat_cmp_total (map pair (filter (has words) (range_with_len 0 bound))) q
      ∙ elim (cases_lt q bound) [
        | inr past ↦
            absent (has words) 0 bound q (λ k low high same. absurd (omega (arith, past, high, same)))
            ∙ sym (ap (λ (b : Bool). unit (b && has words q)) (le-ltb q bound past))
        | inl less ↦ elim (cases_Bool (has words q)) [
          | inl is ↦
              present (has words) 0 bound q (omega arith) (omega (arith, less)) is
              ∙ sym (ap unit (and_from (nat_lt q bound) (has words q) (lt-ltb q bound less) is))
          | inr off ↦
              absent (has words) 0 bound q (λ k low high same. ap (has words) same ∙ off)
              ∙ sym (ap unit (and_right (nat_lt q bound) (has words q) off))
        ]
      ]

  pub in_below : (q : ℕ) → contains_key (numbers_below bound words) q ≡ (nat_lt q bound && has words q)
  in_below q = ap is_some (get_below q) ∙ of_unit (nat_lt q bound && has words q)
    where
      of_unit : (b : Bool) → is_some (unit b) ≡ b
      of_unit true = refl
      of_unit false = refl

  pub none_below : ((k : ℕ) → has words k ≡ false) → numbers_below bound words ≡ empty
  none_below none =
      same_map nat_cmp_total nat_cmp-IsAntisymmetric (numbers_below bound words) empty
      (λ q. get_below q ∙ ap unit (and_right (nat_lt q bound) (has words q) (none q)) ∙ sym (get-empty nat_cmp q))

module _ (bound : ℕ) (words : List ℕ) where
  pub put_below : (new : List ℕ) (n : ℕ) → n < bound → ((k : ℕ) → has new k ≡ (k == n || has words k))
      → numbers_below bound new ≡ insert (numbers_below bound words) n tt
  put_below new n fits put =
      same_map nat_cmp_total nat_cmp-IsAntisymmetric (numbers_below bound new) (insert (numbers_below bound words) n tt)
      (λ q. got q ∙ sym (get-insert nat_cmp_total (numbers_below bound words) n tt q))
    where
      got : (q : ℕ) → get (numbers_below bound new) q ≡ cond (eq_by_cmp nat_cmp q n) (Some tt) (get (numbers_below bound words) q)
      got q =
          elim (cases_eq q n) [
            | inl same ↦
                new_get q ∙ ap unit (and_from (nat_lt q bound) (q == n || has words q) (lt-ltb q bound (omega (arith, same, fits)))
                (ap (λ (b : Bool). b || has words q) (eq-eqb q n same)))
                ∙ sym (ap (λ (b : Bool). cond b (Some tt) (get (numbers_below bound words) q)) (tied q n same))
            | inr off ↦
                new_get q ∙ ap (λ (b : Bool). unit (nat_lt q bound && (b || has words q))) (ne_eqb q n off)
                ∙ sym (get_below bound words q)
                ∙ sym (ap (λ (b : Bool). cond b (Some tt) (get (numbers_below bound words) q)) (apart_cmp q n off))
          ]
        where
          new_get : (q : ℕ) → get (numbers_below bound new) q ≡ unit (nat_lt q bound && (q == n || has words q))
          new_get q = get_below bound new q ∙ ap (λ (b : Bool). unit (nat_lt q bound && b)) (put q)

  pub out_below : (new : List ℕ) (n : ℕ) → ((k : ℕ) → has new k ≡ (has words k && not (true && k == n)))
      → numbers_below bound new ≡ remove (numbers_below bound words) n
  out_below new n out =
      same_map nat_cmp_total nat_cmp-IsAntisymmetric (numbers_below bound new) (remove (numbers_below bound words) n)
      (λ q. got q ∙ sym (get-remove nat_cmp_total (numbers_below bound words) n q))
    where
      kept : (a b : Bool) → unit (a && (b && not (true && false))) ≡ unit (a && b)
      kept true true = refl
      kept true false = refl
      kept false b = refl

      gone : (a b : Bool) → unit (a && (b && not (true && true))) ≡ None
      gone true true = refl
      gone true false = refl
      gone false b = refl

      got : (q : ℕ) → get (numbers_below bound new) q ≡ cond (eq_by_cmp nat_cmp q n) None (get (numbers_below bound words) q)
      got q =
          elim (cases_eq q n) [
            | inl same ↦
                new_get q ∙ ap (λ (b : Bool). unit (nat_lt q bound && (has words q && not (true && b)))) (eq-eqb q n same)
                ∙ gone (nat_lt q bound) (has words q)
                ∙ sym (ap (λ (b : Bool). cond b None (get (numbers_below bound words) q)) (tied q n same))
            | inr off ↦
                new_get q ∙ ap (λ (b : Bool). unit (nat_lt q bound && (has words q && not (true && b)))) (ne_eqb q n off)
                ∙ kept (nat_lt q bound) (has words q) ∙ sym (get_below bound words q)
                ∙ sym (ap (λ (b : Bool). cond b None (get (numbers_below bound words) q)) (apart_cmp q n off))
          ]
        where
          new_get : (q : ℕ) → get (numbers_below bound new) q ≡ unit (nat_lt q bound && (has words q && not (true && q == n)))
          new_get q = get_below bound new q ∙ ap (λ (b : Bool). unit (nat_lt q bound && b)) (out q)

module _ (bound : ℕ) (words : List ℕ) where
  -- ## The least member

  find_fails : (test : ℕ → Bool) (a n : ℕ) → ((k : ℕ) → a ≤ k → k < a + n → test k ≡ false) → find test (range_with_len a n) ≡ None
  find_fails test a zero fails = refl
  find_fails test a (suc n) fails =
      ap (λ (b : Bool). cond b (Some a) (find test (range_with_len (a + 1) n))) (fails a (omega arith) (omega arith))
      ∙ find_fails test (a + 1) n (λ k low high. fails k (omega arith) (omega arith))

  find_passes : (test : ℕ → Bool) (a n i : ℕ) → a ≤ i → i < a + n → test i ≡ true → ((k : ℕ) → a ≤ k → k < i → test k ≡ false)
      → find test (range_with_len a n) ≡ Some i
  find_passes test a zero i low high passes fails = absurd (omega arith)
  find_passes test a (suc n) i low high passes fails =
      elim (cases_eq a i) [
        | inl same ↦ ap (λ (b : Bool). cond b (Some a) (find test (range_with_len (a + 1) n))) (ap test same ∙ passes) ∙ ap Some same
        | inr off ↦
            ap (λ (b : Bool). cond b (Some a) (find test (range_with_len (a + 1) n))) (fails a (omega arith) (omega (arith, low, off)))
            ∙ find_passes test (a + 1) n i (omega (arith, low, off)) (omega arith) passes (λ k from below. fails k (omega arith) below)
      ]

  pub lowest_member : ((k : ℕ) → has words k ≡ true → k < bound) → (from : ℕ) (found : Option ℕ) → IsLowest words from found
      → found ≡ find (contains_key (numbers_below bound words)) (range_with_len from (bound - from))
  lowest_member inside from None lowest =
      sym (find_fails (contains_key (numbers_below bound words)) from (bound - from)
      (λ k low high. in_below bound words k ∙ and_right (nat_lt k bound) (has words k) (lowest.before k low refl)))
  lowest_member inside from (Some k) lowest =
      let is = lowest.some k refl in
      let less = inside k is.1 in
      sym (find_passes (contains_key (numbers_below bound words)) from (bound - from) k is.0 (omega (arith, less, is.0))
      (in_below bound words k ∙ and_from (nat_lt k bound) (has words k) (lt-ltb k bound less) is.1)
      (λ j low early. in_below bound words j ∙ and_right (nat_lt j bound) (has words j) (lowest.before j low (lt-ltb j k early))))
