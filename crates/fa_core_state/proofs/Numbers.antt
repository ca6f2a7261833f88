-- Sets of numbers, and those that are looked at one after the other.
use Rattle.fa_set.proofs.Changed.{inserted_here, inserted_other, removed_here, removed_other}
use Rattle.fa_set.proofs.Membership.{in_below}
use Rattle.fa_set.specs.Members.{Numbers, numbers_below}
use Rattle.fa_set.specs.Words.{has}
use Rattle.std.proofs.Common.{Bool, List, None, Option, Some, ap, arith, eq-eqb, eqb-true, false, inl, inr, refl, sym, true, ℕ, ◌+◌, ◌<◌}
use Rattle.std.proofs.Common.{◌∙◌, ◌≡◌, ◌==◌}
use Rattle.std.proofs.lemmas.Bool.{cases_eq, cases_lt, false_from_ne_true, false≢true, le-ltb, ltb-true}
use Rattle.std.specs.Cmp.{nat_cmp_total}
use Rattle.std.specs.FinMap.{FinMap, contains_key, empty, empty_of_len, get, get-empty, insert, len, len-empty, len-insert}
use Rattle.std.specs.FinMap.{nat_cmp-IsAntisymmetric, remove, same_map}
use Rattle.std.specs.Ordering.{nat_cmp}
use Rattle.std.specs.Prelude.{if◌then◌else◌, is_some, nat_lt, ◌&&◌}

same_unit : (o p : Option (Unit {0})) → is_some o ≡ is_some p → o ≡ p
same_unit None None is = refl
same_unit None (Some u) is = absurd (false≢true is)
same_unit (Some u) None is = absurd (false≢true (sym is))
same_unit (Some u) (Some v) is = refl

-- sets with the same members are equal
pub same_numbers : (m n : Numbers) → ((k : ℕ) → contains_key m k ≡ contains_key n k) → m ≡ n
same_numbers m n same = same_map nat_cmp_total nat_cmp-IsAntisymmetric m n (λ k. same_unit (get m k) (get n k) (same k))

-- a set below a bound has the members of another one that it has below the bound, where there are none above
pub same_below : (bound : ℕ) (words : List ℕ) (n : Numbers) → ((k : ℕ) → k < bound → contains_key (numbers_below bound words) k
    ≡ contains_key n k)
    → ((k : ℕ) → contains_key n k ≡ true → k < bound) → numbers_below bound words ≡ n
same_below bound words n same inside = same_numbers (numbers_below bound words) n (λ k. elim (cases_lt k bound) [
  | inl low ↦ same k low
  | inr high ↦
      in_below bound words k ∙ ap (λ b. b && has words k) (le-ltb k bound high)
      ∙ sym (false_from_ne_true (contains_key n k) (λ is. let low = inside k is in omega (arith, high, low)))
])

-- one more number is as it is to be
pub one_more : (old new live : Numbers) (die : ℕ) → ((k : ℕ) → k < die → contains_key old k ≡ contains_key live k)
    → contains_key new die ≡ contains_key live die → ((k : ℕ) → (k ≡ die → ⊥) → contains_key new k ≡ contains_key old k)
    → (k : ℕ) → k < die + 1 → contains_key new k ≡ contains_key live k
one_more old new live die before here others k low =
    elim (cases_eq k die) [
      | inl same ↦ ap (contains_key new) same ∙ here ∙ sym (ap (contains_key live) same)
      | inr apart ↦ others k apart ∙ before k (omega (arith, low, apart))
    ]

pub len_more : (m : Numbers) (n : ℕ) → contains_key m n ≡ false → len (insert m n tt) ≡ len m + 1
len_more m n off = len-insert nat_cmp_total m n tt ∙ (λ i. if off i then len m else len m + 1)

-- a member that goes is one of them
pub len_less : (m : Numbers) (n : ℕ) → contains_key m n ≡ true → len m ≡ len (remove m n) + 1
len_less m n is =
    ap len (sym (same_numbers (insert (remove m n) n tt) m (λ k. elim (cases_eq k n) [
      | inl same ↦ ap (contains_key (insert (remove m n) n tt)) same ∙ inserted_here (remove m n) n ∙ sym (ap (contains_key m) same ∙ is)
      | inr apart ↦ inserted_other (remove m n) n k apart ∙ removed_other m n k apart
    ])))
    ∙ len_more (remove m n) n (removed_here m n)

-- a set below a bound that has no member below it is empty
pub empty_below : (bound : ℕ) (words : List ℕ) → ((k : ℕ) → k < bound → contains_key (numbers_below bound words) k ≡ false)
    → numbers_below bound words ≡ empty
empty_below bound words none =
    same_below bound words empty (λ k low. none k low ∙ sym (ap is_some (get-empty nat_cmp k)))
    (λ k is. absurd (false≢true (sym (ap is_some (get-empty nat_cmp k)) ∙ is)))

-- whether a map has an entry
pub some_entry : {X : Type 0} (m : FinMap nat_cmp X) (k : ℕ) → contains_key m k ≡ true → (len m == 0) ≡ false
some_entry m k is =
    false_from_ne_true (len m == 0) (λ none. false≢true (sym (ap (λ (n : FinMap nat_cmp _). contains_key n k)
    (empty_of_len m (eqb-true (len m) 0 none)) ∙ ap is_some (get-empty nat_cmp k)) ∙ is))

pub no_entry : {X : Type 0} (m : FinMap nat_cmp X) → ((k : ℕ) → get m k ≡ None) → (len m == 0) ≡ true
no_entry {X} m none =
    eq-eqb (len m) 0 (ap len (same_map nat_cmp_total nat_cmp-IsAntisymmetric m empty (λ k. none k ∙ sym (get-empty nat_cmp k)))
    ∙ len-empty nat_cmp X)

-- a member of a set below a bound is below it
pub below_bound : (bound : ℕ) (words : List ℕ) (k : ℕ) → contains_key (numbers_below bound words) k ≡ true → k < bound
below_bound bound words k is =
    ltb-true k bound (and_left_true (nat_lt k bound) (has words k) (sym (in_below bound words k) ∙ is))
  where
    and_left_true : (a b : Bool) → (a && b) ≡ true → a ≡ true
    and_left_true true b both = refl
    and_left_true false b both = absurd (false≢true both)
