-- How many members a set of numbers below a bound has.
use Rattle.fa_machine.specs.Maps.{Numbers}
use Rattle.fa_set.proofs.Changed.{removed_here, removed_other}
use Rattle.fa_core_state.proofs.Numbers.{len_less, no_entry}
use Rattle.std.proofs.Common.{◌≡◌, ℕ, zero, suc, ◌<◌, ◌≤◌, true, Option, Some, None, refl, sym, ap, ◌∙◌, inl, inr, arith, eqb-true}
use Rattle.std.proofs.lemmas.Bool.{cases_Bool, cases_eq, false≢true}
use Rattle.std.specs.FinMap.{contains_key, get, len, remove}
use Rattle.std.specs.Prelude.{is_some}

none_of : {X : Type 0} (o : Option X) → (is_some o ≡ true → ⊥) → o ≡ None
none_of None not = refl
none_of (Some x) not = absurd (not refl)

ap_key : (m : Numbers) (k n : ℕ) → k ≡ n → contains_key m k ≡ contains_key m n
ap_key m k n same = ap (contains_key m) same

pub few_below : (n : ℕ) (m : Numbers) → ((k : ℕ) → contains_key m k ≡ true → k < n) → len m ≤ n
few_below zero m inside =
    let none = eqb-true (len m) 0 (no_entry m (λ k. none_of (get m k) (λ is. let low = inside k is in absurd (omega (arith, low))))) in
    omega (arith, none)
few_below (suc n) m inside =
    elim (cases_Bool (contains_key m n)) [
      | inl has ↦
          let less = len_less m n has in
          let rest = few_below n (remove m n) (λ k is. elim (cases_eq k n) [
            | inl same ↦ absurd (false≢true (sym (removed_here m n) ∙ sym (ap_key (remove m n) k n same) ∙ is))
            | inr apart ↦ let low = inside k (sym (removed_other m n k apart) ∙ is) in omega (arith, low, apart)
          ]) in
          omega (arith, less, rest)
      | inr not ↦
          let rest = few_below n m (λ k is. elim (cases_eq k n) [
            | inl same ↦ absurd (false≢true (sym not ∙ sym (ap_key m k n same) ∙ is))
            | inr apart ↦ let low = inside k is in omega (arith, low, apart)
          ]) in
          omega (arith, rest)
    ]
