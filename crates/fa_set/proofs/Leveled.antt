-- Levels in which numbers come in and go.
use Rattle.std.proofs.Common.{◌≡◌, ℕ, ◌/◌, ◌<◌, ◌==◌, ◌&&◌, ◌||◌, not, Bool, true, false, List, ap, inl, inr, refl, sym, ◌∙◌, arith}
use Rattle.std.proofs.lemmas.Bool.{and_from, and_parts, cases_Bool, cases_eq, eq-eqb, eqb-true, ne_eqb, false≢true}
use Rattle.fa_set.specs.Levels.{IsAbove}
use Rattle.fa_set.specs.Words.{IsEmptied, IsLeft, has}

or_cases : (a b : Bool) → (a || b) ≡ true → a ≡ false → b ≡ true
or_cases true b is fails = absurd (false≢true (sym fails))
or_cases false b is fails = is

or_right : (a b : Bool) → b ≡ true → (a || b) ≡ true
or_right true b is = refl
or_right false b is = is

or_left : (a b : Bool) → a ≡ true → (a || b) ≡ true
or_left true b is = refl
or_left false b is = absurd (false≢true is)

-- a number came in on both levels
pub above_put : (low mid low' mid' : List ℕ) (n : ℕ) → IsAbove low mid → ((k : ℕ) → has low' k ≡ (k == n || has low k))
    → ((k : ℕ) → has mid' k ≡ (k == n / 64 || has mid k)) → IsAbove low' mid'
above_put low mid low' mid' n above put_low put_mid = record {
  up = λ k is. elim (cases_eq k n) [
    | inl same ↦ put_mid (k / 64) ∙ or_left (k / 64 == n / 64) (has mid (k / 64)) (eq-eqb (k / 64) (n / 64) (ap (λ j. j / 64) same))
    | inr apart ↦ put_mid (k / 64) ∙ or_right (k / 64 == n / 64) (has mid (k / 64))
        (above.up k (or_cases (k == n) (has low k) (sym (put_low k) ∙ is) (ne_eqb k n apart)))
  ];
  down = λ word is emptied. elim (cases_eq word (n / 64)) [
    | inl same ↦
        false≢true (sym (emptied n (sym same)) ∙ put_low n ∙ or_left (n == n) (has low n) (eq-eqb n n refl))
    | inr apart ↦
        above.down word (or_cases (word == n / 64) (has mid word) (sym (put_mid word) ∙ is) (ne_eqb word (n / 64) apart))
        (λ k in_word. elim (cases_Bool (has low k)) [
          | inr fails ↦ fails
          | inl passes ↦ absurd (false≢true (sym (emptied k in_word) ∙ put_low k ∙ or_right (k == n) (has low k) passes))
        ])
  ];
}

-- a number went, where that was wanted, and its word with it, where that was empty
pub above_out : (low mid low' mid' : List ℕ) (n : ℕ) (wanted empty : Bool) → IsAbove low mid
    → ((k : ℕ) → has low' k ≡ (has low k && not (wanted && k == n)))
    → (empty ≡ true → IsEmptied low' (n / 64)) → (empty ≡ false → wanted ≡ true → IsLeft low' (n / 64))
    → ((k : ℕ) → has mid' k ≡ (has mid k && not (empty && k == n / 64))) → IsAbove low' mid'
above_out low mid low' mid' n wanted empty above out_low emptied left out_mid = record {
  up = λ k is.
      let was = and_parts (has low k) (not (wanted && k == n)) (sym (out_low k) ∙ is) in
      out_mid (k / 64) ∙ and_from (has mid (k / 64)) (not (empty && k / 64 == n / 64)) (above.up k was.0)
      (elim (cases_Bool (empty && k / 64 == n / 64)) [
        | inr fails ↦ ap not fails
        | inl passes ↦
            let both = and_parts empty (k / 64 == n / 64) passes in
            absurd (false≢true (sym (emptied both.0 k (eqb-true (k / 64) (n / 64) both.1)) ∙ is))
      ]);
  down = λ word is gone.
      let was = and_parts (has mid word) (not (empty && word == n / 64)) (sym (out_mid word) ∙ is) in
      above.down word was.0 (λ k in_word. elim (cases_Bool (has low k)) [
        | inr fails ↦ fails
        | inl passes ↦ elim (cases_Bool (wanted && k == n)) [
          | inr keeps ↦ absurd (false≢true (sym (gone k in_word) ∙ out_low k ∙ and_from (has low k) (not (wanted && k == n)) passes (ap not keeps)))
          | inl goes ↦
              let both = and_parts wanted (k == n) goes in
              let here : word ≡ n / 64 = sym in_word ∙ ap (λ j. j / 64) (eqb-true k n both.1) in
              elim (cases_Bool empty) [
                | inl all ↦ absurd (false≢true (sym (ap not (and_from empty (word == n / 64) all (eq-eqb word (n / 64) here))) ∙ was.1))
                | inr some ↦ absurd (left some both.0 (λ j at. gone j (at ∙ sym here)))
              ]
        ]
      ]);
}

-- numbers below a bound, where one below it comes in or one goes
pub inside_put : (words new : List ℕ) (n bound : ℕ) → n < bound → ((k : ℕ) → has words k ≡ true → k < bound)
    → ((k : ℕ) → has new k ≡ (k == n || has words k)) → (k : ℕ) → has new k ≡ true → k < bound
inside_put words new n bound fits inside put k is =
    elim (cases_eq k n) [
      | inl same ↦ omega (arith, same, fits)
      | inr apart ↦ inside k (or_cases (k == n) (has words k) (sym (put k) ∙ is) (ne_eqb k n apart))
    ]

pub inside_out : (words new : List ℕ) (n bound : ℕ) → ((k : ℕ) → has words k ≡ true → k < bound)
    → ((k : ℕ) → has new k ≡ (has words k && not (true && k == n))) → (k : ℕ) → has new k ≡ true → k < bound
inside_out words new n bound inside out k is = inside k (and_parts (has words k) (not (true && k == n)) (sym (out k) ∙ is)).0
