-- The least number from one on, found over levels.
use Rattle.std.proofs.Common.{◌≡◌, ℕ, ◌+◌, ◌*◌, ◌/◌, ◌<◌, ◌≤◌, true, false, List, Option, Some, None, length, get_or, ap, inl, inr, refl, sym, ◌∙◌, arith}
use Rattle.std.proofs.lemmas.Bool.{cases_Bool, cases_eq, cases_lt, eq-eqb, lt-ltb, ltb-true, false≢true}
use Rattle.std.proofs.lemmas.List.{get_or_past}
use Rattle.std.proofs.lemmas.Option.{none-some, same_Some}
use Rattle.std.proofs.lemmas.Nat.Bits.{bit_at-zero}
use Rattle.std.specs.Int.{bit_at}
use Rattle.std.specs.Prelude.{◌==◌, ◌%◌}
use Rattle.fa_set.specs.Levels.{IsAbove}
use Rattle.fa_set.specs.Words.{IsLowest, IsLowestInWord, has}

-- fails number is in a word behind the last
pub has_past : (words : List ℕ) (k : ℕ) → length words ≤ k / 64 → has words k ≡ false
has_past words k past = ap (λ w. bit_at w (k % 64) == 1) (get_or_past words (k / 64) 0 past) ∙ ap (λ b. b == 1) (bit_at-zero (k % 64))

pub lowest_past : (words : List ℕ) (from : ℕ) → length words ≤ from / 64 → IsLowest words from None
lowest_past words from past = record {
  some = λ k e. absurd (none-some k e);
  before = λ k low e. has_past words k (omega (arith, past, low));
}

-- what is found in the number's word
pub lowest_here : (words : List ℕ) (from k : ℕ) → IsLowestInWord words from (Some k) → IsLowest words from (Some k)
lowest_here words from k found = record {
  some = λ j e. let is = found.some j e in (is.0, is.2);
  before = λ j low e.
      let less = ltb-true j k e in
      let at = found.some k refl in
      found.before j low (omega (arith, at.1, low, less)) e;
}

module _ (low mid : List ℕ) (above : IsAbove low mid) (from : ℕ) (here : IsLowestInWord low from None) where
  -- a number in a word that is none of the numbers above is none
  bare : (k : ℕ) → has mid (k / 64) ≡ false → has low k ≡ false
  bare k off =
      elim (cases_Bool (has low k)) [
        | inr fails ↦ fails
        | inl passes ↦ absurd (false≢true (sym off ∙ above.up k passes))
      ]

  pub lowest_none : IsLowest mid (from / 64 + 1) None → IsLowest low from None
  lowest_none none = record {
    some = λ k e. absurd (none-some k e);
    before = λ k from_on e. elim (cases_eq (k / 64) (from / 64)) [
      | inl same ↦ here.before k from_on same refl
      | inr apart ↦ bare k (none.before (k / 64) (omega (arith, from_on, apart)) refl)
    ];
  }

  pub lowest_there : (word first : ℕ) (found : Option ℕ) → IsLowest mid (from / 64 + 1) (Some word) → first ≡ word * 64 → IsLowestInWord low first found → IsLowest low from found
  lowest_there word first None upper at lower =
      let is = upper.some word refl in
      absurd (above.down word is.1 (λ k in_word. lower.before k (omega (arith, at, in_word)) (omega (arith, at, in_word)) refl))
  lowest_there word first (Some k) upper at lower =
      let is = upper.some word refl in
      let got = lower.some k refl in
      record {
        some = λ j e.
            let same = same_Some k j e in
            (omega (arith, same, is.0, got.0, at), ap (has low) (sym same) ∙ got.2);
        before = λ j from_on e.
            let less = ltb-true j k e in
            elim (cases_eq (j / 64) (from / 64)) [
              | inl same ↦ here.before j from_on same refl
              | inr apart ↦ elim (cases_lt (j / 64) word) [
                | inl early ↦ bare j (upper.before (j / 64) (omega (arith, from_on, apart)) (lt-ltb (j / 64) word early))
                | inr on ↦ lower.before j (omega (arith, at, on)) (omega (arith, at, on, less, got.1)) e
              ]
            ];
      }

-- what is found behind numbers that are none
pub lowest_later : (words : List ℕ) (from first k : ℕ) → from ≤ first → ((j : ℕ) → from ≤ j → j < first → has words j ≡ false)
    → IsLowestInWord words first (Some k) → IsLowest words from (Some k)
lowest_later words from first k low bare found = record {
  some = λ j e. let is = found.some j e in (omega (arith, low, is.0), is.2);
  before = λ j from_on e. elim (cases_lt j first) [
    | inl early ↦ bare j from_on early
    | inr on ↦
        let less = ltb-true j k e in
        let at = found.some k refl in
        found.before j on (omega (arith, at.1, on, less)) e
  ];
}

-- a word that has numbers is one of the words
pub left_fits : (low mid : List ℕ) (word : ℕ) → IsAbove low mid → has mid word ≡ true → word < length low
left_fits low mid word above is =
    elim (cases_lt word (length low)) [
      | inl less ↦ less
      | inr past ↦ absurd (above.down word is (λ k in_word. has_past low k (omega (arith, past, in_word))))
    ]

-- the least bit of a word that is set is the word's least number
pub word_found : (words : List ℕ) (from bit : ℕ)
    → (from % 64 ≤ bit) × (bit < 64) × (bit_at (get_or words (from / 64) 0) bit ≡ 1)
    × ((i : ℕ) → from % 64 ≤ i → i < bit → bit_at (get_or words (from / 64) 0) i ≡ 0)
    → IsLowestInWord words from (Some (from / 64 * 64 + bit))
word_found words from bit found = record {
  some = λ k e.
      let is = same_Some (from / 64 * 64 + bit) k e in
      let word : k / 64 ≡ from / 64 = omega (arith, is, found.1) in
      let at : k % 64 ≡ bit = omega (arith, is, found.1) in (
        omega (arith, is, found.0),
        word,
        ap (λ j. bit_at (get_or words j 0) (k % 64) == 1) word ∙ eq-eqb (bit_at (get_or words (from / 64) 0) (k % 64)) 1 (ap (bit_at (get_or words (from / 64) 0)) at ∙ found.2),
      );
  before = λ k low word e.
      let less = ltb-true k (from / 64 * 64 + bit) e in
      ap (λ j. bit_at (get_or words j 0) (k % 64) == 1) word
      ∙ ap (λ x. x == 1) (found.3 (k % 64) (omega (arith, low, word)) (omega (arith, less, word, found.1)));
}

-- numbers of which none is one of a word
pub bare_past : (words : List ℕ) (from first word : ℕ) → first / 64 ≡ word → ((k : ℕ) → from ≤ k → k < first → has words k ≡ false)
    → IsLowestInWord words first None → (k : ℕ) → from ≤ k → k < (word + 1) * 64 → has words k ≡ false
bare_past words from first word at bare here k low high =
    elim (cases_lt k first) [
      | inl early ↦ bare k low early
      | inr on ↦ here.before k on (omega (arith, at, on, high)) refl
    ]

pub bare_all : (words : List ℕ) (from first : ℕ) → length words ≤ first / 64 → ((k : ℕ) → from ≤ k → k < first → has words k ≡ false) → IsLowest words from None
bare_all words from first past bare = record {
  some = λ k e. absurd (none-some k e);
  before = λ k low e. elim (cases_lt k first) [
    | inl early ↦ bare k low early
    | inr on ↦ has_past words k (omega (arith, past, on))
  ];
}
