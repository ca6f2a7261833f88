-- Numbers of words, bit by bit.
use Rattle.std.proofs.Common.{◌≡◌, ◌≢◌, ℕ, ◌+◌, ◌-◌, ◌*◌, ◌/◌, ◌%◌, ◌^◌, ◌<◌, ◌≤◌, ◌==◌, ◌&&◌, ◌||◌, not, Bool, true, false, List, length, get_or, set, ap, inl, inr, refl, sym, ◌∙◌, arith, w64}
use Rattle.std.proofs.lemmas.Bool.{cases_eq, cases_lt, eq-eqb, ne_eqb, false≢true}
use Rattle.std.proofs.lemmas.List.{get_or-set_same, get_or-set_other}
use Rattle.std.proofs.lemmas.Nat.{div-mul-add, mod-mul-add, shr-shr}
use Rattle.std.proofs.lemmas.Nat.Bits.{bit_at-trailing_zeros, bit_at-zero, bit_at_above}
use Rattle.std.specs.Int.{bit_at, trailing_zeros}
use Rattle.fa_set.specs.Words.{IsEmptied, IsLeft, has}

-- a number by its word and its bit
pub same_number : (k n : ℕ) → k / 64 ≡ n / 64 → k % 64 ≡ n % 64 → k ≡ n
same_number k n word bit = omega (arith, word, bit)

-- a word that was written, and the others
pub has_here : (words : List ℕ) (n k w : ℕ) → n / 64 < length words → k / 64 ≡ n / 64 → has (set words (n / 64) w) k ≡ (bit_at w (k % 64) == 1)
has_here words n k w fits same =
    ap (λ x. bit_at x (k % 64) == 1) (ap (λ j. get_or (set words (n / 64) w) j 0) same ∙ get_or-set_same words (n / 64) w 0 fits)

pub has_there : (words : List ℕ) (n k w : ℕ) → (k / 64 ≡ n / 64 → ⊥) → has (set words (n / 64) w) k ≡ has words k
has_there words n k w apart =
    ap (λ x. bit_at x (k % 64) == 1) (get_or-set_other words (n / 64) (k / 64) w 0 apart)

module _ (words : List ℕ) (n w : ℕ) (fits : n / 64 < length words)
    (others : (i : ℕ) → i < 64 → i ≢ n % 64 → bit_at w i ≡ bit_at (get_or words (n / 64) 0) i) where
  beside : (k : ℕ) → (k ≡ n → ⊥) → has (set words (n / 64) w) k ≡ has words k
  beside k apart =
      elim (cases_eq (k / 64) (n / 64)) [
        | inr off ↦ has_there words n k w off
        | inl same ↦
            has_here words n k w fits same
            ∙ ap (λ x. x == 1) (others (k % 64) (omega arith) (λ bit. apart (same_number k n same bit)))
            ∙ ap (λ j. bit_at (get_or words j 0) (k % 64) == 1) (sym same)
      ]

  pub put_has : bit_at w (n % 64) ≡ 1 → (k : ℕ) → has (set words (n / 64) w) k ≡ (k == n || has words k)
  put_has is k =
      elim (cases_eq k n) [
        | inl same ↦
            has_here words n k w fits (ap (λ j. j / 64) same)
            ∙ eq-eqb (bit_at w (k % 64)) 1 (ap (λ j. bit_at w (j % 64)) same ∙ is)
            ∙ sym (ap (λ (b : Bool). b || has words k) (eq-eqb k n same))
        | inr apart ↦
            beside k apart ∙ sym (ap (λ (b : Bool). b || has words k) (ne_eqb k n apart))
      ]

  pub out_has : bit_at w (n % 64) ≡ 0 → (k : ℕ) → has (set words (n / 64) w) k ≡ (has words k && not (k == n))
  out_has is k =
      elim (cases_eq k n) [
        | inl same ↦
            has_here words n k w fits (ap (λ j. j / 64) same)
            ∙ ap (λ x. x == 1) (ap (λ j. bit_at w (j % 64)) same ∙ is)
            ∙ sym (ap (λ (b : Bool). has words k && not b) (eq-eqb k n same) ∙ gone (has words k))
        | inr apart ↦
            beside k apart ∙ sym (ap (λ (b : Bool). has words k && not b) (ne_eqb k n apart) ∙ stays (has words k))
      ]
    where
      gone : (b : Bool) → (b && not true) ≡ false
      gone true = refl
      gone false = refl

      stays : (b : Bool) → (b && not false) ≡ b
      stays true = refl
      stays false = refl

-- nothing goes where that is not wanted
pub out_none : (b c : Bool) → b ≡ (b && not (false && c))
out_none true c = refl
out_none false c = refl

-- a word of no bits, and one with some
pub word_emptied : (words : List ℕ) (n w : ℕ) → n / 64 < length words → w ≡ 0 → IsEmptied (set words (n / 64) w) (n / 64)
word_emptied words n w fits none k same =
    has_here words n k w fits same ∙ ap (λ x. bit_at x (k % 64) == 1) none ∙ ap (λ x. x == 1) (bit_at-zero (k % 64))

pub word_left : (words : List ℕ) (n w : ℕ) → n / 64 < length words → w < 2 ^ 64 → (w ≡ 0 → ⊥) → IsLeft (set words (n / 64) w) (n / 64)
word_left words n w fits small some emptied =
    let bit = bit_at-trailing_zeros w64 w (omega (arith, some)) small in
    let k = n / 64 * 64 + trailing_zeros w64 w in
    let word : k / 64 ≡ n / 64 = div-mul-add (n / 64) 64 (trailing_zeros w64 w) bit.0 in
    false≢true (sym (emptied k word) ∙ has_here words n k w fits word
    ∙ eq-eqb (bit_at w (k % 64)) 1 (ap (bit_at w) (mod-mul-add (n / 64) 64 (trailing_zeros w64 w) bit.0) ∙ bit.1))

-- the bits of a word that is shifted
pub bit_shifted : (w from i : ℕ) → bit_at (w / 2 ^ from) i ≡ bit_at w (from + i)
bit_shifted w from i = ap (λ x. x % 2) (shr-shr w from i)

pub none_from : (w from : ℕ) → w / 2 ^ from ≡ 0 → (i : ℕ) → from ≤ i → bit_at w i ≡ 0
none_from w from none i low =
    let at : from + (i - from) ≡ i = omega (arith, low) in
    ap (bit_at w) (sym at) ∙ sym (bit_shifted w from (i - from)) ∙ ap (λ x. bit_at x (i - from)) none ∙ bit_at-zero (i - from)

pub lowest_is : (w from bit : ℕ) → w < 2 ^ 64 → (w / 2 ^ from ≡ 0 → ⊥) → w / 2 ^ from < 2 ^ 64 → bit ≡ from + trailing_zeros w64 (w / 2 ^ from)
    → (from ≤ bit) × (bit < 64) × (bit_at w bit ≡ 1) × ((i : ℕ) → from ≤ i → i < bit → bit_at w i ≡ 0)
lowest_is w from bit small some less is =
    let t = trailing_zeros w64 (w / 2 ^ from) in
    let found = bit_at-trailing_zeros w64 (w / 2 ^ from) (omega (arith, some)) less in
    let one : bit_at w bit ≡ 1 = ap (bit_at w) is ∙ sym (bit_shifted w from t) ∙ found.1 in
    let high : bit < 64 = elim (cases_lt bit 64) [
      | inl less ↦ less
      | inr past ↦ absurd (zero_one (bit_at w bit) (bit_at_above w 64 bit small past) one)
    ] in (
      omega (arith, is),
      high,
      one,
      λ i low before.
          let at : from + (i - from) ≡ i = omega (arith, low) in
          ap (bit_at w) (sym at) ∙ sym (bit_shifted w from (i - from)) ∙ found.2 (i - from) (omega (arith, is, before, low)),
    )
  where
    zero_one : (a : ℕ) → a ≡ 0 → a ≡ 1 → ⊥
    zero_one a e f = omega (arith, e, f)
