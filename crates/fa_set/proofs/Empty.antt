-- Levels of words that are all zero.
use Rattle.std.proofs.Common.{◌≡◌, ℕ, ◌+◌, ◌/◌, ◌%◌, ◌==◌, false, List, ap, get_or, replicate, inl, inr, length, sym, ◌∙◌, arith}
use Rattle.std.proofs.lemmas.Bool.{cases_lt, false≢true}
use Rattle.std.proofs.lemmas.List.{get_or-replicate, get_or_past, length-replicate}
use Rattle.std.proofs.lemmas.Nat.Bits.{bit_at-zero}
use Rattle.std.specs.FinMap.{empty}
use Rattle.std.specs.Int.{bit_at}
use Rattle.fa_set.specs.Levels.{AreLevels, IsAbove}
use Rattle.fa_set.specs.Members.{numbers_below}
use Rattle.fa_set.specs.Words.{has}
use Rattle.fa_set.proofs.Membership.{none_below}

zero_at : (n k : ℕ) → ◌≡◌ {A = ℕ} (get_or (replicate n 0) k 0) 0
zero_at n k =
    elim (cases_lt k n) [
      | inl less ↦ get_or-replicate n k 0 0 less
      | inr past ↦ get_or_past (replicate n 0) k 0 (let long = length-replicate {A = ℕ} n 0 in omega (arith, long, past))
    ]

pub has_none : (words : List ℕ) (n : ℕ) → words ≡ replicate n 0 → (k : ℕ) → has words k ≡ false
has_none words n is k =
    ap (λ l. has l k) is ∙ ap (λ w. bit_at w (k % 64) == 1) (zero_at n (k / 64)) ∙ ap (λ b. b == 1) (bit_at-zero (k % 64))

none_above : (low mid : List ℕ) → ((k : ℕ) → has low k ≡ false) → ((k : ℕ) → has mid k ≡ false) → IsAbove low mid
none_above low mid a b = record {
  up = λ k is. absurd (false≢true (sym (a k) ∙ is));
  down = λ word is. absurd (false≢true (sym (b word) ∙ is));
}

pub empty_levels : (bound : ℕ) (low middle high : List ℕ) → low ≡ replicate (bound / 64 + 1) 0 → middle ≡ replicate (bound / 64 / 64 + 1) 0
    → high ≡ replicate (bound / 64 / 64 / 64 + 1) 0 → AreLevels bound low middle high
empty_levels bound low middle high a b c = record {
  low_words = ap length a ∙ length-replicate (bound / 64 + 1) 0;
  middle_words = ap length b ∙ length-replicate (bound / 64 / 64 + 1) 0;
  high_words = ap length c ∙ length-replicate (bound / 64 / 64 / 64 + 1) 0;
  inside = λ k is. absurd (false≢true (sym (has_none low (bound / 64 + 1) a k) ∙ is));
  middle_above = none_above low middle (has_none low (bound / 64 + 1) a) (has_none middle (bound / 64 / 64 + 1) b);
  high_above = none_above middle high (has_none middle (bound / 64 / 64 + 1) b) (has_none high (bound / 64 / 64 / 64 + 1) c);
}

pub new_members : (bound : ℕ) (low : List ℕ) (n : ℕ) → low ≡ replicate n 0 → numbers_below bound low ≡ empty
new_members bound low n is = none_below bound low (has_none low n is)
