-- The dies of a mask, and how many they are.
use Rattle.std.proofs.Common.{ℕ, zero, suc, ◌+◌, ◌*◌, ◌/◌, ◌%◌, ◌^◌, ◌<◌, ◌≤◌, ◌≡◌, ◌==◌, ◌&&◌, ◌||◌, not, Bool, true, false, sym, ap, ◌∙◌, arith, inl, inr}
use Rattle.std.proofs.Common.{nat_lt, add-one, bit_and, bit_or, eq-eqb, w64}
use Rattle.std.proofs.Math.Nat.{two-pow-succ}
use Rattle.std.proofs.lemmas.Bool.{and_from, and_right, cases_Bool, cases_eq, cases_lt, eqb-false, false≢true, le-ltb, lt-ltb, ne_eqb}
use Rattle.std.proofs.lemmas.Nat.{and_le_l}
use Rattle.std.proofs.lemmas.Nat.Bits.{bit_at-lt, bit_at-suc, bit_at-zero, bit_at_above, bit_at_clear_other, bit_at_clear_same, bit_at_set_other, bit_at_set_same, same_from_bits}
use Rattle.std.specs.FinMap.{contains_key, len, remove}
use Rattle.std.specs.Int.{bit_at, bit_not}
use Rattle.fa_mount_headers.specs.Rules.{is_in}
use Rattle.fa_machine.specs.Maps.{Numbers}
use Rattle.fa_map_calls.proofs.Ranges.{bit, count_agree, count_more}
use Rattle.fa_mount.specs.Closing.{how_many}
use Rattle.fa_set.proofs.Changed.{removed_other}
use Rattle.fa_core_state.proofs.Numbers.{len_less}

pub with_die : (n k : ℕ) → k < 64 → (other : ℕ) → is_in (bit_or n (1 * 2 ^ k % 2 ^ 64)) other ≡ (other == k || is_in n other)
with_die n k within other =
    let new = bit_or n (1 * 2 ^ k % 2 ^ 64) in
    elim (cases_eq other k) [
      | inl same ↦
          ap (is_in new) same ∙ ap (λ b. b == 1) (bit_at_set_same w64 n k within)
          ∙ sym (ap (λ t. t || is_in n other) (eq-eqb other k same))
      | inr apart ↦
          ap (λ b. b == 1) (bit_at_set_other w64 n k within other apart) ∙ sym (ap (λ t. t || is_in n other) (ne_eqb other k apart))
    ]

-- a mask of dies below one has no other
pub none_above : (mask k die : ℕ) → mask < 2 ^ k → k ≤ die → is_in mask die ≡ false
none_above mask k die low past = ap (λ b. b == 1) (bit_at_above mask k die low past)

pub without_die : (n k : ℕ) → n < 2 ^ 64 → k < 64 → (other : ℕ)
    → is_in (bit_and n (bit_not w64 (1 * 2 ^ k % 2 ^ 64))) other ≡ (not (other == k) && is_in n other)
without_die n k fits within other =
    let new = bit_and n (bit_not w64 (1 * 2 ^ k % 2 ^ 64)) in
    let less : new ≤ n = and_le_l n (bit_not w64 (1 * 2 ^ k % 2 ^ 64)) in
    elim (cases_eq other k) [
      | inl same ↦
          ap (is_in new) same ∙ ap (λ b. b == 1) (bit_at_clear_same w64 n k within)
          ∙ sym (ap (λ t. not t && is_in n other) (eq-eqb other k same))
      | inr apart ↦
          elim (cases_lt other 64) [
            | inl low ↦
                ap (λ b. b == 1) (bit_at_clear_other w64 n k within other low apart)
                ∙ sym (ap (λ t. not t && is_in n other) (ne_eqb other k apart))
            | inr past ↦
                none_above new 64 other (omega (arith, less, fits)) past ∙ sym (none_above n 64 other fits past)
                ∙ sym (ap (λ t. not t && is_in n other) (ne_eqb other k apart))
          ]
    ]

-- the dies of a mask are below the end that it has
pub in_below : (mask k die : ℕ) → mask < 2 ^ k → is_in mask die ≡ true → die < k
in_below mask k die low is =
    elim (cases_lt die k) [
      | inl below ↦ below
      | inr past ↦ absurd (false≢true (sym (none_above mask k die low past) ∙ is))
    ]

pub none_in_zero : (die : ℕ) → is_in 0 die ≡ false
none_in_zero die = ap (λ b. b == 1) (bit_at-zero die)

no_bit : (b : ℕ) → b < 2 → (b == 1) ≡ false → b ≡ 0
no_bit b low not_one = let other = eqb-false b 1 not_one in elim (cases_eq b 0) [
  | inl none ↦ none
  | inr some ↦ absurd (other (omega (arith, low, some)))
]

fits_by_bits : (k n : ℕ) → ((die : ℕ) → k ≤ die → bit_at n die ≡ 0) → n < 2 ^ k
fits_by_bits zero n none =
    let is : n ≡ 0 = same_from_bits n 0 (λ die. none die (omega arith) ∙ sym (bit_at-zero die)) in omega (arith, is)
fits_by_bits (suc k) n none =
    let half = fits_by_bits k (n / 2) (λ die past. sym (bit_at-suc n die) ∙ none (suc die) (omega (arith, past))) in
    let twice = two-pow-succ k in
    omega (arith, half, twice)

-- a mask fits where its dies are below an end
pub fits_below : (k mask : ℕ) → ((die : ℕ) → is_in mask die ≡ true → die < k) → mask < 2 ^ k
fits_below k mask inside =
    fits_by_bits k mask (λ die past. elim (cases_Bool (is_in mask die)) [
      | inl is ↦ let low = inside die is in absurd (omega (arith, low, past))
      | inr not_in ↦ no_bit (bit_at mask die) (bit_at-lt mask die) not_in
    ])

count_next : (p : ℕ → Bool) (n : ℕ) → how_many (suc n) p ≡ how_many n p + bit (p n)
count_next p n =
    let same : 0 + n ≡ n = omega arith in
    ap (λ k. how_many k p) (sym (add-one n)) ∙ count_more p 0 n ∙ ap (λ k. how_many n p + bit (p k)) same

pub count_same : (n : ℕ) (p q : ℕ → Bool) → ((k : ℕ) → p k ≡ q k) → how_many n p ≡ how_many n q
count_same n p q agree = count_agree p q 0 n (λ k low high. agree k)

apart_from : (p q : ℕ → Bool) (die k : ℕ) → q k ≡ (not (k == die) && p k) → (k ≡ die → ⊥) → q k ≡ p k
apart_from p q die k is apart = is ∙ ap (λ t. not t && p k) (ne_eqb k die apart)

-- one die less counts one less
pub count_less : (p q : ℕ → Bool) (die n : ℕ) → die < n → p die ≡ true → ((k : ℕ) → q k ≡ (not (k == die) && p k))
    → how_many n q + 1 ≡ how_many n p
count_less p q die zero low is less = absurd (omega (arith, low))
count_less p q die (suc n) low is less =
    let new = count_next q n in
    let old = count_next p n in
    elim (cases_eq die n) [
      | inl last ↦
          let rest : how_many n q ≡ how_many n p =
          count_agree q p 0 n (λ k from below. apart_from p q die k (less k) (λ same. omega (arith, below, same, last))) in
          let gone : bit (q n) ≡ 0 = ap bit (less n ∙ ap (λ t. not t && p n) (eq-eqb n die (sym last))) in
          let here : bit (p n) ≡ 1 = ap bit (ap p (sym last) ∙ is) in
          omega (arith, new, old, rest, gone, here)
      | inr apart ↦
          let rest = count_less p q die n (omega (arith, low, apart)) is less in
          let same : bit (q n) ≡ bit (p n) =
          ap bit (apart_from p q die n (less n) (λ e. apart (sym e))) in
          omega (arith, new, old, rest, same)
    ]

-- a set has no fewer numbers than it has below an end
pub count_at_most : (n : ℕ) (m : Numbers) → how_many n (contains_key m) ≤ len m
count_at_most zero m = omega arith
count_at_most (suc n) m =
    let next = count_next (contains_key m) n in
    elim (cases_Bool (contains_key m n)) [
      | inl has ↦
          let less = len_less m n has in
          let here : bit (contains_key m n) ≡ 1 = ap bit has in
          let rest = count_at_most n (remove m n) in
          let same : how_many n (contains_key m) ≡ how_many n (contains_key (remove m n)) =
          count_agree (contains_key m) (contains_key (remove m n)) 0 n
          (λ k from below. sym (removed_other m n k (λ e. omega (arith, below, e)))) in
          omega (arith, next, less, here, rest, same)
      | inr has_not ↦
          let here : bit (contains_key m n) ≡ 0 = ap bit has_not in
          let rest = count_at_most n m in
          omega (arith, next, here, rest)
    ]

-- a number that is not the last one is as far below the end as it was
pub lt_next : (k die : ℕ) → (k ≡ die → ⊥) → nat_lt k (die + 1) ≡ nat_lt k die
lt_next k die apart =
    elim (cases_lt k die) [
      | inl low ↦ lt-ltb k (die + 1) (omega (arith, low)) ∙ sym (lt-ltb k die low)
      | inr high ↦ le-ltb k (die + 1) (omega (arith, high, apart)) ∙ sym (le-ltb k die high)
    ]

module _ (live : ℕ → Bool) (die k : ℕ) (new old : Bool) (was : old ≡ (nat_lt k die && live k)) where
  pub live_more : live die ≡ true → new ≡ (k == die || old) → new ≡ (nat_lt k (die + 1) && live k)
  live_more here is =
      elim (cases_eq k die) [
        | inl same ↦
            is ∙ ap (λ t. t || old) (eq-eqb k die same)
            ∙ sym (and_from (nat_lt k (die + 1)) (live k) (lt-ltb k (die + 1) (omega (arith, same))) (ap live same ∙ here))
        | inr apart ↦
            is ∙ ap (λ t. t || old) (ne_eqb k die apart) ∙ was ∙ ap (λ t. t && live k) (sym (lt_next k die apart))
      ]

  pub live_same : live die ≡ false → new ≡ old → new ≡ (nat_lt k (die + 1) && live k)
  live_same here is =
      elim (cases_eq k die) [
        | inl same ↦
            let none = ap live same ∙ here in
            is ∙ was ∙ and_right (nat_lt k die) (live k) none ∙ sym (and_right (nat_lt k (die + 1)) (live k) none)
        | inr apart ↦ is ∙ was ∙ ap (λ t. t && live k) (sym (lt_next k die apart))
      ]

-- once all were looked at
pub live_all : (live : ℕ → Bool) (dies k : ℕ) (b : Bool) → b ≡ (nat_lt k dies && live k) → (live k ≡ true → k < dies) → b ≡ live k
live_all live dies k b is inside =
    elim (cases_Bool (live k)) [
      | inl lives ↦
          is ∙ and_from (nat_lt k dies) (live k) (lt-ltb k dies (inside lives)) lives ∙ sym lives
      | inr dead ↦ is ∙ and_right (nat_lt k dies) (live k) dead ∙ sym dead
    ]
