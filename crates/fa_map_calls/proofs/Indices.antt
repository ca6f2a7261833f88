-- Where slots stand in a list of all slots, die by die.
use Rattle.std.proofs.Common.{◌≡◌, ℕ, ◌+◌, ◌*◌, ◌/◌, ◌<◌, ◌≤◌, ◌==◌, ◌&&◌, true, false, nat_le, nat_lt, ap, inl, inr, sym, ◌∙◌, arith}
use Rattle.std.proofs.lemmas.Bool.{and_from, and_left, and_parts, and_right, both_ways, cases_Bool, cases_lt, cases_order, eq-eqb, le-leb, leb-true, lt-leb, lt-ltb, ltb-true, le-ltb, ne_eqb}
use Rattle.std.proofs.Math.Nat.{div-lt_iff_lt-mul, mul-le-mul_right, div-eq_of_lt-le, lt-div-mul-add, div-mul-le_self}

pub inside : (a b k : ℕ) → a ≤ k → k < b → (nat_le a k && nat_lt k b) ≡ true
inside a b k low high = and_from (nat_le a k) (nat_lt k b) (le-leb a k low) (lt-ltb k b high)

pub before : (a b k : ℕ) → k < a → (nat_le a k && nat_lt k b) ≡ false
before a b k off = and_left (nat_le a k) (nat_lt k b) (lt-leb a k off)

pub behind : (a b k : ℕ) → b ≤ k → (nat_le a k && nat_lt k b) ≡ false
behind a b k off = and_right (nat_le a k) (nat_lt k b) (le-ltb k b off)

over : (d die n : ℕ) → d < die → d * n + n ≤ die * n
over d die n less =
    let more = mul-le-mul_right {m = d + 1} {n = die} n (omega arith) in
    omega (arith, more)

-- the slots of a die come before those of a later one
pub later : (d die s slot n : ℕ) → d < die → s < n → d * n + s < die * n + slot
later d die s slot n less fits = let more = over d die n less in omega (arith, more)

-- two slots that stand at one index are one
pub index_apart : (d s die slot n : ℕ) → s < n → slot < n → d * n + s ≡ die * n + slot → (d ≡ die) × (s ≡ slot)
index_apart d s die slot n a b e =
    elim (cases_order d die) [
      | inl same ↦ let rows = ap (λ k. k * n) same in (same, omega (arith, rows, e))
      | inr other ↦ elim other [
        | inl less ↦ let off = later d die s slot n less a in absurd (omega (arith, off))
        | inr more ↦ let off = later die d slot s n more b in absurd (omega (arith, off))
      ]
    ]

pub index_fits : (die slot dies n : ℕ) → die < dies → slot < n → die * n + slot < dies * n
index_fits die slot dies n a b = let more = over die dies n a in omega (arith, more)

pub die_fits : (die dies n : ℕ) → die < dies → die * n + n ≤ dies * n
die_fits die dies n a = over die dies n a

-- whether an index is one of a die's
pub in_die : (d s die n : ℕ) → s < n → (nat_le (die * n) (d * n + s) && nat_lt (d * n + s) (die * n + n)) ≡ (d == die)
in_die d s die n fits =
    elim (cases_order d die) [
      | inl same ↦
          let rows = ap (λ k. k * n) same in
          inside (die * n) (die * n + n) (d * n + s) (omega (arith, rows)) (omega (arith, rows)) ∙ sym (eq-eqb d die same)
      | inr other ↦ elim other [
        | inl less ↦
            let off = later d die s 0 n less fits in
            before (die * n) (die * n + n) (d * n + s) (omega (arith, off)) ∙ sym (ne_eqb d die (λ is. omega (arith, is, less)))
        | inr more ↦
            let off = over die d n more in
            behind (die * n) (die * n + n) (d * n + s) (omega (arith, off)) ∙ sym (ne_eqb d die (λ is. omega (arith, is, more)))
      ]
    ]

-- whether a slot is one of a block's
pub in_block : (s block slots : ℕ) → 0 < slots → (nat_le (block * slots) s && nat_lt s (block * slots + slots)) ≡ (s / slots == block)
in_block s block slots some =
    elim (cases_Bool (nat_le (block * slots) s && nat_lt s (block * slots + slots))) [
      | inl passes ↦
          let parts = and_parts (nat_le (block * slots) s) (nat_lt s (block * slots + slots)) passes in
          let low = leb-true (block * slots) s parts.0 in
          let high = ltb-true s (block * slots + slots) parts.1 in
          let is : s / slots ≡ block = div-eq_of_lt-le {k = block} slots {m = s} low (omega (arith, high)) in
          passes ∙ sym (eq-eqb (s / slots) block is)
      | inr fails ↦ fails ∙ sym (ne_eqb (s / slots) block (λ is. off (ap (λ k. k * slots) is) fails))
    ]
  where
    off : s / slots * slots ≡ block * slots → (nat_le (block * slots) s && nat_lt s (block * slots + slots)) ≡ false → ⊥
    off e fails =
        let low : s / slots * slots ≤ s = div-mul-le_self s slots in
        let high : s < s / slots * slots + slots = lt-div-mul-add some in
        both_ways (nat_le (block * slots) s && nat_lt s (block * slots + slots)) fails
        (inside (block * slots) (block * slots + slots) s (omega (arith, e, low)) (omega (arith, e, high)))

shifted : (a b low n s : ℕ) → a ≡ b → (nat_le (b + low) (a + s) && nat_lt (a + s) (b + low + n)) ≡ (nat_le low s && nat_lt s (low + n))
shifted a b low n s e =
    elim (cases_lt s low) [
      | inl under ↦ before (b + low) (b + low + n) (a + s) (omega (arith, e, under)) ∙ sym (before low (low + n) s under)
      | inr from ↦ elim (cases_lt s (low + n)) [
        | inl within ↦
            inside (b + low) (b + low + n) (a + s) (omega (arith, e, from)) (omega (arith, e, within))
            ∙ sym (inside low (low + n) s from within)
        | inr past ↦ behind (b + low) (b + low + n) (a + s) (omega (arith, e, past)) ∙ sym (behind low (low + n) s past)
      ]
    ]

-- whether an index is one of those of a die's block
pub in_die_block : (d s die block blocks slots : ℕ) → 0 < slots → block < blocks → s < blocks * slots
    → (nat_le (die * (blocks * slots) + block * slots) (d * (blocks * slots) + s)
    && nat_lt (d * (blocks * slots) + s) (die * (blocks * slots) + block * slots + slots)) ≡ (d == die && s / slots == block)
in_die_block d s die block blocks slots some low fits =
    let n = blocks * slots in
    elim (cases_order d die) [
      | inl same ↦
          shifted (d * n) (die * n) (block * slots) slots s (ap (λ k. k * n) same) ∙ in_block s block slots some
          ∙ sym (ap (λ b. b && s / slots == block) (eq-eqb d die same))
      | inr other ↦ elim other [
        | inl less ↦
            let off = later d die s (block * slots) n less fits in
            before (die * n + block * slots) (die * n + block * slots + slots) (d * n + s) off
            ∙ sym (and_left (d == die) (s / slots == block) (ne_eqb d die (λ is. omega (arith, is, less))))
        | inr more ↦
            let off = over die d n more in
            let room = over block blocks slots low in
            behind (die * n + block * slots) (die * n + block * slots + slots) (d * n + s) (omega (arith, off, room))
            ∙ sym (and_left (d == die) (s / slots == block) (ne_eqb d die (λ is. omega (arith, is, more))))
      ]
    ]

pub block_of_slot : (slot blocks slots : ℕ) → 0 < slots → slot < blocks * slots → slot / slots < blocks
block_of_slot slot blocks slots some fits = (div-lt_iff_lt-mul {k = slots} {x = slot} {y = blocks} some).1 fits
