-- Counts over the slots of a die and of one of its blocks, and tests of all numbers of a range.
use Rattle.fa_map_calls.proofs.Indices.{die_fits}
use Rattle.fa_map_calls.proofs.Ranges.{bit, count_agree, count_cons, count_same}
use Rattle.fa_machine.specs.Collecting.{count_in, is_erased_outside, is_in_block, may_be_victim}
use Rattle.fa_machine.specs.Copies.{is_held_slot, is_reserved_slot, is_stale_slot}
use Rattle.fa_machine.specs.Placement.{free, is_erased_slot}
use Rattle.fa_machine.specs.State.{MapState, slots_of, used_at}
use Rattle.fa_machine.specs.declared.places.Used.{Used}
use Rattle.fa_machine.specs.declared.places.Used.TheVariants.{Held, Reserved, Stale}
use Rattle.std.proofs.Common.{Bool, None, Option, Some, ap, arith, eq-eqb, false, inl, inr, not, refl, subst, suc, sym, true, zero, ℕ, ◌*◌, ◌+◌, ◌-◌, ◌/◌, ◌<◌, ◌∙◌, ◌≡◌, ◌≤◌}
use Rattle.std.proofs.Math.Nat.{div-eq_of_lt-le, div-mul-le_self, lt-div-mul-add}
use Rattle.std.proofs.lemmas.Bool.{and_from, and_parts, cases_eq, ne_eqb}
use Rattle.std.specs.List.{count_by, list_all, range_with_len}
use Rattle.std.specs.Prelude.{is_none, nat_le, nat_lt, ◌&&◌, ◌==◌}

-- a count over two ranges, one behind the other
pub count_split : (f : ℕ → Bool) (a n m : ℕ)
    → count_by f (range_with_len a (n + m)) ≡ count_by f (range_with_len a n) + count_by f (range_with_len (a + n) m)
count_split f a zero m =
    let same : count_by f (range_with_len a (0 + m)) ≡ count_by f (range_with_len (a + 0) m) =
    ap (λ n. count_by f (range_with_len a n)) {x = 0 + m} {y = m} (omega arith)
    ∙ ap (λ k. count_by f (range_with_len k m)) {x = a} {y = a + 0} (omega arith) in
    let none : count_by f (range_with_len a 0) ≡ 0 = refl in
    omega (arith, same, none)
count_split f a (suc n) m =
    let sum : count_by f (range_with_len a (suc n + m)) ≡ count_by f (range_with_len a (suc (n + m))) =
    ap (λ k. count_by f (range_with_len a k)) {x = suc n + m} {y = suc (n + m)} (omega arith) in
    let here = count_cons f a (n + m) in
    let there = count_cons f a n in
    let rest = count_split f (a + 1) n m in
    let same : count_by f (range_with_len (a + 1 + n) m) ≡ count_by f (range_with_len (a + suc n) m) =
    ap (λ k. count_by f (range_with_len k m)) {x = a + 1 + n} {y = a + suc n} (omega arith) in
    omega (arith, sum, here, there, rest, same)

pub all_in : (test : ℕ → Bool) (a n : ℕ) → ((k : ℕ) → a ≤ k → k < a + n → test k ≡ true) → list_all test (range_with_len a n) ≡ true
all_in test a zero passes = refl
all_in test a (suc n) passes =
    and_from (test a) (list_all test (range_with_len (a + 1) n)) (passes a (omega arith) (omega arith))
    (all_in test (a + 1) n (λ k low high. passes k (omega arith) (omega arith)))

pub one_of_all : (test : ℕ → Bool) (a n i : ℕ) → a ≤ i → i < a + n → list_all test (range_with_len a n) ≡ true → test i ≡ true
one_of_all test a zero i low high all = absurd (omega arith)
one_of_all test a (suc n) i low high all =
    let parts = and_parts (test a) (list_all test (range_with_len (a + 1) n)) all in
    elim (cases_eq i a) [
      | inl same ↦ ap test same ∙ parts.0
      | inr apart ↦ one_of_all test (a + 1) n i (omega (arith, low, apart)) (omega arith) parts.1
    ]

module _ (m : MapState) (die block : ℕ) (some : 0 < m.geometry.slots) (fits : block < m.geometry.blocks) where
  abbrev slots : ℕ
  slots = m.geometry.slots

  abbrev first : ℕ
  first = block * slots

  abbrev erased : ℕ → Bool
  erased slot = is_erased_slot m die slot

  abbrev outside : ℕ → Bool
  outside slot = is_erased_outside m die block slot

  before : (slot : ℕ) → slot < first → is_in_block m block slot ≡ false
  before slot low = ne_eqb (slot / slots) block (λ is.
      let at : block * slots ≤ slot = subst (λ b. b * slots ≤ slot) is (div-mul-le_self slot slots) in omega (arith, at, low))

  behind : (slot : ℕ) → first + slots ≤ slot → is_in_block m block slot ≡ false
  behind slot high = ne_eqb (slot / slots) block (λ is.
      let at : slot < block * slots + slots = subst (λ b. slot < b * slots + slots) is (lt-div-mul-add some) in omega (arith, at, high))

  within : (slot : ℕ) → first ≤ slot → slot < first + slots → is_in_block m block slot ≡ true
  within slot low high = eq-eqb (slot / slots) block (div-eq_of_lt-le {k = block} slots {m = slot} low (omega (arith, high)))

  and_out : (a b : Bool) → b ≡ false → (a && not b) ≡ a
  and_out true b e = ap not e
  and_out false b e = refl

  and_in : (a b : Bool) → b ≡ true → (a && not b) ≡ false
  and_in true b e = ap not e
  and_in false b e = refl

  abbrev rest : ℕ
  rest = m.geometry.blocks * slots - (first + slots)

  all : first + (slots + rest) ≡ m.geometry.blocks * slots
  all = let low = die_fits block m.geometry.blocks slots fits in omega (arith, low)

  -- the erased slots outside of a block are those of the die without those of the block
  pub outside_is : count_by (is_erased_outside m die block) (slots_of m) ≡ free m die - count_in m die block is_none
  outside_is =
      let whole = count_split erased 0 first (slots + rest) in
      let parts = count_split erased first slots rest in
      let whole' = count_split outside 0 first (slots + rest) in
      let parts' = count_split outside first slots rest in
      let a = count_agree outside erased 0 first (λ slot low high. and_out (erased slot) (is_in_block m block slot) (before slot (omega (arith, high)))) in
      let b = count_agree outside (λ slot. false) first slots (λ slot low high. and_in (erased slot) (is_in_block m block slot) (within slot low high)) in
      let none = count_same (λ slot. false) false first slots (λ slot. refl) in
      let c = count_agree outside erased (first + slots) rest (λ slot low high. and_out (erased slot) (is_in_block m block slot) (behind slot low)) in
      let e : count_by erased (range_with_len 0 (first + (slots + rest))) ≡ free m die = ap (λ n. count_by erased (range_with_len 0 n)) all in
      let f : count_by outside (range_with_len 0 (first + (slots + rest))) ≡ count_by (is_erased_outside m die block) (slots_of m) =
      ap (λ n. count_by outside (range_with_len 0 n)) all in
      let x : count_by erased (range_with_len (0 + first) (slots + rest)) ≡ count_by erased (range_with_len first (slots + rest)) =
      ap (λ k. count_by erased (range_with_len k (slots + rest))) {x = 0 + first} {y = first} (omega arith) in
      let y : count_by outside (range_with_len (0 + first) (slots + rest)) ≡ count_by outside (range_with_len first (slots + rest)) =
      ap (λ k. count_by outside (range_with_len k (slots + rest))) {x = 0 + first} {y = first} (omega arith) in
      let i : count_by erased (range_with_len first slots) ≡ count_in m die block is_none = refl in
      omega (arith, whole, parts, whole', parts', a, b, none, c, e, f, x, y, i)

  -- the test of a block by its counts and by the erased slots of its die
  pub may_is : (stale reserved held blank all_blank : ℕ) → stale ≡ count_in m die block is_stale_slot → reserved ≡ count_in m die block is_reserved_slot
      → held ≡ count_in m die block is_held_slot → blank ≡ count_in m die block is_none → all_blank ≡ free m die
      → (nat_lt 0 stale && reserved == 0 && nat_le held (all_blank - blank)) ≡ may_be_victim m die block
  may_is stale reserved held blank all_blank a b c d e =
      let room : all_blank - blank ≡ count_by (is_erased_outside m die block) (slots_of m) = (λ i. e i - d i) ∙ sym outside_is in
      λ i. nat_lt 0 (a i) && b i == 0 && nat_le (c i) (room i)

  -- the erased slots of a block are some of the die's
  pub erased_few : count_in m die block is_none ≤ free m die
  erased_few =
      let whole = count_split erased 0 first (slots + rest) in
      let parts = count_split erased first slots rest in
      let e : count_by erased (range_with_len 0 (first + (slots + rest))) ≡ free m die = ap (λ n. count_by erased (range_with_len 0 n)) all in
      let x : count_by erased (range_with_len (0 + first) (slots + rest)) ≡ count_by erased (range_with_len first (slots + rest)) =
      ap (λ k. count_by erased (range_with_len k (slots + rest))) {x = 0 + first} {y = first} (omega arith) in
      let i : count_by erased (range_with_len first slots) ≡ count_in m die block is_none = refl in
      omega (arith, whole, parts, e, x, i)

-- a slot is in one state
one_state : (used : Option Used) → bit (is_none used) + bit (is_reserved_slot used) + bit (is_held_slot used) + bit (is_stale_slot used) ≡ 1
one_state None = refl
one_state (Some Reserved) = refl
one_state (Some (Held page version)) = refl
one_state (Some Stale) = refl

-- each slot of a block is counted once
module _ (m : MapState) (die : ℕ) where
  abbrev tally : (Option Used → Bool) → ℕ → ℕ → ℕ
  tally test a n = count_by (λ slot. test (used_at m die slot)) (range_with_len a n)

  all_states : (a n : ℕ) → tally is_none a n + tally is_reserved_slot a n + tally is_held_slot a n + tally is_stale_slot a n ≡ n
  all_states a zero = refl
  all_states a (suc n) =
      let rest = all_states (a + 1) n in
      let one = one_state (used_at m die a) in
      let e = count_cons (λ slot. is_none (used_at m die slot)) a n in
      let r = count_cons (λ slot. is_reserved_slot (used_at m die slot)) a n in
      let h = count_cons (λ slot. is_held_slot (used_at m die slot)) a n in
      let s = count_cons (λ slot. is_stale_slot (used_at m die slot)) a n in
      omega (arith, rest, one, e, r, h, s)

  pub block_sum : (block : ℕ) → count_in m die block is_none + count_in m die block is_reserved_slot + count_in m die block is_held_slot
      + count_in m die block is_stale_slot ≡ m.geometry.slots
  block_sum block = all_states (block * m.geometry.slots) m.geometry.slots
