-- The sets of a page map follow an entry that is written, and what is found by them.
use Rattle.std.proofs.Common.{◌≡◌, ℕ, ◌+◌, ◌*◌, ◌/◌, ◌<◌, ◌≤◌, ◌==◌, ◌&&◌, if◌then◌else◌, Bool, true, false, List, Option, length, set, get_or, ap, cond, inl, inr, refl, sym, subst, ◌∙◌, arith}
use Rattle.std.proofs.Common.{None, Some, not, ◌%◌, ◌-◌}
use Rattle.std.proofs.lemmas.Bool.{and_from, and_left, and_parts, and_right, cases_eq, cases_lt, eq-eqb, eqb-true, false_from_ne_true, false≢true, ne_eqb}
use Rattle.std.proofs.lemmas.Option.{none-some, same_Some}
use Rattle.std.proofs.lemmas.List.{get_or-replicate, get_or-set_same, get_or-set_other, get_or_past, length-replicate}
use Rattle.std.specs.FinMap.{contains_key, insert, remove}
use Rattle.std.specs.List.{find, range_with_len}
use Rattle.std.specs.Prelude.{nat_lt, replicate}
use Rattle.fa_machine.specs.Maps.{Numbers, below}
use Rattle.std.proofs.Math.Nat.{div-eq_of_lt-le, div-mul-le_self, lt-div-mul-add, add-mul, div-add-mod, div-lt_iff_lt-mul, mod-lt, mul_comm, mul-le-mul_right}
use Rattle.fa_types.specs.declared.geometry.Geometry.{Geometry}
use Rattle.fa_map.specs.Chains.{entry_at, entry_of}
use Rattle.fa_map.specs.Entries.{is_erased_entry, may_take, no_counts}
use Rattle.fa_map_calls.specs.Blocks.{IsGreatest}
use Rattle.fa_map.specs.Found.{AreFound, IsFound, has_rank, is_clean, rank_index}
use Rattle.fa_map_calls.specs.Plain.{die_slots}
use Rattle.fa_map.specs.Sets.{Sets}
use Rattle.fa_map.specs.declared.entries.Entry.{Entry}
use Rattle.fa_map.specs.declared.entries.Entry.TheVariants.{Current, Erased, Reserved, Stale}
use Rattle.fa_map_calls.specs.declared.slots.BlockCounts.{BlockCounts}
use Rattle.fa_map_calls.proofs.Changed.{place_cases}
use Rattle.fa_map.proofs.Few.{member_put}
use Rattle.fa_map_calls.proofs.Indices.{block_of_slot, die_fits, index_apart, index_fits, later}
use Rattle.fa_map_calls.proofs.Ranges.{find_is, find_none, find_some, none_is}
use Rattle.fa_map.proofs.Tallied.{entry_same, entry_other}

-- the one entry of an erased slot
pub erased_entry_is : (e : Entry) → is_erased_entry e ≡ true → e ≡ Erased
erased_entry_is Erased is = refl
erased_entry_is Reserved is = absurd (false≢true is)
erased_entry_is (Current page) is = absurd (false≢true is)
erased_entry_is Stale is = absurd (false≢true is)

-- the parts of what is true of a finder's sets
module _ (g : Geometry) (entries : List Entry) (counts : List BlockCounts) (sets : Sets) where
  pub found_parts : IsFound g entries counts sets → (sets.slots_bound ≡ g.dies * die_slots g)
      × (sets.blocks_bound ≡ g.dies * (g.slots + 1) * g.blocks) × AreFound g entries counts (contains_key sets.slots) (contains_key sets.blocks)
  unfolding IsFound
  found_parts found = found

  pub found_whole : sets.slots_bound ≡ g.dies * die_slots g → sets.blocks_bound ≡ g.dies * (g.slots + 1) * g.blocks
      → AreFound g entries counts (contains_key sets.slots) (contains_key sets.blocks) → IsFound g entries counts sets
  unfolding IsFound
  found_whole slots blocks found = (slots, blocks, found)

  -- the same lists, told otherwise
  pub found_told : (entries' : List Entry) (counts' : List BlockCounts) → entries' ≡ entries → counts' ≡ counts → IsFound g entries counts sets
      → IsFound g entries' counts' sets
  found_told entries' counts' a b found =
      subst (λ l. IsFound g l counts' sets) (sym a) (subst (λ l. IsFound g entries l sets) (sym b) found)

module _ (g : Geometry) where
  -- two ranks of blocks that stand at one index are one
  pub rank_apart : (d r b die rank block : ℕ) → r ≤ g.slots → rank ≤ g.slots → b < g.blocks → block < g.blocks
      → rank_index g d r b ≡ rank_index g die rank block → (d ≡ die) × (r ≡ rank) × (b ≡ block)
  rank_apart d r b die rank block x y p q e =
      let outer = index_apart (d * (g.slots + 1) + r) b (die * (g.slots + 1) + rank) block g.blocks p q e in
      let inner = index_apart d r die rank (g.slots + 1) (omega (arith, x)) (omega (arith, y)) outer.0 in
      (inner.0, inner.1, outer.1)

  pub rank_fits : (die rank block : ℕ) → die < g.dies → rank ≤ g.slots → block < g.blocks
      → rank_index g die rank block < g.dies * (g.slots + 1) * g.blocks
  rank_fits die rank block low few fits =
      index_fits (die * (g.slots + 1) + rank) block (g.dies * (g.slots + 1)) g.blocks
      (index_fits die rank g.dies (g.slots + 1) low (omega (arith, few))) fits

-- of counts that were written throughout, with no stale slot
pub none_stale : (n k : ℕ) (c : BlockCounts) → c.stale ≡ 0 → (get_or (replicate n c) k no_counts).stale ≡ 0
none_stale n k c none =
    elim (cases_lt k n) [
      | inl inside ↦ ap (λ (b : BlockCounts). b.stale) (get_or-replicate n k c no_counts inside) ∙ none
      | inr past ↦ ap (λ (b : BlockCounts). b.stale) (get_or_past (replicate n c) k no_counts (subst (λ j. j ≤ k) (sym (length-replicate n c)) past))
    ]

-- a block that comes into the set of blocks, and one that goes
module _ (g : Geometry) (die block : ℕ) (fits : block < g.blocks) (c : BlockCounts) (few : c.stale ≤ g.slots) (old : Numbers) where
  abbrev spot : ℕ
  spot = rank_index g die (g.slots - c.stale) block

  off : (d r b : ℕ) → r ≤ g.slots → b < g.blocks → (d ≡ die → r ≡ g.slots - c.stale → b ≡ block → ⊥) → (rank_index g d r b == spot) ≡ false
  off d r b least inside apart =
      ne_eqb (rank_index g d r b) spot (λ is.
      let at = rank_apart g d r b die (g.slots - c.stale) block least (omega arith) inside fits is in apart at.0 at.1 at.2)

  pub added_here : is_clean c ≡ true → ((rank : ℕ) → rank ≤ g.slots → contains_key old (rank_index g die rank block) ≡ false)
      → (rank : ℕ) → rank ≤ g.slots → contains_key (insert old spot tt) (rank_index g die rank block) ≡ has_rank g.slots c rank
  added_here clean none rank least =
      member_put old spot (rank_index g die rank block) true
      ∙ elim (cases_eq rank (g.slots - c.stale)) [
        | inl is ↦
            ap (λ (b : Bool). cond b true (contains_key old (rank_index g die rank block)))
            (eq-eqb (rank_index g die rank block) spot (ap (λ r. rank_index g die r block) is))
            ∙ sym (and_from (is_clean c) (c.stale + rank == g.slots) clean (eq-eqb (c.stale + rank) g.slots (omega (arith, is, few))))
        | inr apart ↦
            ap (λ (b : Bool). cond b true (contains_key old (rank_index g die rank block))) (off die rank block least fits (λ _ is _. apart is))
            ∙ none rank least
            ∙ sym (and_right (is_clean c) (c.stale + rank == g.slots) (ne_eqb (c.stale + rank) g.slots (λ is. apart (omega (arith, is, few)))))
      ]

  pub removed_here : ((rank : ℕ) → rank ≤ g.slots → contains_key old (rank_index g die rank block) ≡ has_rank g.slots c rank)
      → (rank : ℕ) → rank ≤ g.slots → contains_key (remove old spot) (rank_index g die rank block) ≡ false
  removed_here was rank least =
      member_put old spot (rank_index g die rank block) false
      ∙ elim (cases_eq rank (g.slots - c.stale)) [
        | inl is ↦
            ap (λ (b : Bool). cond b false (contains_key old (rank_index g die rank block)))
            (eq-eqb (rank_index g die rank block) spot (ap (λ r. rank_index g die r block) is))
        | inr apart ↦
            ap (λ (b : Bool). cond b false (contains_key old (rank_index g die rank block))) (off die rank block least fits (λ _ is _. apart is))
            ∙ was rank least
            ∙ and_right (is_clean c) (c.stale + rank == g.slots) (ne_eqb (c.stale + rank) g.slots (λ is. apart (omega (arith, is, few))))
      ]

  pub added_else : (d r b : ℕ) → r ≤ g.slots → b < g.blocks → (d ≡ die → b ≡ block → ⊥)
      → contains_key (insert old spot tt) (rank_index g d r b) ≡ contains_key old (rank_index g d r b)
  added_else d r b least inside apart =
      member_put old spot (rank_index g d r b) true
      ∙ ap (λ (k : Bool). cond k true (contains_key old (rank_index g d r b))) (off d r b least inside (λ a _ c. apart a c))

  pub removed_else : (d r b : ℕ) → r ≤ g.slots → b < g.blocks → (d ≡ die → b ≡ block → ⊥)
      → contains_key (remove old spot) (rank_index g d r b) ≡ contains_key old (rank_index g d r b)
  removed_else d r b least inside apart =
      member_put old spot (rank_index g d r b) false
      ∙ ap (λ (k : Bool). cond k false (contains_key old (rank_index g d r b))) (off d r b least inside (λ a _ c. apart a c))

-- in new tables each slot is erased, and no block has stale slots
pub new_found : (g : Geometry) (entries : List Entry) (counts : List BlockCounts) (erased clean : ℕ → Bool)
    → ((k : ℕ) → entry_at entries k ≡ Erased) → ((k : ℕ) → k < g.dies * die_slots g → erased k ≡ true) → ((k : ℕ) → clean k ≡ false)
    → ((k : ℕ) → (get_or counts k no_counts).stale ≡ 0) → AreFound g entries counts erased clean
new_found g entries counts erased clean blank all none fresh = record {
  slots = λ die slot low within.
      all (die * die_slots g + slot) (index_fits die slot g.dies (die_slots g) low within)
      ∙ sym (ap is_erased_entry (blank (die * die_slots g + slot)));
  blocks = λ die rank block low few fits.
      let c = get_or counts (die * g.blocks + block) no_counts in
      none (rank_index g die rank block)
      ∙ sym (ap (λ s. (nat_lt 0 s && c.reserved == 0) && c.stale + rank == g.slots) (fresh (die * g.blocks + block)));
}

module _ (g : Geometry) (entries : List Entry) (counts : List BlockCounts) (erased clean : ℕ → Bool)
    (found : AreFound g entries counts erased clean) (die slot : ℕ) (within : slot < die_slots g)
    (fits : die * die_slots g + slot < length entries) (its_block : slot / g.slots < g.blocks)
    (block_fits : die * g.blocks + slot / g.slots < length counts) where
  abbrev n : ℕ
  n = die_slots g

  abbrev block : ℕ
  block = slot / g.slots

  pub found_set : (e : Entry) (c : BlockCounts) (erased' clean' : ℕ → Bool)
      → ((k : ℕ) → erased' k ≡ (if k == die * n + slot then is_erased_entry e else erased k))
      → ((rank : ℕ) → rank ≤ g.slots → clean' (rank_index g die rank block) ≡ has_rank g.slots c rank)
      → ((d rank b : ℕ) → rank ≤ g.slots → b < g.blocks → (d ≡ die → b ≡ block → ⊥) → clean' (rank_index g d rank b) ≡ clean (rank_index g d rank b))
      → AreFound g (set entries (die * n + slot) e) (set counts (die * g.blocks + block) c) erased' clean'
  found_set e c erased' clean' put here others = record {
    slots = λ d s low inside. put (d * n + s) ∙ elim (place_cases d s die slot) [
      | inl at ↦
          ap (λ (b : Bool). cond b (is_erased_entry e) (erased (d * n + s))) (eq-eqb (d * n + s) (die * n + slot) (λ i. at.0 i * n + at.1 i))
          ∙ sym (ap is_erased_entry (entry_same entries n die slot d s e fits at.0 at.1))
      | inr apart ↦
          ap (λ (b : Bool). cond b (is_erased_entry e) (erased (d * n + s)))
          (ne_eqb (d * n + s) (die * n + slot) (λ is. let at = index_apart d s die slot n inside within is in apart at.0 at.1))
          ∙ found.slots d s low inside ∙ sym (ap is_erased_entry (entry_other entries n die slot d s e within inside apart))
    ];
    blocks = λ d rank b low few inside. elim (place_cases d b die block) [
      | inl at ↦
          (λ i. clean' (rank_index g (at.0 i) rank (at.1 i))) ∙ here rank few
          ∙ ap (λ (k : BlockCounts). has_rank g.slots k rank) (sym (
          (λ i. get_or (set counts (die * g.blocks + block) c) (at.0 i * g.blocks + at.1 i) no_counts)
          ∙ get_or-set_same counts (die * g.blocks + block) c no_counts block_fits))
      | inr apart ↦
          others d rank b few inside apart ∙ found.blocks d rank b low few inside
          ∙ ap (λ (k : BlockCounts). has_rank g.slots k rank) (sym (get_or-set_other counts (die * g.blocks + block) (d * g.blocks + b) c no_counts
          (λ is. let at = index_apart d b die block g.blocks inside its_block is in apart at.0 at.1)))
    ];
  }

-- a block ends on its die
pub block_end : (g : Geometry) (slot block : ℕ) → slot < die_slots g → slot / g.slots ≡ block → (block + 1) * g.slots ≤ die_slots g
block_end g slot block within is =
    let some = g.within.slots_fit in
    let low = block_of_slot slot g.blocks g.slots (omega (arith, some.0)) within in
    let fits = die_fits block g.blocks g.slots (omega (arith, low, is)) in
    let end = add-mul block 1 g.slots in
    omega (arith, fits, end)

-- what the sets find
module _ (g : Geometry) (entries : List Entry) (counts : List BlockCounts) (erased clean : ℕ → Bool)
    (found : AreFound g entries counts erased clean) (die : ℕ) (low : die < g.dies) where
  abbrev size : ℕ
  size = die_slots g

  abbrev test : ℕ → Bool
  test slot = is_erased_entry (entry_of entries size die slot)

  room : die * size + size ≤ g.dies * size
  room = die_fits die g.dies size low

  module _ (from : ℕ) (least : from ≤ size) (found_at : Option ℕ)
      (is : found_at ≡ find erased (range_with_len (die * size + from) (g.dies * size - (die * size + from)))) where
    before : (slot : ℕ) → from ≤ slot → slot < size → erased (die * size + slot) ≡ false → test slot ≡ false
    before slot a b none = sym (found.slots die slot low b) ∙ none

    pub erased_at : (index : ℕ) → found_at ≡ Some index → index < die * size + size
        → find test (range_with_len from (size - from)) ≡ Some (index - die * size)
    erased_at index at inside =
        let parts = find_is erased (die * size + from) (g.dies * size - (die * size + from)) index (sym is ∙ at) in
        let here : die * size + (index - die * size) ≡ index = omega (arith, parts.0) in
        find_some test from (size - from) (index - die * size) (omega (arith, parts.0)) (omega (arith, parts.0, inside))
        (sym (found.slots die (index - die * size) low (omega (arith, parts.0, inside))) ∙ ap erased here ∙ parts.2)
        (λ slot a b. before slot a (omega (arith, b, inside, parts.0)) (parts.3 (die * size + slot) (omega (arith, a)) (omega (arith, b, parts.0))))

    pub erased_past : (index : ℕ) → found_at ≡ Some index → die * size + size ≤ index → find test (range_with_len from (size - from)) ≡ None
    erased_past index at past =
        let parts = find_is erased (die * size + from) (g.dies * size - (die * size + from)) index (sym is ∙ at) in
        find_none test from (size - from)
        (λ slot a b. before slot a (omega (arith, b, least)) (parts.3 (die * size + slot) (omega (arith, a)) (omega (arith, b, past, least))))

    pub erased_none : found_at ≡ None → find test (range_with_len from (size - from)) ≡ None
    erased_none at =
        let whole = room in
        find_none test from (size - from)
        (λ slot a b. before slot a (omega (arith, b, least)) (none_is erased (die * size + from) (g.dies * size - (die * size + from)) (die * size + slot)
        (sym is ∙ at) (omega (arith, a)) (omega (arith, b, whole, least))))

  -- the lowest erased slot outside a block
  module _ (block : ℕ) where
    abbrev slots : ℕ
    slots = g.slots

    abbrev may : ℕ → Bool
    may = may_take entries size slots die (Some block)

    pub outside_first : (slot : ℕ) → find test (range_with_len 0 (size - 0)) ≡ Some slot → (slot / slots ≡ block → ⊥)
        → find may (below size) ≡ Some slot
    outside_first slot at off =
        let parts = find_is test 0 (size - 0) slot at in
        find_some may 0 size slot (omega arith) (omega (arith, parts.1))
        (and_from (test slot) (not (slot / slots == block)) parts.2 (ap not (ne_eqb (slot / slots) block off)))
        (λ k a b. and_left (test k) (not (k / slots == block)) (parts.3 k a b))

    pub outside_none : find test (range_with_len 0 (size - 0)) ≡ None → find may (below size) ≡ None
    outside_none at = find_none may 0 size (λ k a b. and_left (test k) (not (k / slots == block)) (none_is test 0 (size - 0) k at a (omega (arith, b))))

    pub outside_later : (slot : ℕ) → 0 < slots → find test (range_with_len 0 (size - 0)) ≡ Some slot → slot / slots ≡ block
        → (block + 1) * slots ≤ size
        → (later : Option ℕ) → later ≡ find test (range_with_len ((block + 1) * slots) (size - (block + 1) * slots)) → later ≡ find may (below size)
    outside_later slot some at is fits later found_later = found_later ∙ go later (sym found_later)
      where
        parts : (0 ≤ slot) × (slot < 0 + (size - 0)) × (test slot ≡ true) × ((k : ℕ) → 0 ≤ k → k < slot → test k ≡ false)
        parts = find_is test 0 (size - 0) slot at

        end : (block + 1) * slots ≡ block * slots + slots
        end = let e = add-mul block 1 slots in omega (arith, e)

        -- below the end of the block none may be taken
        under : (k : ℕ) → k < (block + 1) * slots → may k ≡ false
        under k less =
            elim (cases_lt k slot) [
              | inl early ↦ and_left (test k) (not (k / slots == block)) (parts.3 k (omega arith) early)
              | inr late ↦
                  let start : block * slots ≤ slot = subst (λ b. b * slots ≤ slot) is (div-mul-le_self slot slots) in
                  let last = end in
                  let its : k / slots ≡ block = div-eq_of_lt-le {k = block} slots {m = k} (omega (arith, start, late)) (omega (arith, less, last)) in
                  and_right (test k) (not (k / slots == block)) (ap not (eq-eqb (k / slots) block its))
            ]

        -- and behind it all that are erased
        over : (k : ℕ) → (block + 1) * slots ≤ k → not (k / slots == block) ≡ true
        over k past = ap not (ne_eqb (k / slots) block (λ its.
            let high : k < block * slots + slots = subst (λ b. k < b * slots + slots) its (lt-div-mul-add some) in
            let last = end in omega (arith, high, last, past)))

        go : (later : Option ℕ) → find test (range_with_len ((block + 1) * slots) (size - (block + 1) * slots)) ≡ later
            → find test (range_with_len ((block + 1) * slots) (size - (block + 1) * slots)) ≡ find may (below size)
        go None e = e ∙ sym (find_none may 0 size (λ k a b. elim (cases_lt k ((block + 1) * slots)) [
          | inl early ↦ under k early
          | inr late ↦ and_left (test k) (not (k / slots == block)) (none_is test ((block + 1) * slots) (size - (block + 1) * slots) k e late (omega (arith, b, fits)))
        ]))
        go (Some k) e =
            let here = find_is test ((block + 1) * slots) (size - (block + 1) * slots) k e in
            e ∙ sym (find_some may 0 size k (omega arith) (omega (arith, here.1, fits)) (and_from (test k) (not (k / slots == block)) here.2 (over k here.0))
            (λ j a b. elim (cases_lt j ((block + 1) * slots)) [
              | inl early ↦ under j early
              | inr late ↦ and_left (test j) (not (j / slots == block)) (here.3 j late b)
            ]))

-- the block with most stale slots, of those with no reserved one
module _ (g : Geometry) (entries : List Entry) (counts : List BlockCounts) (erased clean : ℕ → Bool)
    (found : AreFound g entries counts erased clean) (die : ℕ) (low : die < g.dies) (some : 0 < g.blocks)
    (few : (block : ℕ) → block < g.blocks → (get_or counts (die * g.blocks + block) no_counts).stale ≤ g.slots) where
  abbrev count : ℕ → BlockCounts
  count block = get_or counts (die * g.blocks + block) no_counts

  abbrev first : ℕ
  first = die * (g.slots + 1) * g.blocks

  abbrev all : ℕ
  all = (g.slots + 1) * g.blocks

  abbrev rank_of : ℕ → ℕ
  rank_of block = g.slots - (count block).stale

  spelled : (rank block : ℕ) → rank_index g die rank block ≡ first + (rank * g.blocks + block)
  spelled rank block = let e = add-mul (die * (g.slots + 1)) rank g.blocks in omega (arith, e)

  in_set : (block : ℕ) → block < g.blocks → is_clean (count block) ≡ true → clean (rank_index g die (rank_of block) block) ≡ true
  in_set block fits passes =
      let most = few block fits in
      found.blocks die (rank_of block) block low (omega arith) fits
      ∙ and_from (is_clean (count block)) ((count block).stale + rank_of block == g.slots) passes
      (eq-eqb ((count block).stale + rank_of block) g.slots (omega (arith, most)))

  high : (block : ℕ) → block < g.blocks → rank_index g die (rank_of block) block < first + all
  high block fits =
      let e = spelled (rank_of block) block in
      let less = index_fits (rank_of block) block (g.slots + 1) g.blocks (omega arith) fits in
      omega (arith, e, less)

  whole : first + all ≤ g.dies * (g.slots + 1) * g.blocks
  whole =
      let rows = mul-le-mul_right {m = die * (g.slots + 1) + (g.slots + 1)} {n = g.dies * (g.slots + 1)} g.blocks (die_fits die g.dies (g.slots + 1) low) in
      let e = add-mul (die * (g.slots + 1)) (g.slots + 1) g.blocks in
      omega (arith, rows, e)

  abbrev Stalest : Option ℕ → Type 0
  Stalest found_block = IsGreatest g.blocks (λ b. is_clean (count b)) (λ b. (count b).stale) found_block

  -- no block is clean
  bare : ((block : ℕ) → block < g.blocks → clean (rank_index g die (rank_of block) block) ≡ false) → Stalest None
  bare none = record {
    inside = λ k e. absurd (none-some k e);
    most = λ k other e. absurd (none-some k e);
    lowest = λ k other e. absurd (none-some k e);
    none = λ _ other fits. false_from_ne_true (is_clean (count other)) (λ passes. false≢true (sym (none other fits) ∙ in_set other fits passes));
  }

  module _ (found_at : Option ℕ) (is : found_at ≡ find clean (range_with_len first (g.dies * (g.slots + 1) * g.blocks - first))) where
    pub stalest_none : found_at ≡ None → Stalest None
    stalest_none at = bare (λ block fits.
        let e = spelled (rank_of block) block in
        let less = high block fits in
        let room = whole in
        none_is clean first (g.dies * (g.slots + 1) * g.blocks - first) (rank_index g die (rank_of block) block) (sym is ∙ at)
        (omega (arith, e)) (omega (arith, less, room)))

    module _ (index : ℕ) (at : found_at ≡ Some index) where
      parts : (first ≤ index) × (index < first + (g.dies * (g.slots + 1) * g.blocks - first)) × (clean index ≡ true)
          × ((k : ℕ) → first ≤ k → k < index → clean k ≡ false)
      parts = find_is clean first (g.dies * (g.slots + 1) * g.blocks - first) index (sym is ∙ at)

      pub stalest_past : first + all ≤ index → Stalest None
      stalest_past past = bare (λ block fits.
          let e = spelled (rank_of block) block in
          let less = high block fits in
          parts.3 (rank_index g die (rank_of block) block) (omega (arith, e)) (omega (arith, less, past)))

      module _ (inside : index < first + all) where
        abbrev rank : ℕ
        rank = (index - first) / g.blocks

        abbrev best : ℕ
        best = (index - first) % g.blocks

        fits : best < g.blocks
        fits = mod-lt (index - first) some

        split : index ≡ first + (rank * g.blocks + best)
        split =
            let e = div-add-mod (index - first) g.blocks in
            let turned = mul_comm g.blocks rank in
            let start = parts.0 in
            omega (arith, e, turned, start)

        least : rank < g.slots + 1
        least = (div-lt_iff_lt-mul {k = g.blocks} {x = index - first} {y = g.slots + 1} some).1 (let start = parts.0 in omega (arith, start, inside))

        has : has_rank g.slots (count best) rank ≡ true
        has =
            let low_rank = least in
            sym (found.blocks die rank best low (omega (arith, low_rank)) fits) ∙ ap clean (spelled rank best ∙ sym split) ∙ parts.2

        ranked : (count best).stale + rank ≡ g.slots
        ranked = eqb-true ((count best).stale + rank) g.slots (and_parts (is_clean (count best)) ((count best).stale + rank == g.slots) has).1

        -- no clean block comes before it
        behind : (other : ℕ) → other < g.blocks → is_clean (count other) ≡ true → rank * g.blocks + best ≤ rank_of other * g.blocks + other
        behind other inner passes =
            let e = spelled (rank_of other) other in
            let here = split in
            elim (cases_lt (rank_index g die (rank_of other) other) index) [
              | inr from ↦ omega (arith, e, here, from)
              | inl early ↦ absurd (false≢true (sym (parts.3 (rank_index g die (rank_of other) other) (omega (arith, e)) early) ∙ in_set other inner passes))
            ]

        no_less : (other : ℕ) → other < g.blocks → is_clean (count other) ≡ true → rank ≤ rank_of other
        no_less other inner passes =
            elim (cases_lt (rank_of other) rank) [
              | inr from ↦ from
              | inl less ↦
                  let before = later (rank_of other) rank other best g.blocks less inner in
                  let order = behind other inner passes in absurd (omega (arith, before, order))
            ]

        pub stalest_at : Stalest (Some best)
        stalest_at = record {
          inside = λ k e. let same = same_Some best k e in (
            subst (λ b. b < g.blocks) same fits,
            ap (λ b. is_clean (count b)) (sym same)
                ∙ (and_parts (is_clean (count best)) ((count best).stale + rank == g.slots) has).0,
          );
          most = λ k other e inner passes.
              let same = ap (λ b. (count b).stale) (same_Some best k e) in
              let order = no_less other inner passes in let top = ranked in let more = few other inner in
              omega (arith, same, order, top, more);
          lowest = λ k other e less passes.
              let is_block = same_Some best k e in
              let same = ap (λ b. (count b).stale) is_block in
              let room = fits in
              let inner : other < g.blocks = omega (arith, less, is_block, room) in
              let order = no_less other inner passes in let top = ranked in let more = few other inner in
              elim (cases_eq rank (rank_of other)) [
                | inr apart ↦ omega (arith, same, order, top, more, apart)
                | inl even ↦
                    let rows = ap (λ r. r * g.blocks) even in
                    let after = behind other inner passes in absurd (omega (arith, rows, after, less, is_block))
              ];
          none = λ e. absurd (none-some best (sym e));
        }

-- a block of the greatest weight by another telling of its test and its weight
pub greatest_told : (bound : ℕ) (p q : ℕ → Bool) (v w : ℕ → ℕ) (found : Option ℕ) → ((k : ℕ) → k < bound → p k ≡ q k)
    → ((k : ℕ) → k < bound → v k ≡ w k) → IsGreatest bound p v found → IsGreatest bound q w found
greatest_told bound p q v w found tests weights is = record {
  inside = λ k at. let old = is.inside k at in (old.0, sym (tests k old.0) ∙ old.1);
  most = λ k other at low passes.
      let old = is.most k other at low (tests other low ∙ passes) in
      let a = weights other low in let b = weights k (is.inside k at).0 in omega (arith, old, a, b);
  lowest = λ k other at less passes.
      let top = (is.inside k at).0 in
      let low : other < bound = omega (arith, less, top) in
      let old = is.lowest k other at less (tests other low ∙ passes) in
      let a = weights other low in let b = weights k top in omega (arith, old, a, b);
  none = λ at other low. sym (tests other low) ∙ is.none at other low;
}
