-- The counts follow an entry that is written.
use Rattle.std.proofs.Common.{◌≡◌, ℕ, ◌+◌, ◌*◌, ◌/◌, ◌<◌, ◌≤◌, true, List, length, get_or, set, ap, inl, inr, refl, sym, subst, ◌∙◌, arith}
use Rattle.std.proofs.lemmas.Bool.{cases_eq}
use Rattle.std.proofs.lemmas.List.{get_or-set_same, get_or-set_other, length-set}
use Rattle.std.proofs.Math.Nat.{div-lt_iff_lt-mul, div-mul-le_self, lt-div-mul-add, div-eq_of_lt-le}
use Rattle.fa_types.specs.declared.geometry.Geometry.{Geometry}
use Rattle.fa_map.specs.Chains.{entry_of}
use Rattle.fa_map.specs.Entries.{AreTallied, count_of, entries_in, is_same_state, no_counts, one_if, state_of_entry}
use Rattle.fa_map_calls.specs.Plain.{die_slots}
use Rattle.fa_map.specs.declared.entries.Entry.{Entry}
use Rattle.fa_map.specs.declared.entries.Entry.TheVariants.{Erased}
use Rattle.fa_map_calls.specs.declared.slots.BlockCounts.{BlockCounts}
use Rattle.fa_map_calls.specs.declared.slots.SlotState.{SlotState}
use Rattle.fa_map_calls.specs.declared.slots.SlotState.TheVariants as states
use Rattle.fa_map_calls.proofs.Changed.{place_cases}
use Rattle.fa_map_calls.proofs.Indices.{block_of_slot, die_fits, index_apart, index_fits}
use Rattle.fa_map_calls.proofs.Ranges.{bit, count_agree, count_changed, count_le, count_some}

pub same_itself : (x : SlotState) → is_same_state x x ≡ true
same_itself states.Erased = refl
same_itself states.Reserved = refl
same_itself states.Current = refl
same_itself states.Stale = refl

-- where a slot lies in its block
pub block_low : (slot slots : ℕ) → slot / slots * slots ≤ slot
block_low slot slots = div-mul-le_self slot slots

pub block_high : (slot slots : ℕ) → 0 < slots → slot < slot / slots * slots + slots
block_high slot slots some = lt-div-mul-add some

-- an entry that was written, and the others
pub entry_same : (entries : List Entry) (n die slot d s : ℕ) (e : Entry) → die * n + slot < length entries → d ≡ die → s ≡ slot
    → entry_of (set entries (die * n + slot) e) n d s ≡ e
entry_same entries n die slot d s e fits a b = (λ i. entry_of (set entries (die * n + slot) e) n (a i) (b i)) ∙ get_or-set_same entries (die * n + slot) e Erased fits

pub entry_other : (entries : List Entry) (n die slot d s : ℕ) (e : Entry) → slot < n → s < n → (d ≡ die → s ≡ slot → ⊥)
    → entry_of (set entries (die * n + slot) e) n d s ≡ entry_of entries n d s
entry_other entries n die slot d s e a b apart =
    get_or-set_other entries (die * n + slot) (d * n + s) e Erased (λ k. let at = index_apart d s die slot n b a k in apart at.0 at.1)

module _ (g : Geometry) (entries : List Entry) (counts : List BlockCounts) (erased : List ℕ) (tallied : AreTallied g entries counts erased)
    (die slot : ℕ) (low : die < g.dies) (within : slot < die_slots g) where
  abbrev from : SlotState
  from = state_of_entry (entry_of entries (die_slots g) die slot)

  some_slots : 0 < g.slots
  some_slots = let few = g.within.slots_fit in omega (arith, few.0)

  pub its_block : slot / g.slots < g.blocks
  its_block = block_of_slot slot g.blocks g.slots some_slots within

  pub tally_some : 0 < count_of from (get_or counts (die * g.blocks + slot / g.slots) no_counts)
  tally_some =
      let some = count_some (λ s. is_same_state (state_of_entry (entry_of entries (die_slots g) die s)) from) (slot / g.slots * g.slots) g.slots slot
      (block_low slot g.slots) (block_high slot g.slots some_slots) (same_itself from) in
      subst (λ k. 0 < k) (sym (tallied.counted die (slot / g.slots) from low its_block)) some

  pub tally_few : (x : SlotState) → count_of x (get_or counts (die * g.blocks + slot / g.slots) no_counts) ≤ g.slots
  tally_few x =
      let few = count_le (λ s. is_same_state (state_of_entry (entry_of entries (die_slots g) die s)) x) (slot / g.slots * g.slots) g.slots in
      subst (λ k. k ≤ g.slots) (sym (tallied.counted die (slot / g.slots) x low its_block)) few

  pub free_some : is_same_state from states.Erased ≡ true → 0 < get_or erased die 0
  free_some is =
      let some = count_some (λ s. is_same_state (state_of_entry (entry_of entries (die_slots g) die s)) states.Erased) 0 (die_slots g) slot
      (omega arith) (omega arith) is in
      subst (λ k. 0 < k) (sym (tallied.free die low)) some

  pub free_few : get_or erased die 0 ≤ die_slots g
  free_few =
      let few = count_le (λ s. is_same_state (state_of_entry (entry_of entries (die_slots g) die s)) states.Erased) 0 (die_slots g) in
      subst (λ k. k ≤ die_slots g) (sym (tallied.free die low)) few

  pub tallied_set : (e : Entry) (c : BlockCounts) (n : ℕ)
      → ((x : SlotState) → count_of x c + one_if (is_same_state from x)
      ≡ count_of x (get_or counts (die * g.blocks + slot / g.slots) no_counts) + one_if (is_same_state (state_of_entry e) x))
      → n + one_if (is_same_state from states.Erased) ≡ get_or erased die 0 + one_if (is_same_state (state_of_entry e) states.Erased)
      → AreTallied g (set entries (die * die_slots g + slot) e) (set counts (die * g.blocks + slot / g.slots) c) (set erased die n)
  tallied_set e c n moves shifts = record {
    slots = length-set entries (die * die_slots g + slot) e ∙ tallied.slots;
    blocks = length-set counts (die * g.blocks + slot / g.slots) c ∙ tallied.blocks;
    dies = length-set erased die n ∙ tallied.dies;
    counted = λ d b x lower fits. elim (place_cases d b die (slot / g.slots)) [
      | inl at ↦
          (λ i. count_of x (get_or (set counts (die * g.blocks + slot / g.slots) c) (at.0 i * g.blocks + at.1 i) no_counts))
          ∙ ap (count_of x) (get_or-set_same counts (die * g.blocks + slot / g.slots) c no_counts (subst (λ k. die * g.blocks + slot / g.slots < k) (sym tallied.blocks) (index_fits die (slot / g.slots) g.dies g.blocks low its_block)))
          ∙ changed_here x
          ∙ (λ i. entries_in (set entries (die * die_slots g + slot) e) (die_slots g) (sym at.0 i) (sym at.1 i * g.slots) g.slots x)
      | inr apart ↦
          ap (count_of x) (get_or-set_other counts (die * g.blocks + slot / g.slots) (d * g.blocks + b) c no_counts
          (λ k. let at = index_apart d b die (slot / g.slots) g.blocks fits its_block k in apart at.0 at.1))
          ∙ tallied.counted d b x lower fits ∙ same_there d b x fits apart
    ];
    free = λ d lower. elim (cases_eq d die) [
      | inl at ↦
          (λ i. get_or (set erased die n) (at i) 0) ∙ get_or-set_same erased die n 0 (subst (λ k. die < k) (sym tallied.dies) low)
          ∙ free_here ∙ (λ i. entries_in (set entries (die * die_slots g + slot) e) (die_slots g) (sym at i) 0 (die_slots g) states.Erased)
      | inr apart ↦
          get_or-set_other erased die d n 0 apart ∙ tallied.free d lower
          ∙ count_agree (λ s. is_same_state (state_of_entry (entry_of entries (die_slots g) d s)) states.Erased)
          (λ s. is_same_state (state_of_entry (entry_of (set entries (die * die_slots g + slot) e) (die_slots g) d s)) states.Erased) 0 (die_slots g)
          (λ s a b. ap (λ (k : Entry). is_same_state (state_of_entry k) states.Erased) (sym (entry_other entries (die_slots g) die slot d s e within (omega arith) (λ k _. apart k))))
    ];
  }
    where
      fits_all : die * die_slots g + slot < length entries
      fits_all = subst (λ k. die * die_slots g + slot < k) (sym tallied.slots) (index_fits die slot g.dies (die_slots g) low within)

      block_room : slot / g.slots * g.slots + g.slots ≤ die_slots g
      block_room = die_fits (slot / g.slots) g.blocks g.slots its_block

      over_block : (d b : ℕ) → b < g.blocks → b * g.slots + g.slots ≤ die_slots g
      over_block d b fits = die_fits b g.blocks g.slots fits

      -- a slot of a block has its number
      off : (b s : ℕ) → b * g.slots ≤ s → s < b * g.slots + g.slots → s ≡ slot → b ≡ slot / g.slots
      off b s a k q =
          let is : s / g.slots ≡ b = div-eq_of_lt-le {k = b} g.slots {m = s} a (omega (arith, k)) in
          sym is ∙ ap (λ k. k / g.slots) q

      changed_here : (x : SlotState) → count_of x c ≡ entries_in (set entries (die * die_slots g + slot) e) (die_slots g) die (slot / g.slots * g.slots) g.slots x
      changed_here x =
          let f = λ (s : ℕ). is_same_state (state_of_entry (entry_of entries (die_slots g) die s)) x in
          let h = λ (s : ℕ). is_same_state (state_of_entry (entry_of (set entries (die * die_slots g + slot) e) (die_slots g) die s)) x in
          let room = block_room in
          let change = count_changed f h (slot / g.slots * g.slots) g.slots slot (block_low slot g.slots) (block_high slot g.slots some_slots)
          (λ s a b off. ap (λ (k : Entry). is_same_state (state_of_entry k) x) (sym (entry_other entries (die_slots g) die slot die s e within (omega (arith, b, room)) (λ _ k. off k)))) in
          let now = ap (λ (k : Entry). bit (is_same_state (state_of_entry k) x)) (entry_same entries (die_slots g) die slot die slot e fits_all refl refl) in
          let old = tallied.counted die (slot / g.slots) x low its_block in
          let move = moves x in
          omega (arith, change, now, old, move)

      same_there : (d b : ℕ) (x : SlotState) → b < g.blocks → (d ≡ die → b ≡ slot / g.slots → ⊥)
          → entries_in entries (die_slots g) d (b * g.slots) g.slots x ≡ entries_in (set entries (die * die_slots g + slot) e) (die_slots g) d (b * g.slots) g.slots x
      same_there d b x fits apart =
          let room = over_block d b fits in
          count_agree (λ s. is_same_state (state_of_entry (entry_of entries (die_slots g) d s)) x)
          (λ s. is_same_state (state_of_entry (entry_of (set entries (die * die_slots g + slot) e) (die_slots g) d s)) x) (b * g.slots) g.slots
          (λ s a k. ap (λ (k : Entry). is_same_state (state_of_entry k) x)
          (sym (entry_other entries (die_slots g) die slot d s e within (omega (arith, k, room)) (λ p q. apart p (off b s a k q)))))

      free_here : n ≡ entries_in (set entries (die * die_slots g + slot) e) (die_slots g) die 0 (die_slots g) states.Erased
      free_here =
          let f = λ (s : ℕ). is_same_state (state_of_entry (entry_of entries (die_slots g) die s)) states.Erased in
          let h = λ (s : ℕ). is_same_state (state_of_entry (entry_of (set entries (die * die_slots g + slot) e) (die_slots g) die s)) states.Erased in
          let change = count_changed f h 0 (die_slots g) slot (omega arith) (omega arith)
          (λ s a b off. ap (λ (k : Entry). is_same_state (state_of_entry k) states.Erased) (sym (entry_other entries (die_slots g) die slot die s e within (omega arith) (λ _ k. off k)))) in
          let now = ap (λ (k : Entry). bit (is_same_state (state_of_entry k) states.Erased)) (entry_same entries (die_slots g) die slot die slot e fits_all refl refl) in
          let old = tallied.free die low in
          omega (arith, change, now, old, shifts)

-- the counts of a block of which an entry was written are within its slots
module _ (g : Geometry) (entries : List Entry) (counts : List BlockCounts) (erased : List ℕ) (tallied : AreTallied g entries counts erased)
    (die slot : ℕ) (low : die < g.dies) (within : slot < die_slots g) where
  pub set_few : (e : Entry) (c : BlockCounts) (n : ℕ)
      → AreTallied g (set entries (die * die_slots g + slot) e) (set counts (die * g.blocks + slot / g.slots) c) (set erased die n)
      → (x : SlotState) → count_of x c ≤ g.slots
  set_few e c n after x =
      let its = its_block g entries counts erased tallied die slot low within in
      let here = get_or-set_same counts (die * g.blocks + slot / g.slots) c no_counts
      (subst (λ k. die * g.blocks + slot / g.slots < k) (sym tallied.blocks) (index_fits die (slot / g.slots) g.dies g.blocks low its)) in
      let few = count_le (λ s. is_same_state (state_of_entry (entry_of (set entries (die * die_slots g + slot) e) (die_slots g) die s)) x)
      (slot / g.slots * g.slots) g.slots in
      subst (λ k. k ≤ g.slots) (sym (sym (ap (count_of x) here) ∙ after.counted die (slot / g.slots) x low its)) few
