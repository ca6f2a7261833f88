-- What is found and counted in the lists of a plain page map is found and counted in its state.
use Rattle.std.proofs.Common.{◌≡◌, ℕ, ◌+◌, ◌*◌, ◌<◌, Bool, List, Option, ap, sym, ◌∙◌, arith}
use Rattle.std.specs.List.{find, range_with_len}
use Rattle.std.specs.Prelude.{count_by}
use Rattle.fa_machine.specs.Collecting.{count_in}
use Rattle.fa_machine.specs.Maps.{below}
use Rattle.fa_machine.specs.State.{MapState, slots_of, used_at}
use Rattle.fa_machine.specs.declared.places.Used.{Used}
use Rattle.fa_machine.specs.declared.places.Version.{Version}
use Rattle.fa_map_calls.proofs.Indices.{die_fits}
use Rattle.fa_map_calls.proofs.Ranges.{count_agree, count_shift, find_agree}
use Rattle.fa_map_calls.specs.Plain.{IsPlain, die_slots, slot_at}
use Rattle.fa_types.specs.declared.geometry.Geometry.{Geometry}

module _ (m : MapState) (g : Geometry) (on : List Bool) (count : ℕ) (versions : List (Option Version)) (table : List (Option Used))
    (plain : IsPlain m g on count versions table) where
  -- the slots of the state are those of the geometry
  slots_are : m.geometry.blocks * m.geometry.slots ≡ die_slots g
  slots_are = ap die_slots plain.geometry

  pub plain_found : (test : ℕ → Option Used → Bool) (die start n : ℕ) (t : List (Option Used)) → start ≡ die * die_slots g → n ≡ die_slots g → t ≡ table
      → find (λ slot. test slot (slot_at t (start + slot))) (below n) ≡ find (λ slot. test slot (used_at m die slot)) (slots_of m)
  plain_found test die start n t a b c =
      (λ i. find (λ slot. test slot (slot_at (c i) (a i + slot))) (below (b i)))
      ∙ find_agree (λ slot. test slot (slot_at table (die * die_slots g + slot))) (λ slot. test slot (used_at m die slot)) 0 (die_slots g)
      (λ k low high. ap (test k) (sym (plain.used die k (omega arith))))
      ∙ ap (λ k. find (λ slot. test slot (used_at m die slot)) (below k)) (sym slots_are)

  pub plain_count : (test : Option Used → Bool) (die start n : ℕ) (t : List (Option Used)) → start ≡ die * die_slots g → n ≡ die_slots g → t ≡ table
      → count_by (λ slot. test (slot_at t (start + slot))) (below n) ≡ count_by (λ slot. test (used_at m die slot)) (slots_of m)
  plain_count test die start n t a b c =
      (λ i. count_by (λ slot. test (slot_at (c i) (a i + slot))) (below (b i)))
      ∙ count_agree (λ slot. test (slot_at table (die * die_slots g + slot))) (λ slot. test (used_at m die slot)) 0 (die_slots g)
      (λ k low high. ap test (sym (plain.used die k (omega arith))))
      ∙ ap (λ k. count_by (λ slot. test (used_at m die slot)) (below k)) (sym slots_are)

  pub plain_count_in : (test : Option Used → Bool) (die block start : ℕ) (t : List (Option Used)) → block < g.blocks
      → start ≡ die * die_slots g + block * g.slots → t ≡ table
      → count_by (λ slot. test (slot_at t (start + slot))) (below g.slots) ≡ count_in m die block test
  plain_count_in test die block start t fits a c =
      let room = die_fits block g.blocks g.slots fits in
      (λ i. count_by (λ slot. test (slot_at (c i) (a i + slot))) (below g.slots))
      ∙ count_shift (λ slot. test (slot_at table (die * die_slots g + block * g.slots + slot))) (λ slot. test (used_at m die slot)) 0 (block * g.slots) g.slots
      (λ k high.
      ap test (ap (slot_at table) (omega arith) ∙ sym (plain.used die (block * g.slots + k) (omega arith))))
      ∙ ap (λ (k : Geometry). count_by (λ slot. test (used_at m die slot)) (range_with_len (block * k.slots) k.slots)) (sym plain.geometry)
