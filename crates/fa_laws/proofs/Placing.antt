-- Where writes go, of states that are told by lists.
use Rattle.fa_laws.proofs.Listed.{len_listed}
use Rattle.fa_machine.proofs.Maps.{nat_same}
use Rattle.fa_laws.proofs.Table.{Ordered, Table, core_of}
use Rattle.fa_laws.proofs.Tabled.{at_number}
use Rattle.fa_machine.specs.Maps.{below, place_cmp}
use Rattle.fa_machine.specs.Placement.{copies_asked, has_room, lowest_erased, order_of, targets}
use Rattle.fa_machine.specs.State.{MapState, slots_of}
use Rattle.fa_types.specs.declared.geometry.Geometry.{Geometry}
use Rattle.std.proofs.Common.{Bool, List, Option, length, take, ℕ, ◌-◌, ◌≡◌}
use Rattle.std.specs.Cmp.{nat_cmp_total}
use Rattle.std.specs.FinMap.{find as find_entry, get-from_sorted}
use Rattle.std.specs.Ordering.{nat_cmp}
use Rattle.std.specs.Prelude.{count_by, filter, find, is_none, is_some, min, nat_lt, ◌&&◌, ◌*◌}

module _ (g : Geometry) where
  abbrev pub room_in : Table → ℕ → Bool
  room_in t die =
      is_some (at_number die t.live)
      && nat_lt 0 (count_by (λ slot. is_none (find_entry place_cmp (die, slot) t.used)) (below (g.blocks * g.slots)) - g.slots)

  abbrev pub targets_in : Table → ℕ → List ℕ
  targets_in t page = take (min t.copies (length t.live)) (filter (room_in t) (order_of t.copies (core_of g t).page_map page))

  abbrev pub erased_in : Table → ℕ → Option ℕ
  erased_in t die = find (λ slot. is_none (find_entry place_cmp (die, slot) t.used)) (below (g.blocks * g.slots))

  module _ (t : Table) (o : Ordered t) where
    abbrev m : MapState
    m = (core_of g t).page_map

    pub asked_same : copies_asked t.copies m ≡ min t.copies (length t.live)
    asked_same = λ i. min t.copies (len_listed nat_cmp_total nat_same t.live o.live i)

    pub room_same : (die : ℕ) → has_room m die ≡ room_in t die
    room_same die = λ i. is_some (get-from_sorted nat_cmp t.live die o.live i)
        && nat_lt 0 (count_by (λ slot. is_none (get-from_sorted place_cmp t.used (die, slot) o.used i)) (slots_of m) - g.slots)

    pub targets_same : (page : ℕ) → targets t.copies m page ≡ targets_in t page
    targets_same page = λ i. take (asked_same i) (filter (λ die. room_same die i) (order_of t.copies (core_of g t).page_map page))

    pub erased_same : (die : ℕ) → lowest_erased m die ≡ erased_in t die
    erased_same die = λ i. find (λ slot. is_none (get-from_sorted place_cmp t.used (die, slot) o.used i)) (slots_of m)
