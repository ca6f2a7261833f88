-- A slot that is taken is one of its die's.
use Rattle.std.proofs.Common.{◌≡◌, ℕ, ◌*◌, ◌<◌, Bool, Option, Some, None, ap, cond, inl, inr, sym, ◌∙◌, arith}
use Rattle.std.proofs.lemmas.Bool.{cases_Bool, cond-true, lt-ltb}
use Rattle.std.proofs.lemmas.Option.{none-some}
use Rattle.std.specs.Prelude.{IfSome, nat_lt}
use Rattle.fa_machine.specs.Collecting.{is_erased_outside, move_place}
use Rattle.fa_machine.specs.Placement.{is_erased_slot, lowest_erased, room}
use Rattle.fa_machine.specs.State.{MapState}
use Rattle.fa_map_calls.specs.Changes.{writers_slot}
use Rattle.fa_map_calls.proofs.Ranges.{find_below}

pub writers_fits : (m : MapState) (die : ℕ) (slot : Option ℕ) → slot ≡ writers_slot m die → IfSome slot (λ s. s < m.geometry.blocks * m.geometry.slots)
writers_fits m die None e = tt
writers_fits m die (Some s) e =
    elim (cases_Bool (nat_lt 0 (room m die))) [
      | inl some ↦
          let found = find_below (is_erased_slot m die) 0 (m.geometry.blocks * m.geometry.slots) s
          (sym (e ∙ ap (λ (b : Bool). cond b (lowest_erased m die) None) some)) in
          omega (arith, found)
      | inr full ↦ absurd (none-some s (sym (e ∙ ap (λ (b : Bool). cond b (lowest_erased m die) None) full)))
    ]

pub outside_fits : (m : MapState) (die block : ℕ) (slot : Option ℕ) → slot ≡ move_place m die block → IfSome slot (λ s. s < m.geometry.blocks * m.geometry.slots)
outside_fits m die block None e = tt
outside_fits m die block (Some s) e =
    let found = find_below (is_erased_outside m die block) 0 (m.geometry.blocks * m.geometry.slots) s (sym e) in
    omega (arith, found)

-- where a die has room, a writer takes its lowest erased slot
pub writers_lowest : (m : MapState) (die : ℕ) → 0 < room m die → lowest_erased m die ≡ writers_slot m die
writers_lowest m die some = sym (cond-true (nat_lt 0 (room m die)) (lowest_erased m die) None (lt-ltb 0 (room m die) some))
