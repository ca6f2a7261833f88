-- The die that one more copy goes to.
use Rattle.fa_map_calls.specs.Slots.{IsPageMap}
use Rattle.fa_machine.specs.Copies.{holds_page}
use Rattle.fa_machine.specs.Placement.{copy_place, has_room, order_of, room}
use Rattle.fa_machine.specs.State.{MapState, is_live}
use Rattle.fa_mirror.specs.Chosen.{TakesWrites}
use Rattle.std.proofs.Common.{Bool, List, None, Some, [], ap, cond, false, refl, sym, true, ℕ, ◌∙◌, ◌∷◌, ◌≡◌}
use Rattle.std.proofs.lemmas.Bool.{and_parts}
use Rattle.std.proofs.lemmas.Option.{none-some, same_Some}
use Rattle.std.specs.Prelude.{find, nat_lt, not, ◌&&◌}

-- what is found passes
find_is : {X : Type 0} (p : X → Bool) (xs : List X) (x : X) → find p xs ≡ Some x → p x ≡ true
find_is p [] x is = absurd (none-some x is)
find_is {X} p (y ∷ xs) x is = go (p y) refl is (λ found. find_is p xs x found)
  where
    go : (b : Bool) → p y ≡ b → cond b (Some y) (find p xs) ≡ Some x → (find p xs ≡ Some x → p x ≡ true) → p x ≡ true
    go true passes found rest = ap p (sym (same_Some y x found)) ∙ passes
    go false fails found rest = rest found

pub takes_writes : (m : MapState) → IsPageMap m → (copies page die : ℕ) → copy_place copies m page ≡ Some die → TakesWrites m die
takes_writes m whole copies page die is =
    let has = (and_parts (has_room m die) (not (holds_page m page die))
    (find_is (λ d. has_room m d && not (holds_page m page d)) (order_of copies m page) die is)).0 in
    let live = (and_parts (is_live m die) (nat_lt 0 (room m die)) has).0 in
    record { inside = whole.live die live; live = live; room = has }
