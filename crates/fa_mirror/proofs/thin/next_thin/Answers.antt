use Rattle.fa_machine.specs.Looks.{next_thin}
use Rattle.fa_machine.specs.Maps.{below}
use Rattle.fa_machine.specs.Placement.{copy_place, has_room, is_thin, order_of}
use Rattle.fa_machine.specs.Copies.{holds_page}
use Rattle.fa_machine.specs.State.{MapState}
use Rattle.fa_map_calls.proofs.Ranges.{find_none}
use Rattle.std.proofs.Common.{Bool, List, None, [], ◌∷◌, Some, ap, cond, false, not, refl, sym, ℕ, ◌≡◌, ◌∙◌}
use Rattle.std.proofs.lemmas.Bool.{and_right}
use Rattle.std.specs.List.{find}
use Rattle.std.specs.Prelude.{is_some, option_and_then, option_map, ◌&&◌}
use Rattle.fa_mirror.proofs.thin.next_thin.Goals as goal

none_passes : (test : ℕ → Bool) (xs : List ℕ) → ((k : ℕ) → test k ≡ false) → find test xs ≡ None
none_passes test [] none = refl
none_passes test (x ∷ xs) none = ap (λ (b : Bool). cond b (Some x) (find test xs)) (none x) ∙ none_passes test xs none

module _ (copies : ℕ) (m : MapState) (full : (die : ℕ) → has_room m die ≡ false) where
  no_place : (page : ℕ) → copy_place copies m page ≡ None
  no_place page =
      none_passes (λ die. has_room m die && not (holds_page m page die)) (order_of copies m page)
      (λ die. ap (λ (b : Bool). b && not (holds_page m page die)) (full die))

  none_goes : next_thin copies m ≡ None
  none_goes =
      ap (λ o. option_and_then (λ p. option_map (λ d. (p, d)) (copy_place copies m p)) o)
      (find_none (λ page. is_thin copies m page && is_some (copy_place copies m page)) 0 m.geometry.pages
      (λ page low high. and_right (is_thin copies m page) (is_some (copy_place copies m page)) (ap is_some (no_place page))))

pub returns-else-has_any_room : goal.returns-else-has_any_room
returns-else-has_any_room g c =
    let m = g.M.Map.view c.args.map.now in
    sym (none_goes c.args.copies.number m (c.has_any_room.ensures.none c.if-has_any_room.false))
