-- What is true of the dies that a write goes to: each is live and has room, and none is named twice.
use Rattle.fa_machine.proofs.Lists.{among-filter, among-take, tally-filter-le, tally-take-le}
use Rattle.fa_machine.proofs.Orders.{order_once}
use Rattle.fa_machine.specs.Among.{Among, tally}
use Rattle.fa_machine.specs.Placement.{copies_asked, has_room, order_of, targets}
use Rattle.fa_machine.specs.State.{MapState, is_live}
use Rattle.fa_map_calls.specs.Slots.{IsPageMap}
use Rattle.fa_mirror.specs.Chosen.{AreApart, TakesWrites}
use Rattle.fa_mirror.specs.Order.{numbers_of}
use Rattle.fa_types.specs.declared.numbers.Die.{Die}
use Rattle.std.proofs.Common.{List, [], arith, get_or, inl, inr, length, refl, subst, suc, sym, true, zero, ℕ, ◌-◌, ◌<◌, ◌∷◌, ◌≡◌, ◌≤◌, ◌⊎◌}
use Rattle.std.proofs.lemmas.Bool.{and_parts, cases_eq}
use Rattle.std.specs.List.{All}
use Rattle.std.specs.Prelude.{filter, ◌==◌}

two_or_three : (copies : ℕ) → 2 ≤ copies → copies ≤ 3 → (copies ≡ 2) ⊎ (copies ≡ 3)
two_or_three copies low high =
    elim (cases_eq copies 2) [
      | inl two ↦ inl two
      | inr apart ↦ inr (omega (arith, apart, low, high))
    ]

module _ (copies : ℕ) (m : MapState) (page : ℕ) where
  pub target_has_room : (die : ℕ) → Among die (targets copies m page) → has_room m die ≡ true
  target_has_room die among =
      (among-filter (has_room m) die (order_of copies m page)
      (among-take (copies_asked copies m) die (filter (has_room m) (order_of copies m page)) among)).1

  pub target_is_live : (die : ℕ) → Among die (targets copies m page) → is_live m die ≡ true
  target_is_live die among = (and_parts (is_live m die) _ (target_has_room die among)).0

  pub target_is_die : IsPageMap m → (die : ℕ) → Among die (targets copies m page) → die < m.geometry.dies
  target_is_die whole die among = whole.live die (target_is_live die among)

  pub targets_once : 2 ≤ copies → copies ≤ 3 → copies ≤ m.geometry.dies - m.geometry.spares → (die : ℕ)
      → tally (λ d. d == die) (targets copies m page) ≤ 1
  targets_once low high enough die =
      let a = tally-take-le (λ (d : ℕ). d == die) (copies_asked copies m) (filter (has_room m) (order_of copies m page)) in
      let b = tally-filter-le (λ (d : ℕ). d == die) (has_room m) (order_of copies m page) in
      let c = order_once copies m (two_or_three copies low high) enough page die in
      omega (arith, a, b, c)

among_at : (dies : List Die) (k : ℕ) (d : Die) → k < length dies → Among (get_or dies k d).0 (numbers_of dies)
among_at [] k d low = absurd (omega arith)
among_at (die ∷ dies) zero d low = inl refl
among_at (die ∷ dies) (suc k) d low = inr (among_at dies k d (omega arith))

-- the dies of a list with these numbers
module _ (copies : ℕ) (m : MapState) (page : ℕ) (dies : List Die) (is : numbers_of dies ≡ targets copies m page) where
  pub each_takes : IsPageMap m → All (λ (die : Die). TakesWrites m die.0) dies
  each_takes whole = λ k d low.
      let among = subst (λ xs. Among (get_or dies k d).0 xs) is (among_at dies k d low) in
      record {
        inside = target_is_die copies m page whole (get_or dies k d).0 among;
        live = target_is_live copies m page (get_or dies k d).0 among;
        room = target_has_room copies m page (get_or dies k d).0 among;
      }

  pub all_apart : 2 ≤ copies → copies ≤ 3 → copies ≤ m.geometry.dies - m.geometry.spares → AreApart (numbers_of dies)
  all_apart low high enough = subst AreApart (sym is) (targets_once copies m page low high enough)
