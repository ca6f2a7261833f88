use Rattle.fa_machine.specs.Looks.{next_thin}
use Rattle.fa_machine.specs.Placement.{copy_place, is_thin}
use Rattle.fa_machine.specs.State.{MapState}
use Rattle.fa_map_calls.proofs.Ranges.{find_none, find_some}
use Rattle.std.proofs.Common.{Bool, None, Some, ap, arith, false, inl, inr, sym, true, ℕ, ◌+◌, ◌<◌, ◌≡◌, ◌≤◌, ◌∙◌}
use Rattle.std.proofs.lemmas.Bool.{and_from, and_right, cases_lt}
use Rattle.std.specs.Prelude.{is_some, option_and_then, option_map, ◌&&◌}
use Rattle.fa_mirror.proofs.thin.next_placed.Goals as goal

module _ (copies : ℕ) (m : MapState) where
  abbrev goes : ℕ → Bool
  goes page = is_thin copies m page && is_some (copy_place copies m page)

  before_more : (from page : ℕ) → ((k : ℕ) → k < from → goes k ≡ false) → ((k : ℕ) → from ≤ k → k < page → is_thin copies m k ≡ false)
      → (k : ℕ) → k < page → goes k ≡ false
  before_more from page before thin k low =
      elim (cases_lt k from) [
        | inl earlier ↦ before k earlier
        | inr later ↦ ap (λ b. b && is_some (copy_place copies m k)) (thin k later low)
      ]

  one_more : (page : ℕ) → ((k : ℕ) → k < page → goes k ≡ false) → copy_place copies m page ≡ None → (k : ℕ) → k < page + 1 → goes k ≡ false
  one_more page before none k low =
      elim (cases_lt k page) [
        | inl earlier ↦ before k earlier
        | inr here ↦
            let same : k ≡ page = omega (arith, low, here) in
            ap goes same ∙ and_right (is_thin copies m page) (is_some (copy_place copies m page)) (ap is_some none)
      ]

  first_goes : (page die : ℕ) → page < m.geometry.pages → ((k : ℕ) → k < page → goes k ≡ false) → is_thin copies m page ≡ true
      → copy_place copies m page ≡ Some die → next_thin copies m ≡ Some (page, die)
  first_goes page die low before thin place =
      ap (λ o. option_and_then (λ p. option_map (λ d. (p, d)) (copy_place copies m p)) o)
      (find_some goes 0 m.geometry.pages page (omega arith) (omega (arith, low))
      (and_from (is_thin copies m page) (is_some (copy_place copies m page)) thin (ap is_some place)) (λ k from high. before k high))
      ∙ ap (λ o. option_map (λ d. (page, d)) o) place

  none_goes : ((k : ℕ) → k < m.geometry.pages → goes k ≡ false) → next_thin copies m ≡ None
  none_goes none =
      ap (λ o. option_and_then (λ p. option_map (λ d. (p, d)) (copy_place copies m p)) o)
      (find_none goes 0 m.geometry.pages (λ k low high. none k (omega (arith, high))))

pub loop-page-preserved : goal.loop-page-preserved
loop-page-preserved g c =
    let m = g.M.Map.view c.args.map.now in
    let copies = c.args.copies.number in
    one_more copies m c.in-Some.page.0
    (before_more copies m c.loop-page.from.0 c.in-Some.page.0 c.loop-page.invariant (c.in-Some.ensures).3)
    (sym (c.in_default-copy_place.ensures))

pub returns-in-Some-copy_place : goal.returns-in-Some-copy_place
returns-in-Some-copy_place g c =
    let m = g.M.Map.view c.args.map.now in
    let copies = c.args.copies.number in
    let first = c.in-Some.ensures in
    sym (first_goes copies m c.in-Some.page.0 c.in-Some-copy_place.die.0 first.1
    (before_more copies m c.loop-page.from.0 c.in-Some.page.0 c.loop-page.invariant first.3) first.2
    (sym (c.in-Some-copy_place.ensures)))

pub returns : goal.returns
returns g c =
    let m = g.M.Map.view c.args.map.now in
    let copies = c.args.copies.number in
    sym (none_goes copies m (before_more copies m c.loop-page.from.0 m.geometry.pages c.loop-page.invariant (c.in_default.ensures)))
