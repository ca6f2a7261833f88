use Rattle.std.proofs.Common.{◌≡◌, ℕ, ◌+◌, ◌-◌, ◌<◌, ◌≤◌, inl, inr, List, length, map, get_or, refl, arith, ap, ◌∙◌}
use Rattle.std.proofs.lemmas.Bool.{cases_lt, false≢true}
use Rattle.std.proofs.lemmas.List.{length-map, get_or-map}
use Rattle.fa_types.specs.declared.numbers.Die.{Die}
use Rattle.fa_texts.proofs.batch_print.are_rising.Goals as goal

-- the numbers of dies side by side
abbrev number_at : List Die → ℕ → ℕ
number_at dies i = get_or (map (λ d. d.0) dies) i 0

abbrev none : Die
none = record { 0 = 0 }

side_by_side : (dies : List Die) (i : ℕ) → 1 ≤ i → i < length dies
    → (number_at dies (i - 1) ≡ (get_or dies (i - 1) none).0) × (number_at dies (i - 1 + 1) ≡ (get_or dies i none).0)
side_by_side dies i some below = (
  get_or-map (λ d. d.0) dies (i - 1) none 0 (omega (arith, below)),
  (let back : i - 1 + 1 ≡ i = omega (arith, some) in ap (λ n. number_at dies n) back ∙ get_or-map (λ d. d.0) dies i none 0 below),
)

pub loop-index-init : goal.loop-index-init
loop-index-init c = λ k low. absurd (omega (arith, low))

pub returns-then-dies-index : goal.returns-then-dies-index
returns-then-dies-index c =
    let dies = c.args.dies.now in
    let i : ℕ = c.loop-index.index in
    let below = c.loop-index-test.true in
    let size = length-map dies (λ (d : Die). d.0) in
    let numbers = side_by_side dies i c.loop-index.auto.index below in (
      λ no. absurd (false≢true no),
      λ rise. absurd (let up = rise (i - 1) (omega (arith, size, below, c.loop-index.auto.index)) in let no : ⊥ = omega (arith, up, numbers.0, numbers.1, c.if-dies-index.true) in no),
    )

pub loop-index-preserved : goal.loop-index-preserved
loop-index-preserved c = λ k low.
    let dies = c.args.dies.now in
    let i : ℕ = c.loop-index.index in
    elim (cases_lt (k + 1) i) [
      | inl less ↦ c.loop-index.invariant k less
      | inr here ↦ (let at : k ≡ i - 1 = omega (arith, here, low) in
          let numbers = side_by_side dies i c.loop-index.auto.index c.loop-index-test.true in
          let first = ap (λ n. number_at dies n) at in
          let second = ap (λ n. number_at dies (n + 1)) at in
          omega (arith, first, second, numbers.0, numbers.1, c.if-dies-index.false))
    ]

pub returns : goal.returns
returns c =
    let size = length-map c.args.dies.now (λ (d : Die). d.0) in
    (λ holds k low. c.loop-index.invariant k (omega (arith, low, size)), λ rise. refl)
