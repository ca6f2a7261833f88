use Rattle.fa_core.proofs.Rising.{number_at, rising_distinct}
use Rattle.std.proofs.Common.{ap, inl, inr, ◌-◌, ◌<◌, ◌+◌, ◌≡◌, arith}
use Rattle.std.proofs.lemmas.Bool.{cases_eq, cases_lt}
use Rattle.fa_core.proofs.distinct.is_rising.Goals as goal

pub loop-i-init : goal.loop-i-init
loop-i-init c = λ j k less inside. absurd (omega (arith, less, inside))

pub loop-i-preserved : goal.loop-i-preserved
loop-i-preserved c = λ j k less inside.
    let pages = c.args.pages.now in
    let i = c.loop-i.i in
    elim (cases_lt k i) [
      | inl early ↦ c.loop-i.invariant j k less early
      | inr late ↦
          let is : k ≡ i = omega (arith, late, inside) in
          let here = ap (number_at pages) is in
          let top : number_at pages (i - 1) < number_at pages i = c.if-pages-i.false in
          elim (cases_eq j (i - 1)) [
            | inl same ↦ let there = ap (number_at pages) same in omega (arith, here, there, top)
            | inr apart ↦
                let under = c.loop-i.invariant j (i - 1) (omega (arith, less, is, apart)) (omega (arith, less, is)) in
                omega (arith, here, under, top)
          ]
    ]

pub returns : goal.returns
returns c = λ is. rising_distinct c.args.pages.now (λ j k less inside. c.loop-i.invariant j k less (omega (arith, inside)))
