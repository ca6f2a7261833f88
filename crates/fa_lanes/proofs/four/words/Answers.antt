use Rattle.std.proofs.Common.{◌≡◌, ℕ, ◌%◌, ◌^◌, ◌<◌, ◌∙◌, arith}
use Rattle.fa_lanes.proofs.WideLanes.{each_wide_lane}
use Rattle.fa_lanes.proofs.four.words.Goals as goal

small : (n : ℕ) → n < 2 ^ 32 → n % 2 ^ 32 ≡ n
small n fits = omega (arith, fits)

pub returns-clause-low : goal.returns-clause-low
returns-clause-low c = record {
  size = c.double.ensures.low.size;
  each = each_wide_lane _
      (c.double.ensures.low.each 0 (omega arith) ∙ small c.from.result (omega (arith, c.from.ensures)) ∙ c.from.ensures ∙ c.word.ensures)
      (c.double.ensures.low.each 1 (omega arith) ∙ small c.from-2.result (omega (arith, c.from-2.ensures)) ∙ c.from-2.ensures ∙ c.word-2.ensures)
      (c.double.ensures.low.each 2 (omega arith) ∙ small c.from-3.result (omega (arith, c.from-3.ensures)) ∙ c.from-3.ensures ∙ c.word-3.ensures)
      (c.double.ensures.low.each 3 (omega arith) ∙ small c.from-4.result (omega (arith, c.from-4.ensures)) ∙ c.from-4.ensures ∙ c.word-4.ensures);
}
