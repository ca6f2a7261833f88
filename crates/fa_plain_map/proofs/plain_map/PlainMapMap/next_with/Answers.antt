use Rattle.std.proofs.Common.{◌≡◌, ℕ, ◌-◌, ◌==◌, length, sym, ap, ◌∙◌, arith, eq-eqb, inl, inr}
use Rattle.std.proofs.lemmas.Bool.{cases_lt, ne_eqb}
use Rattle.std.specs.List.{find, range_with_len}
use Rattle.fa_types.specs.declared.geometry.Geometry.{Geometry}
use Rattle.fa_machine.specs.Copies.{holders}
use Rattle.fa_map_calls.proofs.Ranges.{find_none, find_some}
use Rattle.fa_plain_map.proofs.plain_map.PlainMapMap.next_with.Goals as goal

pub returns-then-copies_of-count : goal.returns-then-copies_of-count
returns-then-copies_of-count g c =
    let s = c.args.self.now in
    let from = c.args.from.0 in
    let number = c.loop-number.number in
    let test = λ (page : ℕ). length (holders s.history.shown page) == c.args.count in
    sym (find_some test from (s.geometry.pages - from) number (omega arith) (omega arith)
    (eq-eqb (length (holders s.history.shown number)) c.args.count (sym c.copies_of.ensures ∙ c.if-copies_of-count.true)) c.loop-number.invariant)
    ∙ ap (λ (k : Geometry). find test (range_with_len from (k.pages - from))) (sym s.sound.geometry)

pub loop-number-preserved : goal.loop-number-preserved
loop-number-preserved g c = λ k low high.
    let m = c.args.self.now.history.shown in
    elim (cases_lt k c.loop-number.number) [
      | inl early ↦ c.loop-number.invariant k low early
      | inr late ↦
          let is : c.loop-number.number ≡ k = omega (arith, late, high) in
          ne_eqb (length (holders m k)) c.args.count (λ e. c.if-copies_of-count.false (c.copies_of.ensures ∙ ap (λ j. length (holders m j)) is ∙ e))
    ]

pub returns : goal.returns
returns g c =
    let s = c.args.self.now in
    let from = c.args.from.0 in
    let test = λ (page : ℕ). length (holders s.history.shown page) == c.args.count in
    sym (find_none test from (s.geometry.pages - from) (λ k low high. c.loop-number.invariant k low (omega (arith, low, high))))
    ∙ ap (λ (k : Geometry). find test (range_with_len from (k.pages - from))) (sym s.sound.geometry)
