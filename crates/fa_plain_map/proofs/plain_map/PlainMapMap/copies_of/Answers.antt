use Rattle.std.proofs.Common.{◌≡◌, ℕ, ◌+◌, sym, ap, ◌∙◌, arith}
use Rattle.fa_types.specs.declared.geometry.Geometry.{Geometry}
use Rattle.std.specs.Prelude.{count_by, is_some}
use Rattle.fa_machine.specs.Copies.{holds_page}
use Rattle.fa_machine.specs.Maps.{below}
use Rattle.fa_map_calls.proofs.Holders.{holders_counted, still_some}
use Rattle.fa_map_calls.proofs.Ranges.{bit, count_more}
use Rattle.fa_plain_map.proofs.plain_map.PlainMapMap.copies_of.Goals.{then-is_some, else-is_some}
use Rattle.fa_plain_map.proofs.plain_map.PlainMapMap.copies_of.Goals as goal

pub loop-die-preserved : goal.loop-die-preserved
loop-die-preserved g c =
    let s = c.args.self.now in
    let test = holds_page s.history.shown c.args.page.0 in
    let more = count_more test 0 c.loop-die.die in
    let same : 0 + c.loop-die.die ≡ c.loop-die.die = omega arith in
    let held : test (0 + c.loop-die.die) ≡ is_some c.copy_on.result =
    ap test same ∙ ap is_some (sym c.copy_on.ensures) ∙ still_some (λ slot. slot.0) c.copy_on.result in
    elim c.if-is_some.branch [
      | then-is_some w ↦
          let one = ap bit (held ∙ sym w.if-is_some.ensures) in
          record { few = omega arith; counted = omega (arith, more, one) }
      | else-is_some w ↦
          let none = ap bit (held ∙ sym w.if-is_some.ensures) in
          record { few = omega arith; counted = omega (arith, more, none) }
    ]

pub returns : goal.returns
returns g c =
    let s = c.args.self.now in
    let all : c.loop-die.die ≡ s.geometry.dies = omega arith in
    c.loop-die.invariant.counted ∙ ap (λ (k : ℕ). count_by (holds_page s.history.shown c.args.page.0) (below k)) all
    ∙ ap (λ (k : Geometry). count_by (holds_page s.history.shown c.args.page.0) (below k.dies)) (sym s.sound.geometry)
    ∙ sym (holders_counted s.history.shown c.args.page.0)
