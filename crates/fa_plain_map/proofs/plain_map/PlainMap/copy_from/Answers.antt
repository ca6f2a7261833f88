use Rattle.std.proofs.Common.{◌-◌, sym, ap, ◌∙◌, arith}
use Rattle.std.specs.List.{range_with_len}
use Rattle.std.specs.Prelude.{find, is_some}
use Rattle.fa_types.specs.declared.geometry.Geometry.{Geometry}
use Rattle.fa_machine.specs.Copies.{holds_page}
use Rattle.fa_map_calls.proofs.Ranges.{find_none, find_some}
use Rattle.fa_plain_map.proofs.plain_map.PlainMap.copy_from.Goals as goal

pub returns-in-Some-clause-die : goal.returns-in-Some-clause-die
returns-in-Some-clause-die g c =
    let s = c.args.self.now in
    let test = holds_page s.history.shown c.args.page.0 in
    let first = c.args.first in
    let number = c.loop-number.number in
    sym (find_some test first (s.geometry.dies - first) number (omega arith) (omega arith) (ap is_some (sym c.in-Some.ensures)) c.loop-number.invariant)
    ∙ ap (λ (k : Geometry). find test (range_with_len first (k.dies - first))) (sym s.sound.geometry)

pub returns-clause-die : goal.returns-clause-die
returns-clause-die g c =
    let s = c.args.self.now in
    let test = holds_page s.history.shown c.args.page.0 in
    let first = c.args.first in
    sym (find_none test first (s.geometry.dies - first) (λ k low high. c.loop-number.invariant k low (omega (arith, low, high))))
    ∙ ap (λ (k : Geometry). find test (range_with_len first (k.dies - first))) (sym s.sound.geometry)
