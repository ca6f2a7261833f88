use Rattle.fa_mirror.proofs.Looks.{found_all, found_fails, found_here, found_none, looks_in_all, order_looked}
use Rattle.fa_mirror.proofs.placement.copy_place.Goals as goal
use Rattle.fa_mirror.proofs.placement.copy_place.Goals.{in-Some+else-takes_copy, in_default}
use Rattle.fa_mirror.specs.Order.{looks, takes_copy}
use Rattle.fa_types.specs.declared.numbers.Die.{Die}
use Rattle.std.proofs.Common.{None, Some, ap, arith, get_or, length, sym, ◌+◌, ◌<◌, ◌∙◌, ◌≡◌, ◌≤◌}
use Rattle.std.specs.Prelude.{find, option_map}

pub loop-look-preserved : goal.loop-look-preserved
loop-look-preserved g c =
    let order = c.order_of-order.result in
    let all = looks order.copies order.homes order.dies in
    let takes = takes_copy (g.M.Map.view c.args.map.now) c.args.page.0 in
    let long : length all ≡ order.copies + order.dies = looks_in_all order.copies order.homes order.dies (omega arith) in
    let test = c.loop-look-test.true in
    let end = c.looks-look-end.ensures in
    let n = c.loop-look.look in
    let low : n < length all = omega (arith, long, test, end) in
    let number = option_map (λ (die : Die). die.0) in
    elim c.match-die_at.branch [
      | in-Some+else-takes_copy w ↦
          let here : get_or all n None ≡ Some w.in-Some.die.0 = sym c.die_at.ensures ∙ ap number w.in-Some.is in
          found_fails all takes n c.loop-look.invariant w.in-Some.die.0 low here (sym w.takes_copy.ensures ∙ w.if-takes_copy.false)
      | in_default w ↦
          let here : get_or all n None ≡ None = sym c.die_at.ensures ∙ ap number w.in_default.is in
          found_none all takes n c.loop-look.invariant low here
    ]

pub returns-then-takes_copy : goal.returns-then-takes_copy
returns-then-takes_copy g c =
    let m = g.M.Map.view c.args.map.now in
    let order = c.order_of-order.result in
    let all = looks order.copies order.homes order.dies in
    let takes = takes_copy m c.args.page.0 in
    let long : length all ≡ order.copies + order.dies = looks_in_all order.copies order.homes order.dies (omega arith) in
    let test = c.loop-look-test.true in
    let end = c.looks-look-end.ensures in
    let n = c.loop-look.look in
    let low : n < length all = omega (arith, long, test, end) in
    let number = option_map (λ (die : Die). die.0) in
    let here : get_or all n None ≡ Some c.in-Some.die.0 = sym c.die_at.ensures ∙ ap number c.in-Some.is in
    let is = order_looked c.args.copies.number m c.args.page.0 order.copies order.homes order.dies
    c.order_of-order.ensures.first c.order_of-order.ensures.dies in
    sym (ap (find takes) (sym is)
    ∙ found_here all takes n c.loop-look.invariant c.in-Some.die.0 low here (sym c.takes_copy.ensures ∙ c.if-takes_copy.true))

pub returns : goal.returns
returns g c =
    let m = g.M.Map.view c.args.map.now in
    let order = c.order_of-order.result in
    let all = looks order.copies order.homes order.dies in
    let takes = takes_copy m c.args.page.0 in
    let long : length all ≡ order.copies + order.dies = looks_in_all order.copies order.homes order.dies (omega arith) in
    let test = c.loop-look-test.false in
    let end = c.looks-look-end.ensures in
    let n = c.loop-look.look in
    let past : length all ≤ n = omega (arith, long, test, end) in
    let is = order_looked c.args.copies.number m c.args.page.0 order.copies order.homes order.dies
    c.order_of-order.ensures.first c.order_of-order.ensures.dies in
    sym (ap (find takes) (sym is) ∙ found_all all takes n c.loop-look.invariant past)
