use Rattle.fa_machine.specs.State.{is_live}
use Rattle.fa_mirror.proofs.Looks.{all_looked, chosen_all, chosen_fails, chosen_few, chosen_full, chosen_more, chosen_none, looks_in_all}
use Rattle.fa_mirror.proofs.placement.first_dies.Goals as goal
use Rattle.fa_mirror.proofs.placement.first_dies.Goals.{in-Some+else-is_live, in-Some+then-is_live, in_default}
use Rattle.fa_mirror.specs.Order.{first_dies, looks, numbers_of}
use Rattle.fa_types.specs.declared.numbers.Die.{Die}
use Rattle.std.proofs.Common.{None, Some, [], ap, arith, get_or, length, sym, ◌+◌, ◌<◌, ◌∙◌, ◌∷◌, ◌≡◌, ◌≤◌}
use Rattle.std.proofs.lemmas.List.{length-map, map-append}
use Rattle.std.specs.Prelude.{option_map}

pub loop-look-preserved : goal.loop-look-preserved
loop-look-preserved g c =
    let test = is_live (g.M.Map.view c.args.map.now) in
    let order = c.order_of-order.result in
    let all = looks order.copies order.homes order.dies in
    let long : length all ≡ order.copies + order.dies = looks_in_all order.copies order.homes order.dies (omega arith) in
    let before = c.loop-look-test.true in
    let end = c.looks-look-end.ensures in
    let n = c.loop-look.look in
    let low : n < length all = omega (arith, long, before, end) in
    let number = λ (die : Die). die.0 in
    let asked = c.copies_asked-asked.result in
    let xs = numbers_of c.loop-look.placing in
    let is = c.loop-look.invariant in
    elim c.match-die_at.branch [
      | in-Some+then-is_live w ↦
          let die = w.in-Some.die in
          let here : get_or all n None ≡ Some die.0 = sym c.die_at.ensures ∙ ap (option_map number) w.in-Some.is in
          let as_long = length-map c.loop-look.placing number in
          let most = chosen_few all test asked n xs is in
          let number_is = c.len.ensures.number in
          let apart = c.if-len-asked.false in
          let few : length xs < asked = omega (arith, most, as_long, number_is, apart) in
          ap numbers_of (w.placing-is ∙ w.push.ensures) ∙ map-append number c.loop-look.placing (die ∷ [])
          ∙ chosen_more all test asked n xs is die.0 low here (sym w.is_live.ensures ∙ w.if-is_live.true) few
      | in-Some+else-is_live w ↦
          let die = w.in-Some.die in
          let here : get_or all n None ≡ Some die.0 = sym c.die_at.ensures ∙ ap (option_map number) w.in-Some.is in
          ap numbers_of w.placing-is
          ∙ chosen_fails all test asked n xs is die.0 low here (sym w.is_live.ensures ∙ w.if-is_live.false)
      | in_default w ↦
          let here : get_or all n None ≡ None = sym c.die_at.ensures ∙ ap (option_map number) w.in_default.is in
          ap numbers_of w.placing-is ∙ chosen_none all test asked n xs is low here
    ]

pub returns-after-loop-look : goal.returns-after-loop-look
returns-after-loop-look g c =
    let m = g.M.Map.view c.args.map.now in
    let copies = c.args.copies.number in
    let page = c.args.page.0 in
    let order = c.order_of-order.result in
    let all = looks order.copies order.homes order.dies in
    let placing = c.loop-look.placing in
    let asked = c.copies_asked-asked.result in
    let long : length all ≡ order.copies + order.dies = looks_in_all order.copies order.homes order.dies (omega arith) in
    let before = c.loop-look-test.false in
    let end = c.looks-look-end.ensures in
    let past : length all ≤ c.loop-look.look = omega (arith, long, before, end) in
    let is : numbers_of placing ≡ first_dies copies m page =
    all_looked copies m page order.copies order.homes order.dies c.order_of-order.ensures.first c.order_of-order.ensures.dies
    (is_live m) asked (numbers_of placing) c.copies_asked-asked.ensures
    (chosen_all all (is_live m) asked c.loop-look.look (numbers_of placing) c.loop-look.invariant past) in
    is

pub returns-then-len-asked : goal.returns-then-len-asked
returns-then-len-asked g c =
    let m = g.M.Map.view c.args.map.now in
    let copies = c.args.copies.number in
    let page = c.args.page.0 in
    let order = c.order_of-order.result in
    let all = looks order.copies order.homes order.dies in
    let placing = c.loop-look.placing in
    let asked = c.copies_asked-asked.result in
    let full : length (numbers_of placing) ≡ asked =
    length-map placing (λ (die : Die). die.0) ∙ sym c.len.ensures.number ∙ c.if-len-asked.true in
    let is : numbers_of placing ≡ first_dies copies m page =
    all_looked copies m page order.copies order.homes order.dies c.order_of-order.ensures.first c.order_of-order.ensures.dies
    (is_live m) asked (numbers_of placing) c.copies_asked-asked.ensures
    (chosen_full all (is_live m) asked c.loop-look.look (numbers_of placing) c.loop-look.invariant full) in
    is
