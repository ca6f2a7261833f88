use Rattle.fa_machine.specs.Maps.{is_one_of}
use Rattle.fa_mirror.proofs.Looks.{is_home_is, look_behind}
use Rattle.fa_mirror.proofs.order.Order.die_at.Goals as goal
use Rattle.fa_mirror.specs.Order.{first_of}
use Rattle.std.proofs.Common.{None, Some, ap, arith, sym, true, false, ◌-◌, ◌∙◌, ◌≡◌}
use Rattle.std.specs.Prelude.{if◌then◌else◌}

pub returns-then-is_home : goal.returns-then-is_home
returns-then-is_home c =
    let order = c.args.self in
    let die = order.dies - 1 - (c.args.look - order.copies) in
    let home : is_one_of (first_of order.copies order.homes) die ≡ true =
    sym (is_home_is die order.copies order.homes) ∙ sym c.is_home.ensures ∙ c.if-is_home.true in
    sym (look_behind order.copies order.homes order.dies (omega arith) c.args.look (omega arith) (omega arith)
    ∙ ap (λ b. if b then None else Some die) home)

pub returns-else-is_home : goal.returns-else-is_home
returns-else-is_home c =
    let order = c.args.self in
    let die = order.dies - 1 - (c.args.look - order.copies) in
    let other : is_one_of (first_of order.copies order.homes) die ≡ false =
    sym (is_home_is die order.copies order.homes) ∙ sym c.is_home.ensures ∙ c.if-is_home.false in
    sym (look_behind order.copies order.homes order.dies (omega arith) c.args.look (omega arith) (omega arith)
    ∙ ap (λ b. if b then None else Some die) other)
