use Rattle.fa_machine.specs.Copies.{holders}
use Rattle.fa_machine.specs.Placement.{is_thin}
use Rattle.fa_mirror.proofs.Firsts.{few_is, first_of_either}
use Rattle.fa_mirror.specs.Firsts.{IsFirst}
use Rattle.std.proofs.Common.{ap, arith, length, subst, sym, ◌==◌, ◌∙◌, ◌≤◌, ℕ}
use Rattle.std.specs.Prelude.{nat_lt, ◌&&◌}
use Rattle.fa_mirror.proofs.thin.next_from.Goals as goal

pub returns : goal.returns
returns g c =
    let m = g.M.Map.view c.args.map.now in
    let copies = c.args.copies.number in
    let asked = c.copies_asked-asked.result in
    let same = c.copies_asked-asked.ensures in
    let most : asked ≤ 3 = let two_or_three = c.args.copies.two_or_three in omega (arith, same, two_or_three) in
    let held = λ (count page : ℕ). nat_lt count asked && length (holders m page) == count in
    subst (λ o. IsFirst (is_thin copies m) c.args.from.0 m.geometry.pages o) (sym c.lower.ensures)
    (first_of_either (is_thin copies m) (held 1) (held 2)
    (λ page. ap (λ n. nat_lt 0 (length (holders m page)) && nat_lt (length (holders m page)) n) (sym same)
    ∙ few_is (length (holders m page)) asked most) c.args.from.0 m.geometry.pages _ _ c.next_held.ensures c.next_held-2.ensures)
