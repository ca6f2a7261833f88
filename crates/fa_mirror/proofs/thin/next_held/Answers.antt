use Rattle.fa_machine.specs.Copies.{holders}
use Rattle.fa_mirror.proofs.Firsts.{first_from, first_same}
use Rattle.std.proofs.Common.{ap, length, subst, sym, ℕ, ◌==◌}
use Rattle.std.proofs.lemmas.Bool.{le-ltb, lt-ltb}
use Rattle.fa_mirror.specs.Firsts.{IsFirst}
use Rattle.std.specs.Prelude.{nat_lt, ◌&&◌}
use Rattle.fa_mirror.proofs.thin.next_held.Goals as goal

pub returns-then-count-asked : goal.returns-then-count-asked
returns-then-count-asked g c =
    let m = g.M.Map.view c.args.map.now in
    let test = λ (page : ℕ). length (holders m page) == c.args.count in
    first_same (λ (page : ℕ). nat_lt c.args.count c.args.asked && length (holders m page) == c.args.count) test
    (λ page. ap (λ b. b && length (holders m page) == c.args.count) (lt-ltb c.args.count c.args.asked c.if-count-asked.true))
    c.args.from.0 m.geometry.pages _
    (subst (λ o. IsFirst test c.args.from.0 m.geometry.pages o) (sym c.next_with.ensures) (first_from test c.args.from.0 m.geometry.pages))

pub returns-else-count-asked : goal.returns-else-count-asked
returns-else-count-asked g c = λ k low high.
    ap (λ b. b && length (holders (g.M.Map.view c.args.map.now) k) == c.args.count)
    (le-ltb c.args.count c.args.asked c.if-count-asked.false)
