use Rattle.std.proofs.Common.{◌-◌, ap, arith, sym, ◌∙◌}
use Rattle.std.specs.FinMap.{contains_key}
use Rattle.fa_set.specs.Members.{Numbers, is_in}
use Rattle.fa_calendar.proofs.Least.{found_least, found_none}
use Rattle.fa_calendar.proofs.busy.BusyDies.next_from.Goals as goal

pub returns-in-Some-clause-behind : goal.returns-in-Some-clause-behind
returns-in-Some-clause-behind g c =
    (found_least (is_in c.self.inside.numbers) c.args.from (c.self.inside.numbers.bound - c.args.from) c.in-Some.die
    (sym c.lowest_from.ensures ∙ c.in-Some.is)).0

pub returns-in-Some-clause-most : goal.returns-in-Some-clause-most
returns-in-Some-clause-most g c =
    let found = found_least (is_in c.self.inside.numbers) c.args.from (c.self.inside.numbers.bound - c.args.from) c.in-Some.die
    (sym c.lowest_from.ensures ∙ c.in-Some.is) in
    let high = found.1 in
    omega (arith, high, c.self.invariant, c.requires)

pub returns-in-Some-clause-least : goal.returns-in-Some-clause-least
returns-in-Some-clause-least g c die low high =
    ap (λ (m : Numbers). contains_key m die) (sym c.self.view_is)
    ∙ (found_least (is_in c.self.inside.numbers) c.args.from (c.self.inside.numbers.bound - c.args.from) c.in-Some.die
    (sym c.lowest_from.ensures ∙ c.in-Some.is)).2 die low high

pub returns-in-None-clause-least : goal.returns-in-None-clause-least
returns-in-None-clause-least g c die low high =
    ap (λ (m : Numbers). contains_key m die) (sym c.self.view_is)
    ∙ found_none (is_in c.self.inside.numbers) c.args.from (c.self.inside.numbers.bound - c.args.from) (sym c.lowest_from.ensures ∙ c.in-None.is) die low
    (omega (arith, low, high, c.self.invariant))
