use Rattle.fa_map_calls.proofs.Ranges.{find_is, none_is}
use Rattle.fa_set.specs.Members.{is_in, members}
use Rattle.fa_core_state.proofs.Numbers.{empty_below, len_less}
use Rattle.std.proofs.Common.{ap, arith, sym, ◌-◌, ◌∙◌}
use Rattle.std.specs.FinMap.{len}
use Rattle.fa_core_upkeep.proofs.rounds.clear.Goals as goal

pub remove-requires : goal.remove-requires
remove-requires g c =
    let set = c.loop-number.set in
    let found = find_is (is_in set) 0 (set.bound - 0) c.in-Some.number (sym c.lowest_from.ensures ∙ c.in-Some.is) in
    let low = found.1 in
    omega (arith, low)

pub loop-number-smaller : goal.loop-number-smaller
loop-number-smaller g c =
    let set = c.loop-number.set in
    let found = find_is (is_in set) 0 (set.bound - 0) c.in-Some.number (sym c.lowest_from.ensures ∙ c.in-Some.is) in
    let less = len_less (members set) c.in-Some.number found.2 in
    let is = ap len c.remove.ensures.members in
    omega (arith, less, is)

pub returns-clause-empty : goal.returns-clause-empty
returns-clause-empty g c =
    let set = c.loop-number.set in
    empty_below set.bound set.low.items
    (λ k low. none_is (is_in set) 0 (set.bound - 0) k (sym c.lowest_from.ensures ∙ c.in_default.is) (omega arith) (omega (arith, low)))
