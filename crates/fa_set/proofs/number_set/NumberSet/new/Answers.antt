use Rattle.std.proofs.Common.{◌/◌, ◌+◌}
use Rattle.fa_set.proofs.Empty.{empty_levels, new_members}
use Rattle.fa_set.proofs.number_set.NumberSet.new.Goals as goal

pub invariant_of-result : goal.invariant_of-result
invariant_of-result g c =
    record {
      sound = empty_levels c.args.bound c.in_ok-low.low.items c.in_ok-middle.middle.items c.in_ok-high.high.items
          (c.in_ok-low.ensures.items_if_clones_equal (λ y same. same)) (c.in_ok-middle.ensures.items_if_clones_equal (λ y same. same))
          (c.in_ok-high.ensures.items_if_clones_equal (λ y same. same));
    }

pub returns-clause-empty : goal.returns-clause-empty
returns-clause-empty g c = new_members c.args.bound c.in_ok-low.low.items (c.args.bound / 64 + 1) (c.in_ok-low.ensures.items_if_clones_equal (λ y same. same))
