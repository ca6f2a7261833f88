use Rattle.std.proofs.Common.{ap, sym, ◌∙◌}
use Rattle.std.specs.FinMap.{len, len-empty}
use Rattle.std.specs.Ordering.{nat_cmp}
use Rattle.fa_core_tables.specs.Tabled.{table_of}
use Rattle.fa_core_tables.proofs.Tables.{only_none, table_none}
use Rattle.fa_core_tables.proofs.by_die.ByDie.new.Goals as goal

pub invariant_of-result : goal.invariant_of-result
invariant_of-result g c =
    let items = c.in_ok-values.ensures.items_if_clones_equal (only_none _ (λ x h. h)) in
    record { counted = sym (ap (λ l. len (table_of l)) items ∙ ap len (table_none c.args.dies) ∙ len-empty nat_cmp g.row.T.Denot) }

pub returns-clause-empty : goal.returns-clause-empty
returns-clause-empty g c =
    let items = c.in_ok-values.ensures.items_if_clones_equal (only_none _ (λ x h. h)) in
    ap table_of items ∙ table_none c.args.dies
