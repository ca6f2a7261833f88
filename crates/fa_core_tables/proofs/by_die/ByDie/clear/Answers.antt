use Rattle.std.proofs.Common.{ap, sym, ◌∙◌}
use Rattle.std.specs.FinMap.{len, len-empty}
use Rattle.std.specs.Ordering.{nat_cmp}
use Rattle.fa_core_tables.specs.Tabled.{table_of}
use Rattle.fa_core_tables.proofs.Tables.{only_none, table_none}
use Rattle.fa_core_tables.proofs.by_die.ByDie.clear.Goals as goal

pub invariant_of-self : goal.invariant_of-self
invariant_of-self g c =
    let items = c.fill.ensures.items (only_none _ (λ x h. h)) in
    let none = ap len (table_none c.args.self.now.values.len) ∙ len-empty nat_cmp g.row.T.Denot in
    record { counted = sym (ap (λ l. len (table_of l)) items ∙ none) }

pub returns-clause-empty : goal.returns-clause-empty
returns-clause-empty g c =
    let items = c.fill.ensures.items (only_none _ (λ x h. h)) in
    ap table_of items ∙ table_none c.args.self.now.values.len
