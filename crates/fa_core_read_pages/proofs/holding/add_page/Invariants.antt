use Rattle.fa_batch_terms.specs.Batch.{Entry}
use Rattle.fa_machine.specs.Copies.{copy_on, holders}
use Rattle.fa_core_read_pages.proofs.Chain.{dies_left}
use Rattle.fa_core_read_pages.proofs.holding.add_page.Given as goal
use Rattle.fa_types.specs.declared.numbers.Die.{Die}
use Rattle.std.proofs.Common.{List, Some, [], length, map, ◌∷◌, ◌≡◌}
use Rattle.std.specs.Prelude.{IfSome, ◌++◌}

abbrev pub invariant-loop-copy : goal.invariant-loop-copy
invariant-loop-copy g l =
    (IfSome l.copy (λ c. copy_on (g.M.Map.view l.page_map) l.fn.page.0 c.0.0 ≡ Some c.1.0))
    × (held : List Die) × (l.batch ≡ l.fn.batch ++ record { page = l.fn.page; holders = held } ∷ [])
    × (map (λ (die : Die). die.0) held ++ dies_left (g.M.Map.view l.page_map) l.fn.page.0 l.copy
    ≡ holders (g.M.Map.view l.page_map) l.fn.page.0)

abbrev pub decreases-loop-copy : goal.decreases-loop-copy
decreases-loop-copy g l = length (dies_left (g.M.Map.view l.page_map) l.fn.page.0 l.copy)
