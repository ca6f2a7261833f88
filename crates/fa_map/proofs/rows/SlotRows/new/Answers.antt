use Rattle.std.proofs.Common.{List, ap, ◌∙◌}
use Rattle.std.specs.Prelude.{map}
use Rattle.fa_map.specs.declared.rows.SlotRow.{SlotRow}
use Rattle.fa_map_calls.proofs.Written.{map-replicate}
use Rattle.fa_map.proofs.rows.SlotRows.new.Goals as goal

pub returns-clause-entries : goal.returns-clause-entries
returns-clause-entries g c =
    ap (λ (l : List SlotRow). map (λ (row : SlotRow). row.entry) l) (c.in_ok-rows.ensures.items_if_clones_equal (λ y same. same))
    ∙ map-replicate (λ (row : SlotRow). row.entry) c.args.count _

pub returns-clause-written : goal.returns-clause-written
returns-clause-written g c =
    ap (λ (l : List SlotRow). map (λ (row : SlotRow). row.link) l) (c.in_ok-rows.ensures.items_if_clones_equal (λ y same. same))
    ∙ map-replicate (λ (row : SlotRow). row.link) c.args.count _
