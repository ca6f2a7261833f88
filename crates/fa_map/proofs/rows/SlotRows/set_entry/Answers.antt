use Rattle.std.proofs.Common.{ap, set, ◌∙◌}
use Rattle.std.proofs.lemmas.List.{map-set}
use Rattle.std.proofs.Math.Seq.{map-set_same}
use Rattle.fa_map.specs.Rows.{SlotLists}
use Rattle.fa_map.specs.declared.rows.SlotRow.{SlotRow}
use Rattle.fa_map.proofs.rows.SlotRows.set_entry.Goals as goal

pub returns-clause-entries : goal.returns-clause-entries
returns-clause-entries g c =
    map-set (λ (row : SlotRow). row.entry) c.self.inside.rows.items c.args.index _ ∙ ap (λ (v : SlotLists). set v.entries c.args.index (c.args.entry)) c.self.view_is

pub returns-clause-written : goal.returns-clause-written
returns-clause-written g c =
    map-set_same (λ (row : SlotRow). row.link) c.self.inside.rows.items c.args.index _ c.index_mut.result.now
    (ap (λ (row : SlotRow). row.link) c.index_mut.ensures.value) ∙ ap (λ (v : SlotLists). v.written) c.self.view_is
