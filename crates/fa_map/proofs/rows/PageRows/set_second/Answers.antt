use Rattle.std.proofs.Common.{ap, set, ◌∙◌}
use Rattle.std.proofs.lemmas.List.{map-set}
use Rattle.std.proofs.Math.Seq.{map-set_same}
use Rattle.fa_map.specs.Rows.{PageLists, last_write}
use Rattle.fa_map.specs.declared.rows.PageRow.{PageRow}
use Rattle.fa_map.proofs.rows.PageRows.set_second.Goals as goal

pub returns-clause-seconds : goal.returns-clause-seconds
returns-clause-seconds g c =
    map-set (λ (row : PageRow). row.second) c.self.inside.rows.items c.args.page _ ∙ ap (λ (v : PageLists). set v.seconds c.args.page c.args.second) c.self.view_is

pub returns-clause-versions : goal.returns-clause-versions
returns-clause-versions g c =
    map-set_same (λ (row : PageRow). last_write row.seq row.kind) c.self.inside.rows.items c.args.page _ c.index_mut.result.now
    (ap (λ (row : PageRow). last_write row.seq row.kind) c.index_mut.ensures.value) ∙ ap (λ (v : PageLists). v.versions) c.self.view_is

pub returns-clause-heads : goal.returns-clause-heads
returns-clause-heads g c =
    map-set_same (λ (row : PageRow). row.first) c.self.inside.rows.items c.args.page _ c.index_mut.result.now
    (ap (λ (row : PageRow). row.first) c.index_mut.ensures.value) ∙ ap (λ (v : PageLists). v.heads) c.self.view_is
