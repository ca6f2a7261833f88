use Rattle.std.proofs.Common.{List, ap, ◌∙◌}
use Rattle.std.specs.Prelude.{map}
use Rattle.fa_map.specs.Rows.{last_write}
use Rattle.fa_map.specs.declared.rows.PageRow.{PageRow}
use Rattle.fa_map_calls.proofs.Written.{map-replicate}
use Rattle.fa_map.proofs.rows.PageRows.new.Goals as goal

pub returns-clause-versions : goal.returns-clause-versions
returns-clause-versions g c =
    ap (λ (l : List PageRow). map (λ (row : PageRow). last_write row.seq row.kind) l) (c.in_ok-rows.ensures.items_if_clones_equal (λ y same. same))
    ∙ map-replicate (λ (row : PageRow). last_write row.seq row.kind) c.args.count _

pub returns-clause-heads : goal.returns-clause-heads
returns-clause-heads g c =
    ap (λ (l : List PageRow). map (λ (row : PageRow). row.first) l) (c.in_ok-rows.ensures.items_if_clones_equal (λ y same. same))
    ∙ map-replicate (λ (row : PageRow). row.first) c.args.count _

pub returns-clause-seconds : goal.returns-clause-seconds
returns-clause-seconds g c =
    ap (λ (l : List PageRow). map (λ (row : PageRow). row.second) l) (c.in_ok-rows.ensures.items_if_clones_equal (λ y same. same))
    ∙ map-replicate (λ (row : PageRow). row.second) c.args.count _
