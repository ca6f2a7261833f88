use Rattle.fa_core_complete.proofs.collecting.settle.Goals as goal
use Rattle.fa_machine.specs.declared.places.Used.TheVariants.{Held, Stale}
use Rattle.fa_map_calls.specs.Changes.{with_used}
use Rattle.fa_core_state.specs.Core.{core_of}
use Rattle.std.proofs.Common.{◌∙◌}
use Rattle.std.specs.Prelude.{if◌then◌else◌}

pub returns-clause-moved : goal.returns-clause-moved
returns-clause-moved g c =
    let core = core_of g.M.Map.view c.args.state.now in
    let placed = c.put.ensures ∙ (λ i. with_used c.args.die.0 c.args.to.0
    (if c.is_current-current.ensures i then Held c.args.page c.args.version else Stale) (c.make_stale.ensures i)) in
    λ i. record core { page_map = placed i; stepped = c.insert.ensures.members i }
