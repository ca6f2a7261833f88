use Rattle.std.proofs.Common.{ap, get_or, subst, sym, ◌∙◌}
use Rattle.fa_machine.specs.State.{MapState, is_live}
use Rattle.fa_map_calls.specs.Changes.{MayKeep}
use Rattle.fa_core_commit.proofs.Holding.{may_keep}
use Rattle.fa_core_commit.proofs.renewing.hold_slots.Goals as goal

pub hold-requires : goal.hold-requires
hold-requires g c =
    let at = get_or c.args.slots.now c.loop-index.index _ in
    subst (λ (m : MapState). MayKeep m c.args.page c.args.version at.die.0 at.slot.0) (sym c.loop-index.invariant)
    (may_keep (g.M.Map.view c.args.page_map.now) c.args.page c.args.version c.args.slots.now c.requires c.loop-index.index _
    c.loop-index-test.true
    (sym (ap (λ (m : MapState). is_live m at.die.0) c.loop-index.invariant) ∙ sym c.is_live.ensures ∙ c.if-is_live.true))
