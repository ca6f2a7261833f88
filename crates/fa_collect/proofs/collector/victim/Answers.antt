use Rattle.fa_collect.proofs.Blocks.{may_is}
use Rattle.fa_collect.proofs.Victims.{victim_full, victim_none, victim_some}
use Rattle.fa_collect.proofs.collector.victim.Goals as goal
use Rattle.std.proofs.Common.{Some, arith, refl, sym, ◌<◌, ◌∙◌}

pub counts-requires-clause-block : goal.counts-requires-clause-block
counts-requires-clause-block g c = (c.in-Some.ensures.inside c.in-Some.block.0 refl).0

pub returns-then-may_be_emptied : goal.returns-then-may_be_emptied
returns-then-may_be_emptied g c =
    let m = g.M.Map.view c.args.map.now in
    let b = c.in-Some.block.0 in
    let some = m.geometry.within.slots_fit in
    let counts = c.counts.ensures in
    sym (victim_some m c.args.die.0 (Some b) c.in-Some.ensures b refl
    (sym (may_is m c.args.die.0 b (omega (arith, some.0)) (c.in-Some.ensures.inside b refl).0 c.counts.result.stale c.counts.result.reserved
    c.counts.result.current c.counts.result.erased c.free.result counts.3 counts.1 counts.2 counts.0 c.free.ensures)
    ∙ sym c.may_be_emptied.ensures ∙ c.if-may_be_emptied.true))

pub returns-else-may_be_emptied : goal.returns-else-may_be_emptied
returns-else-may_be_emptied g c =
    let m = g.M.Map.view c.args.map.now in
    let b = c.in-Some.block.0 in
    let some = m.geometry.within.slots_fit in
    let counts = c.counts.ensures in
    sym (victim_full m c.args.die.0 (Some b) c.in-Some.ensures b refl
    (sym (may_is m c.args.die.0 b (omega (arith, some.0)) (c.in-Some.ensures.inside b refl).0 c.counts.result.stale c.counts.result.reserved
    c.counts.result.current c.counts.result.erased c.free.result counts.3 counts.1 counts.2 counts.0 c.free.ensures)
    ∙ sym c.may_be_emptied.ensures ∙ c.if-may_be_emptied.false))

pub returns-in-None : goal.returns-in-None
returns-in-None g c =
    let m = g.M.Map.view c.args.map.now in
    sym (victim_none m c.args.die.0 _ c.in-None.ensures refl)
