use Rattle.fa_collect.proofs.collector.next_step.Goals as goal
use Rattle.fa_machine.specs.declared.ids.Block.{Block}
use Rattle.fa_map_calls.proofs.Ranges.{find_below}
use Rattle.std.proofs.Common.{ap, arith, sym, ◌∙◌}
use Rattle.std.specs.Prelude.{option_map}

pub step_on-requires-clause-block : goal.step_on-requires-clause-block
step_on-requires-clause-block g c =
    let m = g.M.Map.view c.args.map.now in
    let below = find_below _ 0 m.geometry.blocks c.in-Some.block.0 (sym c.victim.ensures ∙ ap (option_map (λ (b : Block). b.0)) c.in-Some.is) in
    omega (arith, below)
