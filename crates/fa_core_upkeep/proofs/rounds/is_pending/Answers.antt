use Rattle.fa_machine.specs.Turning.{is_round_pending}
use Rattle.fa_core_state.proofs.Below.{any_fails, any_passes}
use Rattle.fa_core_state.specs.Core.{core_of}
use Rattle.fa_core_upkeep.proofs.Settled.{free_settled, looked_on}
use Rattle.fa_types.specs.declared.geometry.Geometry.{Geometry}
use Rattle.std.proofs.Common.{ap, arith, false, subst, sym, ◌<◌, ◌≡◌, ◌∙◌}
use Rattle.fa_core_upkeep.proofs.rounds.is_pending.Goals as goal

pub returns-then-is_round_pending : goal.returns-then-is_round_pending
returns-then-is_round_pending g c =
    let core = core_of g.M.Map.view c.args.state.now in
    let die = c.loop-die.die in
    let low : die < core.page_map.geometry.dies = subst (λ (k : Geometry). die < k.dies) c.geometry-dies.ensures c.loop-die-test.true in
    sym (any_passes (is_round_pending core) core.page_map.geometry.dies die low
    (sym c.is_round_pending.ensures ∙ c.if-is_round_pending.true))

pub returns : goal.returns
returns g c =
    let core = core_of g.M.Map.view c.args.state.now in
    let all = c.loop-die-test.false in
    let dies = ap (λ (k : Geometry). k.dies) c.geometry-dies.ensures in
    sym (any_fails (is_round_pending core) core.page_map.geometry.dies
    (λ k low. c.loop-die.invariant.settled k (omega (arith, low, all, dies))))

pub loop-die-init : goal.loop-die-init
loop-die-init g c =
    let core = core_of g.M.Map.view c.args.state.now in
    let next = c.busy_from-die in
    record {
      most = next.ensures.most;
      settled = λ k low. free_settled core k (λ round. next.ensures.bookings k round (omega arith) low) (next.ensures.windows k (omega arith) low);
    }

pub loop-die-preserved : goal.loop-die-preserved
loop-die-preserved g c =
    let core = core_of g.M.Map.view c.args.state.now in
    let next = c.busy_from-die-in-loop-die in
    record {
      most = next.ensures.most;
      settled = looked_on (λ k. is_round_pending core k ≡ false) c.loop-die.die next.result c.loop-die.invariant.settled
          (sym c.is_round_pending.ensures ∙ c.if-is_round_pending.false)
          (λ k high low. free_settled core k (λ round. next.ensures.bookings k round high low) (next.ensures.windows k high low));
    }
