use Rattle.fa_core_state.proofs.Below.{any_fails, any_passes}
use Rattle.fa_core_upkeep.proofs.syncs.has_live_die.Goals as goal
use Rattle.fa_machine.specs.State.{is_live}
use Rattle.fa_types.specs.declared.geometry.Geometry.{Geometry}
use Rattle.std.proofs.Common.{◌≡◌, ◌<◌, ◌∙◌, ◌&&◌, ap, arith, false, subst, sym, slice_index_or}
use Rattle.std.proofs.lemmas.Bool.{and_from}

pub returns-then-is_live : goal.returns-then-is_live
returns-then-is_live g c =
    let m = g.M.Map.view c.args.page_map.now in
    let die = c.loop-die.die in
    let marks = c.args.flush.now.live in
    let low : die < m.geometry.dies = subst (λ (k : Geometry). die < k.dies) c.geometry-die-end.ensures c.loop-die-test.true in
    sym (any_passes (λ k. slice_index_or marks k false && is_live m k) m.geometry.dies die low
    (and_from (slice_index_or marks die false) (is_live m die) c.if-flush-die.true (sym c.is_live.ensures ∙ c.if-is_live.true)))

pub returns : goal.returns
returns g c =
    let m = g.M.Map.view c.args.page_map.now in
    let marks = c.args.flush.now.live in
    let same : c.loop-die.die ≡ m.geometry.dies =
    (let low = c.loop-die.auto.die-end in let high = c.loop-die-test.false in omega (arith, low, high))
    ∙ ap (λ (k : Geometry). k.dies) c.geometry-die-end.ensures in
    sym (any_fails (λ k. slice_index_or marks k false && is_live m k) m.geometry.dies
    (λ k low. c.loop-die.invariant k (omega (arith, low, same))))
