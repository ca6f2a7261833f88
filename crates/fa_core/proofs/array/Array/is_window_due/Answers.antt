use Rattle.fa_core.proofs.array.Array.is_window_due.Goals as goal
use Rattle.fa_core.specs.Array.{state_of}
use Rattle.fa_core_calls.specs.Windows.{lacks_window}
use Rattle.fa_core_state.proofs.Below.{any_fails, any_passes}
use Rattle.fa_types.specs.declared.geometry.Geometry.{Geometry}
use Rattle.std.proofs.Common.{◌≡◌, ◌<◌, ◌∙◌, ap, arith, false, inl, inr, subst, sym}
use Rattle.std.proofs.lemmas.Bool.{cases_lt}

pub loop-die-preserved : goal.loop-die-preserved
loop-die-preserved g c = λ k low.
    let core = state_of g.M.Map.view c.args.self.now in
    let die = c.loop-die.die in
    let here : lacks_window core die ≡ false = sym c.lacks_window.ensures ∙ c.if-lacks_window.false in
    elim (cases_lt k die) [
      | inl before ↦ c.loop-die.invariant k before
      | inr same ↦ subst (λ n. lacks_window core n ≡ false) (omega (arith, low, same)) here
    ]

pub returns-then-lacks_window : goal.returns-then-lacks_window
returns-then-lacks_window g c =
    let core = state_of g.M.Map.view c.args.self.now in
    let die = c.loop-die.die in
    let low : die < core.page_map.geometry.dies = subst (λ (k : Geometry). die < k.dies) c.geometry-die-end.ensures c.loop-die-test.true in
    sym (any_passes (lacks_window core) core.page_map.geometry.dies die low (sym c.lacks_window.ensures ∙ c.if-lacks_window.true))

pub returns : goal.returns
returns g c =
    let core = state_of g.M.Map.view c.args.self.now in
    let same : c.loop-die.die ≡ core.page_map.geometry.dies =
    (let low = c.loop-die.auto.die-end in let high = c.loop-die-test.false in omega (arith, low, high))
    ∙ ap (λ (k : Geometry). k.dies) c.geometry-die-end.ensures in
    sym (any_fails (lacks_window core) core.page_map.geometry.dies (λ k low. c.loop-die.invariant k (omega (arith, low, same))))
