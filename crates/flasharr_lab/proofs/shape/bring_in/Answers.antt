use Rattle.fa_machine.specs.State.{MapState}
use Rattle.flasharr_lab.proofs.Few.{one_more}
use Rattle.std.proofs.Common.{ap, subst, sym, ◌+◌, ◌≤◌, ℕ}
use Rattle.std.specs.FinMap.{len}
use Rattle.flasharr_lab.proofs.shape.bring_in.Goals as goal

pub returns-then-not-is_live-clause-few : goal.returns-then-not-is_live-clause-few
returns-then-not-is_live-clause-few g c =
    let old = g.M.Map.view c.args.page_map.now in
    let Few : ℕ → Type 0 = λ n. n ≤ len old.live + 1 in
    subst Few (sym (ap (λ (m : MapState). len m.live) c.bring_in.ensures)) (one_more old.live c.args.die.0)
