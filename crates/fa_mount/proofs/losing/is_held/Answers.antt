use Rattle.std.proofs.Common.{◌&&◌, ap, arith, below_more, sym, ◌∙◌}
use Rattle.fa_core.specs.Array.{state_of}
use Rattle.fa_mount_headers.specs.Rules.{is_in}
use Rattle.fa_machine.specs.Copies.{holds_page}
use Rattle.fa_types.specs.declared.geometry.Geometry.{Geometry}
use Rattle.fa_mount.proofs.Lost.{none_below, some_below}
use Rattle.fa_mount.proofs.losing.is_held.Goals as goal

pub returns-then-is_holder : goal.returns-then-is_holder
returns-then-is_holder g c =
    let m = (state_of g.M.Map.view c.args.array.now).page_map in
    sym (some_below (λ k. is_in c.args.mask k && holds_page m c.args.page.0 k) m.geometry.dies c.loop-die.die
    (omega (arith, c.loop-die-test.true, ap (λ (x : Geometry). x.dies) c.geometry-die-end.ensures))
    (sym c.is_holder.ensures ∙ c.if-is_holder.true))

pub loop-die-preserved : goal.loop-die-preserved
loop-die-preserved g c = below_more _ _ c.loop-die.invariant (sym c.is_holder.ensures ∙ c.if-is_holder.false)

pub returns : goal.returns
returns g c =
    let m = (state_of g.M.Map.view c.args.array.now).page_map in
    sym (none_below (λ k. is_in c.args.mask k && holds_page m c.args.page.0 k) m.geometry.dies
    (λ k low. c.loop-die.invariant k
    (omega (arith, c.loop-die-test.false, low, ap (λ (x : Geometry). x.dies) c.geometry-die-end.ensures))))
