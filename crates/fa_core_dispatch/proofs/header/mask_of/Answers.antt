use Rattle.fa_machine.specs.State.{is_live}
use Rattle.fa_core_dispatch.proofs.Masks.{fits_word, mask_below, mask_more, still_below}
use Rattle.fa_types.specs.declared.geometry.Geometry.{Geometry}
use Rattle.std.proofs.Common.{ap, arith, refl, subst, sym, ◌+◌, ◌<◌, ◌∙◌, ◌≡◌, ◌^◌}
use Rattle.fa_core_dispatch.proofs.header.mask_of.Goals as goal

pub loop-die-init : goal.loop-die-init
loop-die-init g c = (refl, omega arith)

pub overflow_add-mask : goal.overflow_add-mask
overflow_add-mask g c =
    let live = is_live (g.M.Map.view c.args.page_map.now) in
    let low = fits_word live c.loop-die.mask c.loop-die.die c.geometry-die-end.result.dies c.loop-die.invariant.1 c.loop-die-test.true
    c.geometry-die-end.result.within.dies_fit.most in
    let fits : c.loop-die.mask + c.bit_of-mask.result < 2 ^ 64 =
    subst (λ n. c.loop-die.mask + n < 2 ^ 64) (sym c.bit_of-mask.ensures) low in
    omega (arith, fits)

pub loop-die-preserved : goal.loop-die-preserved
loop-die-preserved g c =
    let live = is_live (g.M.Map.view c.args.page_map.now) in (
      (λ i. c.loop-die.invariant.0 i + c.bit_of-mask.ensures i) ∙ sym (mask_more live c.loop-die.die),
      subst (λ n. c.loop-die.mask + n < 2 ^ (c.loop-die.die + 1)) (sym c.bit_of-mask.ensures)
          (still_below live c.loop-die.mask c.loop-die.die c.loop-die.invariant.1),
    )

pub returns : goal.returns
returns g c =
    let live = is_live (g.M.Map.view c.args.page_map.now) in
    let high = c.loop-die-test.false in let top = c.loop-die.auto.die-end in
    let all : c.loop-die.die ≡ c.geometry-die-end.result.dies = omega (arith, high, top) in
    c.loop-die.invariant.0 ∙ ap (mask_below live) (all ∙ ap (λ (k : Geometry). k.dies) c.geometry-die-end.ensures)
