use Rattle.std.proofs.Common.{refl, arith}
use Rattle.fa_mount_scan.specs.Recovering.{is_gone}
use Rattle.fa_mount_scan.proofs.Tallying.{at_most_one, counted_fits, one_more_page}
use Rattle.fa_mount_scan.proofs.slots.missing.count_gone.Goals as goal

pub overflow_add-gone : goal.overflow_add-gone
overflow_add-gone g c =
    let test = is_gone c.args.mask c.args.standings.now c.args.outcomes.now in
    let some = counted_fits test c.loop-die.die c.loop-die.gone c.loop-die.invariant in
    let one = at_most_one c.one_if_gone-gone.result (test c.loop-die.die) c.one_if_gone-gone.ensures in
    let few = c.requires.few in
    let below = c.loop-die-test.true in
    omega (arith, some, one, few, below)

pub loop-die-preserved : goal.loop-die-preserved
loop-die-preserved g c =
    let test = is_gone c.args.mask c.args.standings.now c.args.outcomes.now in
    one_more_page test c.loop-die.die c.loop-die.gone c.one_if_gone-gone.result (test c.loop-die.die) c.loop-die.invariant
    c.one_if_gone-gone.ensures refl
