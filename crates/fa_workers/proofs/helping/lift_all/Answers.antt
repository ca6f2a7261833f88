use Rattle.std.proofs.Common.{map, subst, sym, []}
use Rattle.fa_shared_lock.specs.Only.{IsPart, NoPart, dies_told}
use Rattle.fa_workers.proofs.Held.{part_next}
use Rattle.fa_workers.specs.Held.{told_of}
use Rattle.fa_workers.proofs.helping.lift_all.Goals as goal

pub loop-index-init : goal.loop-index-init
loop-index-init g c = subst (λ jobs. IsPart (dies_told (map told_of jobs)) []) (sym c.clear.ensures.items) NoPart

pub loop-index-preserved : goal.loop-index-preserved
loop-index-preserved g c =
    part_next c.args.dies.now c.loop-index.index _ (map told_of c.loop-index.made.items) (map told_of c.lift_made.new.made.items)
    c.loop-index-test.true c.lift_made.ensures c.loop-index.invariant
