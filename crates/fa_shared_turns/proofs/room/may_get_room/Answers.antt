use Rattle.std.proofs.Common.{◌≡◌, ap, arith, false, ℕ}
use borrow.Author.Count.{below_more}
use Rattle.fa_shared_lock.specs.Founded.{may_free}
use Rattle.fa_types.specs.declared.geometry.Geometry.{Geometry}
use Rattle.fa_shared_turns.proofs.Rooms.{none_among}
use Rattle.fa_shared_turns.proofs.room.may_get_room.Goals as goal

pub returns : goal.returns
returns g c =
    let m = (g.E.Looks.core c.args.array.now).page_map in
    let dies = ap (λ (k : Geometry). k.dies) c.geometry-die-end.ensures in
    let all = c.loop-die-test.false in
    λ is. none_among (may_free m) 0 m.geometry.dies (λ die low high. c.loop-die.invariant die (omega (arith, high, dies, all)))

pub loop-die-preserved : goal.loop-die-preserved
loop-die-preserved g c =
    let m = (g.E.Looks.core c.args.array.now).page_map in
    below_more (λ (die : ℕ). may_free m die ≡ false) c.loop-die.die c.loop-die.invariant (c.may_free.ensures c.if-may_free.false)
