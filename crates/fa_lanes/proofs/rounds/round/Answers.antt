use Rattle.std.proofs.Common.{refl}
use Rattle.fa_lanes.proofs.InLanes.{all_lanes, lane_at}
use Rattle.fa_lanes.proofs.rounds.round.Goals as goal

pub returns : goal.returns
returns c = λ l lt.
    let v = c.args.v in
    rw (
      lane_at v 0 l,
      lane_at v 1 l,
      lane_at v 2 l,
      lane_at v 3 l,
      lane_at v 4 l,
      lane_at v 5 l,
      lane_at v 6 l,
      lane_at v 7 l,
      c.add-3.ensures.each l lt,
      c.add-4.ensures.each l lt,
      c.add-temp1.ensures.each l lt,
      c.add-temp2.ensures.each l lt,
      c.add-2.ensures.each l lt,
      (all_lanes c.args.k).each l lt,
      c.add-mixed.ensures.each l lt,
      c.add.ensures.each l lt,
      c.big_sigma1.ensures.each l lt,
      c.ch.ensures.each l lt,
      c.big_sigma0.ensures.each l lt,
      c.maj.ensures.each l lt,
    ) refl
