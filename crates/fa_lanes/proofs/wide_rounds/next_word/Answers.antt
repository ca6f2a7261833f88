use Rattle.std.proofs.Common.{◌≡◌, ◌+◌, ◌%◌, [], arith, refl}
use Rattle.fa_lanes.proofs.WideLanes.{wide_lane_at}
use Rattle.fa_lanes.proofs.wide_rounds.next_word.Goals as goal

pub returns-clause-value : goal.returns-clause-value
returns-clause-value c = λ twice.
    let at : c.args.place % 16 ≡ c.args.place = omega arith in
    let near = twice ((c.args.place + 14) % 16) [] (omega arith) in
    let far = twice ((c.args.place + 1) % 16) [] (omega arith) in
    record {
      size = c.double-word.ensures.low.size;
      each = λ l lt. rw (
        at,
        wide_lane_at c.args.w.now _ l,
        wide_lane_at c.args.w.now _ l,
        wide_lane_at c.args.w.now _ l,
        wide_lane_at c.args.w.now _ l,
        c.double-word.ensures.low.each l lt,
        c.add-sum.ensures.each l lt,
        c.add.ensures.each l lt,
        c.add-near.ensures.each l lt,
        (c.small_sigma1.ensures near).each l lt,
        (c.small_sigma0.ensures far).each l lt,
      ) refl;
    }
