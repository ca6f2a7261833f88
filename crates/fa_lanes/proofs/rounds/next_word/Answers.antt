use Rattle.std.proofs.Common.{◌≡◌, ◌%◌, arith, refl}
use Rattle.fa_lanes.proofs.InLanes.{lane_at}
use Rattle.fa_lanes.proofs.rounds.next_word.Goals as goal

pub returns-clause-value : goal.returns-clause-value
returns-clause-value c =
    let at : c.args.place % 16 ≡ c.args.place = omega arith in
    record {
      size = c.add-word.ensures.size;
      each = λ l lt. rw (
        at,
        lane_at c.args.w.now _ l,
        lane_at c.args.w.now _ l,
        lane_at c.args.w.now _ l,
        lane_at c.args.w.now _ l,
        c.add-word.ensures.each l lt,
        c.add.ensures.each l lt,
        c.add-near.ensures.each l lt,
        c.small_sigma1.ensures.each l lt,
        c.small_sigma0.ensures.each l lt,
      ) refl;
    }
