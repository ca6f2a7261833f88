use Rattle.std.proofs.Common.{refl}
use Rattle.fa_lanes.proofs.Loading.{each_lane}
use Rattle.fa_lanes.proofs.WideLanes.{wide_lane_from_each}
use Rattle.fa_lanes.proofs.four.state_of_four.Goals as goal

pub returns : goal.returns
returns c = wide_lane_from_each c.args.state.now c.args.l _ c.told-state refl
    (each_lane _ c.word_in.ensures c.word_in-2.ensures c.word_in-3.ensures c.word_in-4.ensures c.word_in-5.ensures c.word_in-6.ensures
    c.word_in-7.ensures c.word_in-8.ensures)
