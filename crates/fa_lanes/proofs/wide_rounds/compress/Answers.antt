use Rattle.std.proofs.Common.{ap, ◌∙◌, refl}
use Rattle.std.proofs.lemmas.List.{length-map}
use Rattle.sha2.specs.Sha256.{add_state, compress, rounds}
use Rattle.sha2.proofs.Schedule256.{IsWindow_first}
use Rattle.fa_lanes.specs.Wide.{wide_lane}
use Rattle.fa_lanes.proofs.wide_rounds.compress.Goals as goal

pub returns-clause-lanes : goal.returns-clause-lanes
unfolding compress rounds
returns-clause-lanes c = λ b l lt twice words has.
    let h = wide_lane c.args.state.now l in
    let window = IsWindow_first b (wide_lane c.args.words l) (length-map c.args.words _ ∙ has.count) has.each in
    let t1 = c.first_four_steps-v.ensures.twice twice in
    let t2 = c.first_four_steps-v-2.ensures.twice t1 in
    let t3 = c.first_four_steps-v-3.ensures.twice t2 in
    let t4 = c.first_four_steps-v-4.ensures.twice t3 in
    let t5 = c.sixteen_steps-v.ensures.twice t4 in
    let t6 = c.sixteen_steps-v-2.ensures.twice t5 in
    let w1 = c.sixteen_steps-v.ensures.words words in
    let w2 = c.sixteen_steps-v-2.ensures.words w1 in
    let s1 = c.first_four_steps-v.ensures.lanes b h l lt twice window refl in
    let s2 = c.first_four_steps-v-2.ensures.lanes b h l lt t1 window s1 in
    let s3 = c.first_four_steps-v-3.ensures.lanes b h l lt t2 window s2 in
    let s4 = c.first_four_steps-v-4.ensures.lanes b h l lt t3 window s3 in
    let r1 = c.sixteen_steps-v.ensures.lanes b h l lt words t4 (window, s4) in
    let r2 = c.sixteen_steps-v-2.ensures.lanes b h l lt w1 t5 r1 in
    let r3 = c.sixteen_steps-v-3.ensures.lanes b h l lt w2 t6 r2 in
    c.add_states-added.ensures.lanes l lt ∙ ap (add_state h) r3.1
