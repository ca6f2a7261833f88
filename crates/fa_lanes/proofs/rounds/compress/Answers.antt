use Rattle.std.proofs.Common.{ap, ◌∙◌, refl}
use Rattle.std.proofs.lemmas.List.{length-map}
use Rattle.sha2.specs.Sha256.{add_state, compress, rounds}
use Rattle.sha2.proofs.Schedule256.{IsWindow_first}
use Rattle.fa_lanes.specs.Lanes.{lane}
use Rattle.fa_lanes.proofs.rounds.compress.Goals as goal

pub returns : goal.returns
unfolding compress rounds
returns c = λ b l lt words.
    let h = lane c.args.state.now l in
    let window = IsWindow_first b (lane c.args.words l) (length-map c.args.words _ ∙ words.count) words.each in
    let s1 = c.first_four_steps-v.ensures b h l lt window refl in
    let s2 = c.first_four_steps-v-2.ensures b h l lt window s1 in
    let s3 = c.first_four_steps-v-3.ensures b h l lt window s2 in
    let s4 = c.first_four_steps-v-4.ensures b h l lt window s3 in
    let t1 = c.sixteen_steps-v.ensures b h l lt (window, s4) in
    let t2 = c.sixteen_steps-v-2.ensures b h l lt t1 in
    let t3 = c.sixteen_steps-v-3.ensures b h l lt t2 in
    c.add_states-added.ensures l lt ∙ ap (add_state h) t3.1
