use Rattle.std.proofs.Common.{ap, ◌∙◌, arith}
use Rattle.sha2.specs.Sha256.{rounds, schedule}
use Rattle.fa_lanes.proofs.wide_rounds.first_four_steps.Goals as goal

pub returns-clause-lanes : goal.returns-clause-lanes
returns-clause-lanes c = λ b h l lt twice window held.
    let after = rounds h (schedule b 48) in
    let t1 = c.first_step-v.ensures.twice twice in
    let t2 = c.first_step-v-2.ensures.twice t1 in
    let t3 = c.first_step-v-3.ensures.twice t2 in
    let s1 = c.first_step-v.ensures.lanes b h l lt twice window held in
    let s2 = c.first_step-v-2.ensures.lanes b h l lt t1 window s1 in
    let s3 = c.first_step-v-3.ensures.lanes b h l lt t2 window (s2 ∙ ap after (omega arith)) in
    c.first_step.ensures.lanes b h l lt t3 window (s3 ∙ ap after (omega arith)) ∙ ap after (omega arith)

pub returns-clause-twice : goal.returns-clause-twice
returns-clause-twice c = λ twice.
    c.first_step.ensures.twice (c.first_step-v-3.ensures.twice (c.first_step-v-2.ensures.twice (c.first_step-v.ensures.twice twice)))
