use Rattle.std.proofs.Common.{arith}
use Rattle.sha2.proofs.Schedule256.{IsRoundsAt_at}
use Rattle.fa_lanes.proofs.wide_rounds.sixteen_steps.Goals as goal

pub returns-clause-lanes : goal.returns-clause-lanes
returns-clause-lanes c = λ b h l lt words twice held.
    let w1 = c.four_steps-v.ensures.words words in
    let w2 = c.four_steps-v-2.ensures.words w1 in
    let w3 = c.four_steps-v-3.ensures.words w2 in
    let t1 = c.four_steps-v.ensures.twice twice in
    let t2 = c.four_steps-v-2.ensures.twice t1 in
    let t3 = c.four_steps-v-3.ensures.twice t2 in
    let s1 = c.four_steps-v.ensures.lanes b h l lt words twice (IsRoundsAt_at b h _ _ _ _ (omega arith) held) in
    let s2 = c.four_steps-v-2.ensures.lanes b h l lt w1 t1 s1 in
    let s3 = c.four_steps-v-3.ensures.lanes b h l lt w2 t2 s2 in
    let s4 = c.four_steps.ensures.lanes b h l lt w3 t3 s3 in
    IsRoundsAt_at b h _ _ _ _ (omega arith) s4

pub returns-clause-words : goal.returns-clause-words
returns-clause-words c = λ words.
    c.four_steps.ensures.words (c.four_steps-v-3.ensures.words (c.four_steps-v-2.ensures.words (c.four_steps-v.ensures.words words)))

pub returns-clause-twice : goal.returns-clause-twice
returns-clause-twice c = λ twice.
    c.four_steps.ensures.twice (c.four_steps-v-3.ensures.twice (c.four_steps-v-2.ensures.twice (c.four_steps-v.ensures.twice twice)))
