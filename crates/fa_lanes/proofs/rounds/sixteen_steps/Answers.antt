use Rattle.std.proofs.Common.{arith}
use Rattle.sha2.proofs.Schedule256.{IsRoundsAt_at}
use Rattle.fa_lanes.proofs.rounds.sixteen_steps.Goals as goal

pub returns : goal.returns
returns c = λ b h l lt held.
    let s1 = c.four_steps-v.ensures b h l lt (IsRoundsAt_at b h _ _ _ _ (omega arith) held) in
    let s2 = c.four_steps-v-2.ensures b h l lt s1 in
    let s3 = c.four_steps-v-3.ensures b h l lt s2 in
    let s4 = c.four_steps.ensures b h l lt s3 in
    IsRoundsAt_at b h _ _ _ _ (omega arith) s4
