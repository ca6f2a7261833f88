use Rattle.std.proofs.Common.{subst}
use Rattle.fa_solo_job.proofs.Chains.{does_none}
use Rattle.fa_solo_job.specs.Deeds.{IsAwaited, IsForDies}
use Rattle.fa_solo.proofs.jobs.pass_for.Goals as goal

pub returns-then-not-is_read : goal.returns-then-not-is_read
returns-then-not-is_read g c = does_none _ IsForDies _

pub pass_round-requires : goal.pass_round-requires
pass_round-requires g c = subst IsAwaited c.array.ensures.state (c.is_read.ensures.yes c.if-not-is_read.false)
