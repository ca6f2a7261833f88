use Rattle.std.proofs.Common.{rules}
use Rattle.std.proofs.lemmas.Bool.{and_from, both_ways}
use Rattle.fa_solo_job.proofs.Ended.{ran_kind}
use Rattle.fa_solo_job.proofs.Taken.{kept_flight, kind_at}
use Rattle.fa_solo_job.proofs.running.run_taken.Goals as goal

pub unreachable-requires : goal.unreachable-requires
unreachable-requires g c =
    let kind = kind_at _ c.args.job.now.flight c.call_image-outcome.result c.call_image-outcome.new.inner.buffer.items _
    (kept_flight c.args.inner.now c.call_image-outcome.new.inner c.args.die.0 c.args.job.now.flight c.call_image-outcome.ensures.rest c.requires.flight)
    (search rules) (ran_kind _ _ _ _ _ _ _ _ c.call_image-outcome.ensures.ran.ran) in
    both_ways _ c.in_default.ensures.none.0 (and_from _ _ kind (search rules))
