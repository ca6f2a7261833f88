use Rattle.std.proofs.Common.{false, refl}
use Rattle.fa_batch_terms.proofs.Counting.{get_or-replicate_default}
use Rattle.fa_cert.proofs.checker.holders_of.Goals as goal

pub loop-page-init : goal.loop-page-init
loop-page-init g c = (refl, λ die. get_or-replicate_default 256 die false)
