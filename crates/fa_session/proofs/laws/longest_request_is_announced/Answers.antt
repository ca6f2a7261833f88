use Rattle.std.proofs.Common.{refl}
use Rattle.fa_nego.specs.Negotiation.{block_size_info}
use Rattle.fa_session.proofs.laws.longest_request_is_announced.Goals as goal

pub returns : goal.returns
unfolding block_size_info
returns c = refl
