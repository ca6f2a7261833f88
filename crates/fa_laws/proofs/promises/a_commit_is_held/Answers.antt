use Rattle.fa_laws.proofs.Staying.{commit_is_held}
use Rattle.fa_laws.proofs.promises.a_commit_is_held.Goals as goal

pub returns : goal.returns
returns c w after claim seat die seq r reached happens is one = commit_is_held w after claim seat die seq r reached happens is one
