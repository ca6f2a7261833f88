use Rattle.fa_nego.proofs.StageLaws.{uses_what_is_wanted}
use Rattle.fa_nego.proofs.laws.uses_what_is_wanted.Goals as goal

pub returns : goal.returns
returns c = uses_what_is_wanted
