use Rattle.fa_laws.proofs.Erasing.{erased_by}
use Rattle.fa_laws.proofs.steps.only_an_erase_erases.Goals as goal

pub returns : goal.returns
returns c old new act die slot step alive used gone = erased_by old new act die slot step alive used gone
