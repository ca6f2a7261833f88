use Rattle.fa_settings.proofs.Verdicts.{verdict}
use Rattle.fa_settings.proofs.laws.settings_or_fault.Goals as goal

pub returns : goal.returns
returns c text settings fault says of = verdict _ text settings fault says of
