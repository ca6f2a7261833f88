use Rattle.fa_solo_laws.proofs.Epochs.{counts_dies}
use Rattle.fa_solo_laws.proofs.rounds.the_epoch_counts_dies.Goals as goal

pub returns : goal.returns
returns c old new act step = counts_dies old act new step.does
