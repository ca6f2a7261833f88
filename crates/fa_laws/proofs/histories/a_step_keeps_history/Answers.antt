use Rattle.fa_laws.proofs.Growth.{step_counts, step_history}
use Rattle.fa_laws.proofs.histories.a_step_keeps_history.Goals as goal

pub returns : goal.returns
returns c = record { history = step_history; counted = step_counts }
