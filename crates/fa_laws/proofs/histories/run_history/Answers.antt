use Rattle.fa_laws.proofs.Growth.{history_over, counts_over, fold_keeps}
use Rattle.fa_laws.proofs.histories.run_history.Goals as goal

pub returns : goal.returns
returns c = record { history = history_over; counted = counts_over; folded = fold_keeps }
