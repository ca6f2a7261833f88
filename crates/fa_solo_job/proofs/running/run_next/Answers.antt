use Rattle.fa_solo_job.proofs.Chains.{does_more, does_none}
use Rattle.fa_solo_job.specs.Deeds.{IsForDies}
use Rattle.fa_solo_job.proofs.running.run_next.Goals as goal

pub returns-then-not-is_of_array : goal.returns-then-not-is_of_array
returns-then-not-is_of_array g c = does_none _ IsForDies _

pub returns-then-not-has_memory : goal.returns-then-not-has_memory
returns-then-not-has_memory g c = does_none _ IsForDies _

pub returns-in_default : goal.returns-in_default
returns-in_default g c = does_none _ IsForDies _

pub returns : goal.returns
returns g c = does_more _ IsForDies _ _ _ c.fold_full.ensures.does c.run_here.ensures
