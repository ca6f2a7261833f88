use Rattle.std.proofs.Common.{refl}
use Rattle.fa_solo_job.proofs.Chains.{does_fold}
use Rattle.fa_solo_job.specs.Deeds.{IsForDies}
use Rattle.fa_solo_job.proofs.running.fold_full.Goals as goal

pub returns-clause-does : goal.returns-clause-does
returns-clause-does g c = does_fold _ IsForDies _ _ tt c.make_room.ensures.folds c.make_room.ensures.rest refl refl
