use Rattle.std.proofs.Common.{subst}
use Rattle.fa_core_calls.specs.Calls.{FitsAnswer}
use Rattle.fa_shared_lock.specs.Locked.{LockedState}
use Rattle.fa_shared_lock.proofs.locked.Locked.step.Goals as goal

pub returns-clause-fits : goal.returns-clause-fits
returns-clause-fits g c =
    subst (λ (s : LockedState). FitsAnswer s.core.page_map.geometry s.number c.args.call c.make_counted.result) c.self.view_is
    c.make_counted.ensures.fits
