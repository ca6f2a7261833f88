use Rattle.std.proofs.Common.{refl}
use Rattle.fa_machine.specs.Step.{Release}
use Rattle.fa_shared_lock.specs.Moves.{Moved}
use Rattle.fa_shared_lock.proofs.Turns.{no_rise}
use Rattle.fa_shared_turns.proofs.writing.release_page.Goals as goal

pub returns-then-is_reserved-clause-turned : goal.returns-then-is_reserved-clause-turned
returns-then-is_reserved-clause-turned g c = c.give_up.ensures.turned c.args.task

pub returns-in-Some-clause-turned : goal.returns-in-Some-clause-turned
returns-in-Some-clause-turned g c =
    Moved (Release c.args.held.claim.0) c.in-Some.ensures.some (no_rise c.in-Some.ensures.commits) (refl, c.released.ensures) tt
