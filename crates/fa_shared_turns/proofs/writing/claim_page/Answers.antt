use Rattle.std.proofs.Common.{refl}
use Rattle.fa_machine.specs.Step.{Claim}
use Rattle.fa_shared_lock.specs.Moves.{Moved}
use Rattle.fa_shared_lock.proofs.Turns.{no_rise}
use Rattle.fa_shared_turns.proofs.writing.claim_page.Goals as goal

pub returns-in-Some-clause-turned : goal.returns-in-Some-clause-turned
returns-in-Some-clause-turned g c =
    Moved (Claim c.args.page.0 c.in-Some.answer) c.in-Some.ensures.some (no_rise c.in-Some.ensures.commits) (refl, c.claimed.ensures) tt
