use Rattle.std.proofs.Common.{◌∙◌, ap, refl, sym}
use Rattle.fa_machine.specs.State.{Core}
use Rattle.fa_machine.specs.Step.{ReserveFewer}
use Rattle.fa_shared_lock.specs.Founded.{may_collect}
use Rattle.fa_shared_lock.specs.Moves.{Moved, Strayed}
use Rattle.fa_shared_turns.proofs.Rooms.{founded_fewer}
use Rattle.fa_shared_lock.proofs.Turns.{no_rise}
use Rattle.fa_shared_turns.proofs.writing.reserve_on_fewer.Goals as goal

pub returns-in-Some-clause-turned : goal.returns-in-Some-clause-turned
returns-in-Some-clause-turned g c =
    λ t. Moved (ReserveFewer c.args.held.claim.0 c.args.payload c.in-Some.answer) c.in-Some.ensures.some
    (no_rise c.in-Some.ensures.commits) (refl, refl, c.reserved.ensures.after)
    (founded_fewer c.args.locked.now.core c.args.held c.args.payload c.args.held.claim.0 c.args.payload c.in-Some.answer
    c.may_get_room-waits.result c.reserved.result (λ none. ap (λ (core : Core). may_collect core.page_map) (sym c.array.ensures.state)
    ∙ c.may_get_room-waits.ensures none) c.reserved.ensures.waits)

pub returns-in-None-clause-turned : goal.returns-in-None-clause-turned
returns-in-None-clause-turned g c =
    λ t. Strayed c.in-None.ensures.none.1 c.in-None.ensures.commits refl c.in-None.ensures.none.0
