use Rattle.std.proofs.Common.{ap}
use Rattle.fa_shared_steps.specs.declared.stage.Stage.TheVariants.{Reserving}
use Rattle.fa_shared_lock.proofs.Turns.{at_stage}
use Rattle.fa_shared_turns.proofs.writing.reserve_wish.Goals as goal

pub returns-in-Data-clause-turned : goal.returns-in-Data-clause-turned
returns-in-Data-clause-turned g c = λ t. at_stage (ap (λ wish. Reserving c.args.held wish) c.in-Data.is) (c.reserve_data.ensures.turned t)

pub returns-in-Fewer-clause-turned : goal.returns-in-Fewer-clause-turned
returns-in-Fewer-clause-turned g c = λ t. at_stage (ap (λ wish. Reserving c.args.held wish) c.in-Fewer.is) (c.reserve_on_fewer.ensures.turned t)

pub returns-in-Hole-clause-turned : goal.returns-in-Hole-clause-turned
returns-in-Hole-clause-turned g c = λ t. at_stage (ap (λ wish. Reserving c.args.held wish) c.in-Hole.is) (c.reserve_no_data.ensures.turned t)
