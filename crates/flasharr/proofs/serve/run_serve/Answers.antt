use Rattle.std.proofs.Common.{inr}
use Rattle.flasharr.proofs.serve.run_serve.Goals as goal

pub returns-in-Ok : goal.returns-in-Ok
returns-in-Ok g c = inr c.listen.ensures
