use Rattle.fa_sound.proofs.Readying.{begins_ready, step_ready}
use Rattle.fa_sound.proofs.sound.a_step_keeps_ready.Goals as goal

pub returns : goal.returns
returns c = record { begins = begins_ready; keeps = step_ready }
