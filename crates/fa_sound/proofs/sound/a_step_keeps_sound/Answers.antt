use Rattle.fa_sound.proofs.Steps.{event}
use Rattle.fa_sound.proofs.sound.a_step_keeps_sound.Goals as goal

pub returns : goal.returns
returns c old new act s h = event old h act new s.allows s.does
