use Rattle.fa_sound.proofs.Beginning.{beginning_sound}
use Rattle.fa_sound.proofs.sound.a_beginning_is_sound.Goals as goal

pub returns : goal.returns
returns c w b = beginning_sound w b
