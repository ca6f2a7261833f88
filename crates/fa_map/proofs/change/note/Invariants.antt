use Rattle.fa_map.specs.Changed.{changed}
use Rattle.fa_map.proofs.change.note.Given as goal

abbrev pub ghost-note : goal.ghost-note
ghost-note a = changed
