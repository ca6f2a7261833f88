use Rattle.fa_ghost.specs.Contents.{after_deed}
use Rattle.fa_ghost.proofs.deed.note.Given as goal

abbrev pub ghost-note : goal.ghost-note
ghost-note a = after_deed
