use Rattle.fa_ghost.proofs.history.History.of.Given as goal

abbrev pub ghost-new : goal.ghost-new
ghost-new g a = g.shown
