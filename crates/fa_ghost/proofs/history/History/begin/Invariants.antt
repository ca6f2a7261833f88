use Rattle.fa_ghost.proofs.history.History.begin.Given as goal

abbrev pub ghost-of : goal.ghost-of
ghost-of g a = g.first a._event.now
