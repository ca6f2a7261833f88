use Rattle.fa_ghost.proofs.history.History.note.Given as goal

abbrev pub ghost-beside : goal.ghost-beside
ghost-beside g a = g.step a._event.now a.self.now.shown
