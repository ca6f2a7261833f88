use Rattle.flasharr_tests.proofs.reopened.open_again.Given as goal

abbrev pub ghost-open : goal.ghost-open
ghost-open g a = g.start
