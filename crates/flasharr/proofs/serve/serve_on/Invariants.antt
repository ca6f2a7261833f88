use Rattle.flasharr.proofs.serve.serve_on.Given as goal

-- the ledger is that of the blank
abbrev pub ghosts-serve_mounted : goal.ghosts-serve_mounted
ghosts-serve_mounted g a = record { name = a.blank.name; parts = a.blank.parts }
