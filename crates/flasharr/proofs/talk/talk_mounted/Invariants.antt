use Rattle.flasharr.proofs.talk.talk_mounted.Given as goal

-- the ledger is that of the blank
abbrev pub ghosts-converse : goal.ghosts-converse
ghosts-converse g a = record { name = a.blank.name; parts = a.blank.parts }
