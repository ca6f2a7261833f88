use Rattle.fa_core.specs.Array.{IsWhole}
use Rattle.flasharr_lab.proofs.owning.own.Given as goal

abbrev pub invariant-stores : goal.invariant-stores
invariant-stores g l = IsWhole g.M.Map.view l.mounted.array

-- the ledger is that of the blank
abbrev pub ghosts-over_store : goal.ghosts-over_store
ghosts-over_store g a = record { name = a.blank.name; parts = a.blank.parts }
