use Rattle.fa_core.specs.Array.{IsWhole}
use Rattle.flasharr_lab.proofs.array_lines.over_array.Given as goal

abbrev pub invariant-lines : goal.invariant-lines
invariant-lines g l = IsWhole g.M.Map.view l.mounted.array
