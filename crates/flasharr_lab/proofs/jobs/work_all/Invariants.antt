use Rattle.fa_core.specs.Array.{IsWhole}
use Rattle.flasharr_lab.proofs.jobs.work_all.Given as goal

abbrev pub invariant-loop-die : goal.invariant-loop-die
invariant-loop-die g l = IsWhole g.M.Map.view l.mounted.array
