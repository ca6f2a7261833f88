use Rattle.fa_mount.proofs.Greatest.{IsGreatestBelow}
use Rattle.fa_mount.proofs.beginning.last_number.Given as goal

abbrev pub invariant-loop-page : goal.invariant-loop-page
invariant-loop-page g l = IsGreatestBelow (g.M.Map.view l.map) l.page l.last
