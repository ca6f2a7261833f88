use Rattle.fa_machine.specs.Placement.{copy_place, is_thin}
use Rattle.std.proofs.Common.{◌-◌, ◌<◌, ◌≡◌, false, ℕ}
use Rattle.std.specs.Prelude.{is_some, ◌&&◌}
use Rattle.fa_mirror.proofs.thin.next_placed.Given as goal

abbrev pub invariant-loop-page : goal.invariant-loop-page
invariant-loop-page g l =
    let m = g.M.Map.view l.map in
    (k : ℕ) → k < l.from.0 → (is_thin l.copies.number m k && is_some (copy_place l.copies.number m k)) ≡ false

abbrev pub decreases-loop-page : goal.decreases-loop-page
decreases-loop-page g l = (g.M.Map.view l.map).geometry.pages - l.from.0
