use Rattle.std.proofs.Common.{◌≡◌, ◌-◌, ◌≤◌}
use Rattle.fa_mount_scan.specs.Pages.{written_from}
use Rattle.fa_mount_scan.proofs.pages.PagesIterator.next.Given as goal

-- only pages that were never written were passed over
abbrev pub invariant-loop-self : goal.invariant-loop-self
invariant-loop-self g l = record {
  within : l.self-inside.next ≤ (g.M.Map.view l.self-inside.map.now).geometry.pages;
  left : written_from (g.M.Map.view l.self-inside.map.now) l.self-inside.next ≡ l.fn.self;
}

abbrev pub decreases-loop-self : goal.decreases-loop-self
decreases-loop-self g l = (g.M.Map.view l.self-inside.map.now).geometry.pages - l.self-inside.next
