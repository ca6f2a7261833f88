use Rattle.std.proofs.Common.{◌≡◌, ◌||◌, ℕ, true}
use Rattle.fa_mount_headers.specs.Rules.{is_in}
use Rattle.fa_mount.specs.Phases.{AreMade, called_below, is_accepted}
use Rattle.fa_mount.specs.Told.{writing}
use Rattle.fa_mount.proofs.telling.mark_all.Given as goal

abbrev pub invariant-loop-die : goal.invariant-loop-die
invariant-loop-die g l = record {
  calls : AreMade g.I.Image.made l.dies (writing l.told true) (called_below l.told.mask l.die) l.fn.images l.images;
  marks : (d : ℕ) → is_in l.marked d ≡ (is_accepted (called_below l.told.mask l.die d) || is_in l.fn.marked d);
}
