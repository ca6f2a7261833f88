use Rattle.std.proofs.Common.{◌&&◌, false}
use Rattle.fa_mount_headers.specs.Rules.{is_in}
use Rattle.fa_mount.proofs.Tried.{Tried, tried_below}
use Rattle.fa_mount.specs.Phases.{ByDie}
use Rattle.fa_mount.specs.Told.{writing}
use Rattle.fa_mount.proofs.telling.unmark_all.Given as goal

abbrev pub invariant-loop-die : goal.invariant-loop-die
invariant-loop-die g l =
    let made = g.I.Image.made in
    let call = writing l.told false in
    ByDie l.dies (Tried made call (tried_below made call (λ d. is_in l.told.mask d && is_in l.marked d) l.die)) l.fn.images l.images
