use Rattle.fa_image.specs.Image.{Syncing}
use Rattle.fa_mount.specs.Phases.{AreMade, called_below}
use Rattle.fa_mount.proofs.telling.sync_all.Given as goal

abbrev pub invariant-loop-die : goal.invariant-loop-die
invariant-loop-die g l = AreMade g.I.Image.made l.dies (λ die. Syncing) (called_below l.told.mask l.die) l.fn.images l.images
