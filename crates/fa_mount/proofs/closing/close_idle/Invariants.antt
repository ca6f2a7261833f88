use Rattle.std.proofs.Common.{◌≡◌}
use Rattle.fa_core.specs.Array.{number_of, state_of}
use Rattle.fa_mount_headers.specs.Rules.{is_in}
use Rattle.fa_mount.proofs.Ended.{AreCalled}
use Rattle.fa_mount.specs.Closing.{AreLeft, how_many}
use Rattle.fa_mount.specs.Told.{IsTold}
use Rattle.fa_mount.proofs.closing.close_idle.Given as goal

abbrev pub invariant-loop-page : goal.invariant-loop-page
invariant-loop-page g l =
    let core = state_of g.M.Map.view l.array in record {
      shape : l.told.geometry ≡ core.page_map.geometry;
      number : l.told.array ≡ number_of l.array;
      left : AreLeft core l.told.epoch l.told.mask;
      told : IsTold l.told;
      images : AreCalled g.I.Image.made core (number_of l.array) l.dies l.fn.images l.told.epoch l.told.mask l.marked l.images;
    }

abbrev pub decreases-loop-page : goal.decreases-loop-page
decreases-loop-page g l = how_many l.told.geometry.dies (is_in l.told.mask)
