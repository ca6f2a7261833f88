use Rattle.std.proofs.Common.{◌≡◌, ◌*◌}
use Rattle.fa_mount_headers.proofs.Erasing.{erased_to}
use Rattle.fa_mount_headers.proofs.formatting.erase_all.Given as goal

abbrev pub invariant-loop-block : goal.invariant-loop-block
invariant-loop-block g l =
    let view = g.I.Image.view in record {
      erased : view l.image ≡ erased_to (l.block * (view l.fn.image).geometry.slots) (view l.fn.image);
      honest : g.I.Image.honest l.image ≡ g.I.Image.honest l.fn.image;
    }
