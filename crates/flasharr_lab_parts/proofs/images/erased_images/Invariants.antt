use Rattle.std.proofs.Common.{◌≡◌, ◌≤◌, length}
use Rattle.std.specs.List.{AllByRecursion}
use Rattle.flasharr_lab_parts.proofs.images.erased_images.Given as goal

abbrev pub invariant-loop-die : goal.invariant-loop-die
invariant-loop-die g l = record {
  long : length l.images.items ≡ l.die;
  end : l.die-end ≡ l.geometry.dies;
  order : l.die ≤ l.die-end;
  shape : AllByRecursion (λ image. (g.I.Image.view image).geometry ≡ l.geometry) l.images.items;
}
