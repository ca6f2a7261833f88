use Rattle.std.proofs.Common.{◌≡◌, ◌≤◌, length}
use Rattle.std.specs.List.{AllByRecursion}
use Rattle.fa_prog_images.proofs.format.open_all.Given as goal

abbrev pub invariant-loop-place : goal.invariant-loop-place
invariant-loop-place g l = record {
  long : length l.images.items ≡ l.place;
  end : l.place-end ≡ length l.settings.images.items;
  order : l.place ≤ l.place-end;
  shape : AllByRecursion (λ image. image.geometry ≡ l.settings.geometry) l.images.items;
}
