use Rattle.std.proofs.Common.{◌≡◌, ◌+◌, length}
use Rattle.std.specs.List.{AllByRecursion}
use Rattle.std.specs.Vec.Iter.{into_iter_items}
use Rattle.fa_prog_images.specs.Formatting.{IsEmptied}
use Rattle.fa_prog_images.proofs.format.empty_all.Given as goal

abbrev pub invariant-loop-image : goal.invariant-loop-image
invariant-loop-image g l = record {
  more : (goal.iterator-loop-image g).can_next l.image-iterator;
  ends : (goal.iterator-loop-image g).is_finite l.image-iterator;
  long : length l.images.items + length (into_iter_items l.image-iterator) ≡ length l.settings.images.items;
  left : AllByRecursion (λ image. image.geometry ≡ l.settings.geometry) (into_iter_items l.image-iterator);
  emptied : AllByRecursion (IsEmptied l.settings) l.images.items;
}
