use Rattle.std.proofs.Common.{◌≡◌, ◌≤◌, length, map, true, false}
use Rattle.std.specs.List.{AllByRecursion}
use Rattle.fa_prog_host.specs.Opened.{AreRising, WasSynced}
use Rattle.fa_settings.specs.Terms.{leaves_aside}
use Rattle.fa_prog_host.proofs.images.open_images.Given as goal

abbrev pub invariant-loop-place : goal.invariant-loop-place
invariant-loop-place g l = record {
  end : l.count ≡ length l.settings.images.items;
  order : l.place ≤ l.count;
  each : length l.places.items ≡ length l.images.items;
  rising : AreRising 0 l.place l.places.items;
  all : leaves_aside l.opening.terms ≡ false → length l.places.items ≡ l.place;
  shape : AllByRecursion (λ image. image.geometry ≡ l.settings.geometry) (map (λ watched. watched.image) l.images.items);
  synced : l.opening.syncs ≡ true → AllByRecursion (WasSynced l.opening.terms) (map (λ watched. watched.image) l.images.items);
}
