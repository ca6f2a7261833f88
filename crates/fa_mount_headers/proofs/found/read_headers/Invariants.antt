use Rattle.std.proofs.Common.{◌≡◌, ◌≤◌, length, vec_capacity}
use Rattle.fa_mount_headers.specs.Found.{ReadsHeaders}
use Rattle.fa_mount_headers.proofs.found.read_headers.Given as goal

abbrev pub invariant-loop-index : goal.invariant-loop-index
invariant-loop-index g l = record {
  read : ReadsHeaders g.I.Image.view g.I.Image.made l.fn.images l.images l.founds.items;
  count : length l.founds.items ≡ l.index;
  room : l.index-end ≤ vec_capacity l.founds;
}
