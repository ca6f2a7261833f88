use Rattle.std.proofs.Common.{◌≡◌, ◌≤◌, ◌*◌, ◌^◌}
use Rattle.std.specs.Prelude.{is_none}
use Rattle.fa_machine.specs.Collecting.{count_in}
use Rattle.fa_machine.specs.Copies.{is_held_slot, is_stale_slot}
use Rattle.fa_prog_images.specs.Table.{sum_below}
use Rattle.fa_prog_images.proofs.table.slots_of.Given as goal

abbrev pub invariant-loop-block : goal.invariant-loop-block
invariant-loop-block g l = record {
  end : l.block-end ≡ (g.M.Map.view l.map).geometry.blocks;
  order : l.block ≤ l.block-end;
  erased_few : l.counts.erased ≤ l.block * 2 ^ 32;
  current_few : l.counts.current ≤ l.block * 2 ^ 32;
  stale_few : l.counts.stale ≤ l.block * 2 ^ 32;
  erased : l.counts.erased ≡ sum_below (λ block. count_in (g.M.Map.view l.map) l.die.0 block is_none) l.block;
  current : l.counts.current ≡ sum_below (λ block. count_in (g.M.Map.view l.map) l.die.0 block is_held_slot) l.block;
  stale : l.counts.stale ≡ sum_below (λ block. count_in (g.M.Map.view l.map) l.die.0 block is_stale_slot) l.block;
}
