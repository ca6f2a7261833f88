use Rattle.fa_machine.specs.State.{is_live}
use Rattle.fa_core_dispatch.proofs.Masks.{mask_below}
use Rattle.std.proofs.Common.{◌<◌, ◌≡◌, ◌^◌}
use Rattle.fa_core_dispatch.proofs.header.mask_of.Given as goal

abbrev pub invariant-loop-die : goal.invariant-loop-die
invariant-loop-die g l = (l.mask ≡ mask_below (is_live (g.M.Map.view l.page_map)) l.die) × (l.mask < 2 ^ l.die)
