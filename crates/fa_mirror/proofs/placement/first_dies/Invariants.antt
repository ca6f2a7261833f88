use Rattle.fa_machine.specs.State.{is_live}
use Rattle.fa_mirror.proofs.Looks.{chosen}
use Rattle.fa_mirror.proofs.placement.first_dies.Given as goal
use Rattle.fa_mirror.specs.Order.{looks, numbers_of}
use Rattle.std.proofs.Common.{◌≡◌}

abbrev pub invariant-loop-look : goal.invariant-loop-look
invariant-loop-look g l =
    numbers_of l.placing ≡ chosen (looks l.order.copies l.order.homes l.order.dies) (is_live (g.M.Map.view l.map)) l.asked l.look
