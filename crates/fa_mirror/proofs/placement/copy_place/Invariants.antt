use Rattle.fa_mirror.proofs.Looks.{front}
use Rattle.fa_mirror.proofs.placement.copy_place.Given as goal
use Rattle.fa_mirror.specs.Order.{looks, takes_copy}
use Rattle.std.proofs.Common.{None, ◌≡◌}
use Rattle.std.specs.Prelude.{find}

abbrev pub invariant-loop-look : goal.invariant-loop-look
invariant-loop-look g l =
    find (takes_copy (g.M.Map.view l.map) l.page.0) (front (looks l.order.copies l.order.homes l.order.dies) l.look) ≡ None
