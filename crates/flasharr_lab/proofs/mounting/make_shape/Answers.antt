use Rattle.fa_machine.specs.State.{MapState}
use Rattle.std.proofs.Common.{ap, ◌∙◌}
use Rattle.std.proofs.lemmas.Result.{IfOk-weaker}
use Rattle.std.specs.FinMap.{len, len-empty}
use Rattle.std.specs.Ordering.{nat_cmp}
use Rattle.flasharr_lab.proofs.mounting.make_shape.Goals as goal

pub own_made-requires-clause-out : goal.own_made-requires-clause-out
own_made-requires-clause-out g c =
    IfOk-weaker c.new-made.result _ _
    (λ page_map is. ap (λ (m : MapState). len m.live) is ∙ len-empty nat_cmp (Unit {0}))
    c.new-made.ensures.view
