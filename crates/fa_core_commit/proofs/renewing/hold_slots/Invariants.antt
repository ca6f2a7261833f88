use Rattle.std.proofs.Common.{◌≡◌, take}
use Rattle.fa_machine.specs.State.{is_live}
use Rattle.fa_machine.specs.Writing.{with_targets}
use Rattle.fa_machine.specs.declared.places.Target.{Target}
use Rattle.fa_machine.specs.declared.places.Used.TheVariants.{Held}
use Rattle.std.specs.Prelude.{filter}
use Rattle.fa_core_commit.proofs.renewing.hold_slots.Given as goal

abbrev pub invariant-loop-index : goal.invariant-loop-index
invariant-loop-index g l = g.M.Map.view l.page_map
    ≡ with_targets (Held l.page l.version) (filter (λ (slot : Target). is_live (g.M.Map.view l.initial.page_map) slot.die.0)
    (take l.index l.slots))
    (g.M.Map.view l.initial.page_map)
