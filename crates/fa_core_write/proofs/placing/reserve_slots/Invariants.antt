use Rattle.std.proofs.Common.{◌≡◌, take}
use Rattle.fa_machine.specs.Writing.{with_targets}
use Rattle.fa_machine.specs.declared.places.Used.TheVariants.{Reserved}
use Rattle.fa_core_write.proofs.placing.reserve_slots.Given as goal

abbrev pub invariant-loop-index : goal.invariant-loop-index
invariant-loop-index g l = g.M.Map.view l.page_map ≡ with_targets Reserved (take l.index l.slots) (g.M.Map.view l.initial.page_map)
