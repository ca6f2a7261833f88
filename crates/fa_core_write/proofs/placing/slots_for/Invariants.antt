use Rattle.std.proofs.Common.{◌≡◌, length, map, take}
use Rattle.fa_core_tables.specs.Claims.{targets_of}
use Rattle.fa_machine.specs.Writing.{target_on}
use Rattle.fa_types.specs.declared.numbers.Die.{Die}
use Rattle.fa_mirror.specs.Chosen.{MayReserve}
use Rattle.std.specs.List.{All}
use Rattle.fa_core_write.proofs.placing.slots_for.Given as goal

abbrev pub invariant-loop-index : goal.invariant-loop-index
invariant-loop-index g l =
    (targets_of l.slots ≡ map (λ (die : Die). target_on (g.M.Map.view l.page_map) die.0) (take l.index l.dies))
    × (length (targets_of l.slots) ≡ l.index) × All (MayReserve (g.M.Map.view l.page_map)) (targets_of l.slots)
