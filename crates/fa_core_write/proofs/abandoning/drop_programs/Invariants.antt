use Rattle.std.proofs.Common.{◌≡◌, not, take}
use Rattle.fa_machine.specs.State.{WaitingProgram}
use Rattle.fa_machine.specs.declared.places.Target.{Target}
use Rattle.fa_core_tables.specs.Waits.{dies_of, waiting_of}
use Rattle.std.specs.List.{list_any}
use Rattle.std.specs.Prelude.{filter, ◌&&◌, ◌==◌}
use Rattle.fa_core_write.proofs.abandoning.drop_programs.Given as goal

abbrev pub invariant-loop-index : goal.invariant-loop-index
invariant-loop-index g l = (waiting_of l.waiting
    ≡ filter (λ (p : WaitingProgram). not (list_any (λ (slot : Target). slot.die.0 == p.die && slot.slot.0 == p.slot)
    (take l.index l.slots)))
    (waiting_of l.initial.waiting)) × (dies_of l.waiting ≡ dies_of l.initial.waiting)
