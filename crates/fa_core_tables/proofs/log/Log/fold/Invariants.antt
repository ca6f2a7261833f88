use Rattle.fa_machine.specs.History.{folded}
use Rattle.fa_core_tables.proofs.log.Log.fold.Given as goal

abbrev pub ghost-note : goal.ghost-note
ghost-note g a = λ entries base. folded base entries.items
