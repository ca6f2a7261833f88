use Rattle.std.proofs.Common.{◌++◌}
use Rattle.std.specs.List.{after_first, before_first}
use Rattle.fa_machine.specs.Taking.{is_for}
use Rattle.fa_core_tables.proofs.waiting.Waiting.next.Given as goal

abbrev pub ghost-note : goal.ghost-note
ghost-note g a = λ die waiting. before_first (is_for die.0) waiting ++ after_first (is_for die.0) waiting
