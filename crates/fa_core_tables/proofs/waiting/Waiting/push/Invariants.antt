use Rattle.std.proofs.Common.{[], ◌∷◌, ◌++◌}
use Rattle.fa_core_tables.specs.Queues.{program_of}
use Rattle.fa_core_tables.proofs.waiting.Waiting.push.Given as goal

abbrev pub ghost-note : goal.ghost-note
ghost-note g a = λ program waiting. waiting ++ program_of program ∷ []
