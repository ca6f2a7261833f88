use Rattle.std.specs.Prelude.{◌==◌, not, filter}
use Rattle.fa_core_tables.proofs.waiting.Waiting.drop_die.Given as goal

abbrev pub ghost-note : goal.ghost-note
ghost-note g a = λ die waiting. filter (λ p. not (p.die == die.0)) waiting
