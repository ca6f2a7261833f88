use Rattle.std.specs.Prelude.{◌==◌, ◌&&◌, not, filter}
use Rattle.fa_core_tables.proofs.waiting.Waiting.drop_place.Given as goal

abbrev pub ghost-note : goal.ghost-note
ghost-note g a = λ place waiting. filter (λ p. not (place.0.0 == p.die && place.1.0 == p.slot)) waiting
