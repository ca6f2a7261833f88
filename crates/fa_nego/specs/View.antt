-- What the fields of a negotiation stand for.
use Rattle.std.specs.Prelude.{ℕ, List}
use Rattle.fa_nego.specs.NegoState.{Stage, Flags, Options, Over}
use Rattle.fa_nego.specs.declared.phase.Phase.{Phase}
use Rattle.fa_nego.specs.declared.phase.Phase.TheVariants as phases

-- the stage of this phase with these bytes held
abbrev pub stage_at : Phase → List ℕ → Stage
stage_at phases.Flags held = Flags held
stage_at (phases.Options flags) held = Options flags held
stage_at (phases.Over step) held = Over step
