-- That a job fits its die is a fact with one proof.
use Rattle.std.proofs.Props.{props}
use Rattle.std.specs.Prelude.{ℕ, List}
use Rattle.fa_machine.specs.Taking.{Handed}
use Rattle.fa_machine.specs.declared.jobs.Flight.{Flight}
use Rattle.fa_machine.specs.declared.jobs.Flight.TheVariants.{Header as HeaderJob, Move, Erase, Read, Program, Sync}
use Rattle.fa_tag.specs.SlotGrammar.{IsPayloadOf}
use Rattle.fa_core_outcome.specs.Fits.{IsFlightFor, IsJobFor}
use Rattle.fa_types.specs.declared.geometry.Geometry.{Geometry}
use Rattle.fa_types.specs.declared.kind.Kind.{Kind}
use Rattle.fa_types.specs.declared.kind.Kind.TheVariants.{Data, Hole}

IsPayloadOf-prop : (kind : Kind) (payload : List ℕ) → IsProp (IsPayloadOf kind payload)
IsPayloadOf-prop Data payload = hlevel props
IsPayloadOf-prop Hole payload = hlevel props

IsFlightFor-prop : (geometry : Geometry) (array : List ℕ) (die : ℕ) (payload : List ℕ) (flight : Flight)
    → IsProp (IsFlightFor geometry array die payload flight)
IsFlightFor-prop geometry array die payload (HeaderJob epoch live) = hlevel props
IsFlightFor-prop geometry array die payload (Move page version from to) = hlevel props
IsFlightFor-prop geometry array die payload (Erase block) = hlevel props
IsFlightFor-prop geometry array die payload (Read batch page version slot) = hlevel props
IsFlightFor-prop geometry array die payload (Program page version slot) =
    let kind = IsPayloadOf-prop version.kind payload in hlevel (props, kind)
IsFlightFor-prop geometry array die payload (Sync flushes) = hlevel props

pub IsJobFor-prop : (geometry : Geometry) (array : List ℕ) (die : ℕ) (job : Handed) → IsProp (IsJobFor geometry array die job)
IsJobFor-prop geometry array die job = IsFlightFor-prop geometry array die job.payload job.flight
