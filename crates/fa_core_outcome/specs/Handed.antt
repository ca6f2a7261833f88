-- What contracts see of a job that is handed out: the machine's own.
use Rattle.std.specs.Prelude.{[], unwrap_or}
use Rattle.fa_machine.specs.Taking.{Handed}
use Rattle.fa_core_outcome.specs.declared.job.Job.{Job}

module _ {A : Type 0} where
  abbrev pub handed_of : Job A → Handed
  handed_of job = record { flight = job.flight; payload = unwrap_or job.payload []; lasting = job.lasting }
