use Rattle.fa_solo_job.proofs.Changes.{claims_are, reservation_for}
use Rattle.fa_solo_laws.proofs.Reserved.{commit_writes, reserved_now, run_reserved}
use Rattle.fa_machine.specs.Reading.{zeros}
use Rattle.fa_machine.specs.State.{Core}
use Rattle.fa_machine.specs.Step.{Reserve, ReserveFewer, ReserveHole}
use Rattle.fa_machine.specs.World.{World}
use Rattle.fa_machine.specs.Writing.{claimed_page}
use Rattle.fa_types.specs.declared.kind.Kind.TheVariants.{Data, Hole}
use Rattle.std.proofs.Common.{ap, refl}
use Rattle.std.specs.Prelude.{Ok}
use Rattle.fa_solo_laws.proofs.writes.what_was_reserved_is_written.Goals as goal

pub returns : goal.returns
returns c = record {
  bytes = λ w middle last after claim seat payload seq given happenings reserves run keeps commits.
      let now = reserved_now w middle claim seq payload (reservation_for w.core claim Data) reserves.step.does.1 refl
      (ap (λ (core : Core). core.last) reserves.step.does.2) (claims_are w.core (Reserve claim payload (Ok seq)) middle.core reserves.step.does)
      (ap (λ (v : World). v.payloads) reserves.follows) in
      commit_writes c.the_last_number_never_falls.ensures claim (claimed_page w.core claim) seq payload last after seat given
      (run_reserved c.the_last_number_never_falls.ensures claim (claimed_page w.core claim) seq payload middle happenings last now run keeps) commits;
  fewer = λ w middle last after claim seat payload seq given happenings reserves run keeps commits.
      let now = reserved_now w middle claim seq payload (reservation_for w.core claim Data) reserves.step.does.1 refl
      (ap (λ (core : Core). core.last) reserves.step.does.2) (claims_are w.core (ReserveFewer claim payload (Ok seq)) middle.core reserves.step.does)
      (ap (λ (v : World). v.payloads) reserves.follows) in
      commit_writes c.the_last_number_never_falls.ensures claim (claimed_page w.core claim) seq payload last after seat given
      (run_reserved c.the_last_number_never_falls.ensures claim (claimed_page w.core claim) seq payload middle happenings last now run keeps) commits;
  hole = λ w middle last after claim seat seq given happenings reserves run keeps commits.
      let now = reserved_now w middle claim seq (zeros w.core.page_map) (reservation_for w.core claim Hole) reserves.step.does.1 refl
      (ap (λ (core : Core). core.last) reserves.step.does.2) (claims_are w.core (ReserveHole claim (Ok seq)) middle.core reserves.step.does)
      (ap (λ (v : World). v.payloads) reserves.follows) in
      commit_writes c.the_last_number_never_falls.ensures claim (claimed_page w.core claim) seq (zeros w.core.page_map) last after seat given
      (run_reserved c.the_last_number_never_falls.ensures claim (claimed_page w.core claim) seq (zeros w.core.page_map) middle happenings last now run keeps)
      commits;
}
