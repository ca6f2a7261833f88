use Rattle.fa_batch_terms.specs.Certificate.{IsCertificate}
use Rattle.fa_core_read.proofs.laws.an_admission_verifies.Goals as goal
use Rattle.fa_machine.specs.Reading.{entries_for, left_of, released, to_read}
use Rattle.fa_machine.specs.Rounds.{is_closed}
use Rattle.std.proofs.Common.{subst, sym}

pub returns : goal.returns
returns g c = record {
  admit = λ old new pages admitted does handed.
      subst (λ n. IsCertificate (entries_for old.page_map (to_read old.page_map pages)) old.calendar.round (is_closed old.page_map old.calendar)
      n admitted.planned.plan.places admitted.planned.shortage) (sym handed.rounds) does.0.2.certificate;
  replan = λ old new batch planned does handed.
      subst (λ n. IsCertificate (entries_for old.page_map (left_of old batch)) old.calendar.round (is_closed old.page_map (released batch old.calendar))
      n planned.plan.places planned.shortage) (sym handed.rounds) does.0.2.certificate;
}
