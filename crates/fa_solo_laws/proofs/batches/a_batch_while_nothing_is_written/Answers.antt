use Rattle.fa_solo_laws.proofs.Due.{run_plain}
use Rattle.fa_solo_laws.proofs.Given.{answers_give}
use Rattle.fa_solo_laws.proofs.Listed.{ready_gives}
use Rattle.fa_solo_laws.proofs.batches.a_batch_while_nothing_is_written.Goals as goal

pub returns : goal.returns
returns c = record {
  answers = λ w opened last after pages admitted happenings answer reached opens run none ends.
      answers_give w opened last after pages admitted happenings answer reached opens run none ends;
  ready = λ w opened last after pages admitted happenings answer reached opens run none unended ready ends.
      ready_gives w opened last after pages admitted happenings answer reached opens run none unended ready ends;
  plain = λ w last happenings run none. run_plain w happenings last run none;
}
