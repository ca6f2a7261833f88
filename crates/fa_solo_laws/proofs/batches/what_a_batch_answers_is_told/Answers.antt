use Rattle.fa_solo_laws.proofs.Tells.{answers_told}
use Rattle.fa_solo_laws.proofs.batches.what_a_batch_answers_is_told.Goals as goal

pub returns : goal.returns
returns c w opened last after pages admitted happenings answer page bytes version reached opens run none ends has number =
    answers_told c.numbers_are_kept.ensures w opened last after pages admitted happenings answer page bytes version reached opens run none ends has
    number
