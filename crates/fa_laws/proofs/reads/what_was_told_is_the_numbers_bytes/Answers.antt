use Rattle.fa_laws.proofs.Answering.{reached_holds}
use Rattle.fa_machine.proofs.Lists.{among-contains}
use Rattle.std.proofs.Common.{ap, sym, ◌∙◌}
use Rattle.fa_laws.proofs.reads.what_was_told_is_the_numbers_bytes.Goals as goal

pub returns : goal.returns
returns c = record {
  reserved = λ w t reached told. ((reached_holds w reached).told t (among-contains t w.told told.0 told.1 told.2)).0;
  plain = λ w t version reached told is same.
      let h = reached_holds w reached in
      (h.told t (among-contains t w.told told.0 told.1 told.2)).0 ∙ ap (w.payloads t.page) (sym same) ∙ (h.sound.numbered t.page version is).right;
}
