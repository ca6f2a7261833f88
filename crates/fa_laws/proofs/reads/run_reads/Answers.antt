use Rattle.fa_laws.proofs.Answering.{plain_changes, reached_holds, reads_right}
use Rattle.fa_laws.proofs.reads.run_reads.Goals as goal

pub returns : goal.returns
returns c = record {
  reads = λ w after act reached happens. reads_right w (reached_holds w reached) act after.core happens.step.allows happens.step.does;
  plain = λ w after happening reached happens. plain_changes w after happening happens;
}
