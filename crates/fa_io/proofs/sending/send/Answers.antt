use Rattle.std.proofs.Common.{◌++◌, take, ◌∙◌}
use Rattle.std.proofs.KnownBytes.{Appends-trans}
use Rattle.fa_io.proofs.StreamLemmas.{moves_front}
use Rattle.fa_io.proofs.sending.send.Goals as goal

pub loop-rest-preserved-in-Bytes : goal.loop-rest-preserved-in-Bytes
loop-rest-preserved-in-Bytes g c =
    let kept = c.loop-rest.invariant in
    let rest = c.loop-rest.rest.now in
    let n = c.in-Bytes.n in
    record {
      sent = kept.sent ++ take n rest;
      all = moves_front _ kept.sent rest n kept.all;
      appended = Appends-trans _ _ _ _ _ kept.appended c.in-Bytes.ensures.2;
      reads = c.count_write.ensures.reads ∙ kept.reads;
    }
