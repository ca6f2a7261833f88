use Rattle.std.proofs.Common.{◌≡◌, ◌≤◌, ◌<◌, ◌++◌, arith, length, take, ◌∙◌, subst}
use Rattle.std.specs.Io.KnownBytes.{Appends}
use Rattle.std.proofs.lemmas.Grind.{common_steps}
use Rattle.std.proofs.lemmas.List.{take-append-le}
use Rattle.std.proofs.KnownBytes.{Appends-trans}
use Rattle.fa_io.proofs.StreamLemmas.{moves_front, Sends-beyond, Sends-none_left}
use Rattle.fa_io.proofs.sending.send_both.Goals as goal

pub returns-then-n-rest-clause-sent : goal.returns-then-n-rest-clause-sent
returns-then-n-rest-clause-sent g c =
    let kept = c.loop-rest.invariant in
    let more : length c.loop-rest.rest.now < c.in-Bytes.n = omega arith in
    Sends-beyond _ _ _ _ _ kept.sent c.loop-rest.rest.now c.args.second.now c.in-Bytes.n _ kept.all more kept.appended c.in-Bytes.ensures.2 c.send.ensures.sent

pub loop-rest-preserved-in-Bytes : goal.loop-rest-preserved-in-Bytes
loop-rest-preserved-in-Bytes g c =
    let kept = c.loop-rest.invariant in
    let rest = c.loop-rest.rest.now in
    let n = c.in-Bytes.n in
    let within : n ≤ length rest = omega arith in
    record {
      sent = kept.sent ++ take n rest;
      all = moves_front _ kept.sent rest n kept.all;
      appended = Appends-trans _ _ _ _ _ kept.appended (subst (Appends _ _) (take-append-le n rest c.args.second.now within) c.in-Bytes.ensures.2);
      reads = c.count_write.ensures.reads ∙ kept.reads;
    }

pub returns-clause-sent : goal.returns-clause-sent
returns-clause-sent g c =
    let kept = c.loop-rest.invariant in
    let none : length c.loop-rest.rest.now ≡ 0 = grind (arith, common_steps) in
    Sends-none_left _ _ _ _ kept.sent c.loop-rest.rest.now c.args.second.now _ kept.all none kept.appended c.send-2.ensures.sent
