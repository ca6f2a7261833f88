use Rattle.std.proofs.Common.{◌-◌, arith, length, sym, subst}
use Rattle.std.proofs.lemmas.Grind.{common_steps}
use Rattle.std.specs.Io.KnownBytes.{Consumes}
use Rattle.std.proofs.KnownBytes.{Consumes-trans}
use Rattle.fa_io.proofs.StreamLemmas.{take-put_mid-more}
use Rattle.fa_io.proofs.reading.fill.Goals as goal

pub loop-at-preserved : goal.loop-at-preserved
loop-at-preserved g c =
    let at = c.loop-at.at in
    let room = length c.loop-at.into - at in
    let kept = c.loop-at.invariant in
    let got = c.in_ok-at.ensures.got in
    let front = take-put_mid-more at room c.in_ok-at.field-0 c.loop-at.into c.read_some.new.into kept.within got.1 in
    let more = c.in_ok-at.ensures.counted in
    record {
      same_room = grind (arith, common_steps);
      within = grind (arith, common_steps);
      consumed = subst (Consumes _ _) (sym front) (Consumes-trans _ _ _ _ _ kept.consumed got.2);
      no_fewer = omega (arith, kept.no_fewer, more);
      counted = λ _. omega (arith, kept.no_fewer, more);
    }
