use Rattle.std.proofs.Common.{◌≡◌, ◌++◌, arith, length, take, length-append, length-take-le}
use Rattle.std.proofs.KnownBytes.{Consumes-trans}
use Rattle.std.proofs.lemmas.Grind.{common_steps}
use Rattle.fa_io.proofs.reading.skip_through.Goals as goal

pub loop-done-preserved : goal.loop-done-preserved
loop-done-preserved g c =
    let kept = c.loop-done.invariant in
    let got = c.in_ok-done.ensures.got in
    let more = c.in_ok-done.ensures.counted in
    let room : length c.read_some.new.into ≡ c.min-room.result = grind (arith, common_steps) in
    record {
      within = omega arith;
      bytes = kept.bytes ++ take c.in_ok-done.field-0 c.read_some.new.into;
      as_many = simp (length-append) (omega (arith, kept.as_many, length-take-le c.in_ok-done.field-0 c.read_some.new.into got.1));
      consumed = Consumes-trans _ _ _ _ _ kept.consumed got.2;
      no_fewer = omega (arith, kept.no_fewer, more);
    }
