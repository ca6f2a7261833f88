use Rattle.std.proofs.Common.{◌≡◌, length, take, arith, subst, ap, ◌∙◌}
use Rattle.std.proofs.Math.Seq.{take-length}
use Rattle.std.proofs.lemmas.List.{length-set}
use Rattle.fa_batch_terms.specs.Plan.{AreApart}
use Rattle.fa_cert.proofs.Placed.{no_place, rise_more}
use Rattle.fa_cert.proofs.checker.rise.Goals as goal

pub loop-place-preserved : goal.loop-place-preserved
loop-place-preserved c =
    let so_far = c.loop-place.invariant in
    let more = rise_more c.args.places.now c.loop-place.place-index no_place (omega arith) c.loop-place.free so_far.below c.in-Some.next c.in-Some.ensures.1
    c.if-next-free.false (omega (arith, so_far.long)) so_far.apart in
    record { long = length-set c.loop-place.free _ c.in-Some.next ∙ so_far.long; below = more.0; apart = more.1 }

pub returns : goal.returns
returns c = λ _.
    let end : c.loop-place.place-index ≡ length c.args.places.now = omega arith in
    let whole = ap (λ n. take n c.args.places.now) end ∙ take-length c.args.places.now in
    subst AreApart whole c.loop-place.invariant.apart
