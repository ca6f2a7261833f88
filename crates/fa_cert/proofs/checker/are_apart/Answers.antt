use Rattle.std.proofs.Common.{◌≡◌, length, take, arith, refl, subst, ap, ◌∙◌}
use Rattle.std.proofs.Math.Seq.{take-length}
use Rattle.fa_batch_terms.specs.declared.place.Place.{Place}
use Rattle.fa_batch_terms.specs.Plan.{AreApart}
use Rattle.fa_cert.proofs.Placed.{taken_more, apart_more, not_apart}
use Rattle.fa_cert.proofs.checker.are_apart.Goals as goal

pub returns-then-not-branch : goal.returns-then-not-branch
returns-then-not-branch g c =
    let d : Place = record { page = record { 0 = 0 }; die = record { 0 = 0 }; round = record { 0 = 0 } } in
    (λ no. cc, λ all. absurd (not_apart c.args.places.now c.loop-place.place-index d (omega arith) c.loop-place.taken c.in_ok-insert.field-0 c.loop-place.invariant.0 c.in_ok-insert.ensures.added c.if-not-branch.true all))

pub loop-place-preserved : goal.loop-place-preserved
loop-place-preserved g c =
    let d : Place = record { page = record { 0 = 0 }; die = record { 0 = 0 }; round = record { 0 = 0 } } in (
      taken_more c.args.places.now c.loop-place.place-index d (omega arith) c.loop-place.taken c.insert.new.self c.loop-place.invariant.0 c.in_ok-insert.ensures.updates.0,
      apart_more c.args.places.now c.loop-place.place-index d (omega arith) c.loop-place.taken c.in_ok-insert.field-0 c.loop-place.invariant.0 c.in_ok-insert.ensures.added c.if-not-branch.false c.loop-place.invariant.1,
    )

pub returns : goal.returns
returns g c =
    let end : c.loop-place.place-index ≡ length c.args.places.now = omega arith in
    let whole = ap (λ n. take n c.args.places.now) end ∙ take-length c.args.places.now in
    (λ _. subst AreApart whole c.loop-place.invariant.1, λ _. refl)
