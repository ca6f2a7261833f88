use Rattle.std.proofs.Common.{◌≡◌, length, take, arith, refl, subst, sym, ap, ◌∙◌, nat_cmp}
use Rattle.std.specs.BTreeSet.{contains}
use Rattle.std.proofs.Math.Seq.{take-length}
use Rattle.std.proofs.lemmas.Bool.{not-true, not-false}
use Rattle.fa_batch_terms.specs.Plan.{ArePlacedOnce}
use Rattle.fa_cert.proofs.Placed.{pages_more, page_once_more, page_twice, no_place}
use Rattle.fa_cert.proofs.checker.come_once.Goals as goal

pub returns-then-not-branch : goal.returns-then-not-branch
returns-then-not-branch g c =
    let met = not-false (contains nat_cmp c.loop-place.pages _) (sym c.in_ok-insert.ensures.added ∙ c.if-not-branch.true) in
    (λ no. cc, λ all. absurd (page_twice c.args.places.now c.loop-place.place-index no_place (omega arith) (sym (c.loop-place.invariant.0 _) ∙ met) all))

pub loop-place-preserved : goal.loop-place-preserved
loop-place-preserved g c =
    let unmet = not-true (contains nat_cmp c.loop-place.pages _) (sym c.in_ok-insert.ensures.added ∙ c.if-not-branch.false) in (
      pages_more c.args.places.now c.loop-place.place-index no_place (omega arith) c.loop-place.pages c.insert.new.self c.loop-place.invariant.0 c.in_ok-insert.ensures.updates.0,
      page_once_more c.args.places.now c.loop-place.place-index no_place (omega arith) (sym (c.loop-place.invariant.0 _) ∙ unmet) c.loop-place.invariant.1,
    )

pub returns : goal.returns
returns g c =
    let end : c.loop-place.place-index ≡ length c.args.places.now = omega arith in
    let whole = ap (λ n. take n c.args.places.now) end ∙ take-length c.args.places.now in
    (λ _. subst ArePlacedOnce whole c.loop-place.invariant.1, λ _. refl)
