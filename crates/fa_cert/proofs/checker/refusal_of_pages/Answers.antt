use Rattle.std.proofs.Common.{take, ap, arith}
use Rattle.std.proofs.lemmas.Bool.{iff_false}
use Rattle.fa_batch_terms.specs.Plan.{ArePlaced}
use Rattle.fa_cert.proofs.Placed.{placed_from, placed_to}
use Rattle.fa_cert.proofs.checker.refusal_of_pages.Given.{Over}
use Rattle.fa_cert.proofs.checker.refusal_of_pages.Goals as goal
use Rattle.fa_cert.proofs.checker.refusal_of_pages.Goals.{Else-not-are_all_marked}
use Rattle.fa_cert.proofs.checker.refusal_of_pages.Goals.{else-not-seen-via-then-not-seen+in_ok-come_once+else-not-branch, else-not-seen-via-else-not-seen}

-- where all entries are marked, each has a place
placed : (g : Over) (c : Else-not-are_all_marked g) → ArePlaced c.args.batch.now c.args.places.now
placed g c =
    placed_from c.args.batch.now c.args.places.now c.see_pages-seen.result.placed (take c.len.result c.see_pages-seen.result.placed) c.see_pages-seen.ensures.placed
    (omega (arith, c.requires.few, c.see_pages-seen.ensures.long)) (ap (λ n. take n c.see_pages-seen.result.placed) c.len.ensures)
    (c.are_all_marked.ensures.0 c.if-not-are_all_marked.false)

pub returns-then-not-are_all_marked : goal.returns-then-not-are_all_marked
returns-then-not-are_all_marked g c = λ current rounds closed pages all.
    iff_false c.are_all_marked.ensures c.if-not-are_all_marked.true
    (placed_to c.args.batch.now c.args.places.now c.see_pages-seen.result.placed (take c.len.result c.see_pages-seen.result.placed) c.see_pages-seen.ensures.placed
    (omega (arith, c.requires.few, c.see_pages-seen.ensures.long)) (ap (λ n. take n c.see_pages-seen.result.placed) c.len.ensures) all)

pub returns-then-not-branch : goal.returns-then-not-branch
returns-then-not-branch g c = λ current rounds closed pages. (
  placed g (goal.at.returns-then-not-branch g c).Else-not-are_all_marked,
  iff_false c.in_ok-come_once.ensures c.if-not-branch.true,
)

pub returns-then-not-seen-2 : goal.returns-then-not-seen-2
returns-then-not-seen-2 g c = λ current rounds closed pages. (
  placed g (goal.at.returns-then-not-seen-2 g c).Else-not-are_all_marked,
  elim c.else-not-seen.branch [
    | else-not-seen-via-then-not-seen+in_ok-come_once+else-not-branch w ↦ w.in_ok-come_once.ensures.0 w.if-not-branch.false
    | else-not-seen-via-else-not-seen w ↦ c.see_pages-seen.ensures.once w.if-not-seen.false
  ],
  iff_false c.see_pages-seen.ensures.held c.if-not-seen-2.true,
)

pub returns : goal.returns
returns g c = (
  placed g (goal.at.returns g c).Else-not-are_all_marked,
  elim c.else-not-seen.branch [
    | else-not-seen-via-then-not-seen+in_ok-come_once+else-not-branch w ↦ w.in_ok-come_once.ensures.0 w.if-not-branch.false
    | else-not-seen-via-else-not-seen w ↦ c.see_pages-seen.ensures.once w.if-not-seen.false
  ],
  c.see_pages-seen.ensures.held.0 c.if-not-seen-2.false,
)
