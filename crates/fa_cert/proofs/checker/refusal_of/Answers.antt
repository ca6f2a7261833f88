use Rattle.std.proofs.Common.{sym, ap, ◌∙◌}
use Rattle.std.proofs.lemmas.Bool.{iff_false}
use Rattle.fa_batch_terms.specs.Plan.{IsPlan, ArePlaced, ArePlacedOnce, AreHeld, rounds_of}
use Rattle.fa_batch_terms.proofs.Parts.{where_none, where_some}
use Rattle.fa_cert.proofs.checker.refusal_of.Given.{Over}
use Rattle.fa_cert.proofs.checker.refusal_of.Goals as goal
use Rattle.fa_cert.proofs.checker.refusal_of.Goals.{Else-not-branch}

-- where the places are apart, they are a plan
is_plan : (g : Over) (c : Else-not-branch g) → IsPlan c.args.batch.now (g.R.Rounds.current c.args.calendar.now) (g.R.Rounds.closed c.args.calendar.now) c.args.places.now
is_plan g c =
    let placed = where_none (ArePlaced c.args.batch.now c.args.places.now × ArePlacedOnce c.args.places.now × AreHeld c.args.batch.now c.args.places.now) _ c.in_default.is c.in_ok-refusal.ensures in
    record {
      each = placed.0;
      once = placed.1;
      held = placed.2;
      opens = c.are_open.ensures.0 c.if-not-are_open.false;
      apart = c.in_ok-are_apart.ensures.0 c.if-not-branch.false;
    }

pub returns-in-Some-clause-found : goal.returns-in-Some-clause-found
returns-in-Some-clause-found g c =
    where_some (ArePlaced c.args.batch.now c.args.places.now × ArePlacedOnce c.args.places.now × AreHeld c.args.batch.now c.args.places.now) _ c.in-Some.refusal c.in-Some.is c.in_ok-refusal.ensures
    (g.R.Rounds.current c.args.calendar.now) c.args.rounds (g.R.Rounds.closed c.args.calendar.now)

pub returns-then-not-take_rounds-clause-found : goal.returns-then-not-take_rounds-clause-found
returns-then-not-take_rounds-clause-found g c = λ pages. (
  is_plan g (goal.at.returns-then-not-take_rounds-clause-found g c).Else-not-branch,
  λ same. iff_false c.take_rounds.ensures.taken c.if-not-take_rounds.true (ap (λ n. rounds_of n c.args.places.now) c.now.ensures ∙ same),
)

pub returns-clause-found : goal.returns-clause-found
returns-clause-found g c = (
  is_plan g (goal.at.returns-clause-found g c).Else-not-branch,
  ap (λ n. rounds_of n c.args.places.now) (sym c.now.ensures) ∙ c.take_rounds.ensures.taken.0 c.if-not-take_rounds.false,
)
