use Rattle.std.proofs.Common.{◌<◌, length, sym, ap, ◌∙◌, subst, arith}
use Rattle.std.proofs.lemmas.List.{length-map}
use Rattle.fa_batch_terms.specs.Batch.{Entry}
use Rattle.fa_plan_search.specs.Pages.{pages_of}
use Rattle.fa_plan.specs.Shortage.{IsRaised}
use Rattle.fa_plan.proofs.Making.{begun, none_enough, pages_are_named}
use Rattle.fa_plan.proofs.planner.begin.Goals as goal
use Rattle.fa_plan.proofs.planner.begin.Goals.{then-len-gt0, else-len-gt0}

pub rounds_for-rounds-requires-clause-named : goal.rounds_for-rounds-requires-clause-named
rounds_for-rounds-requires-clause-named g c = pages_are_named c.args.batch.now c.as_slice.result.now c.requires.sound.fine.once (c.as_slice.ensures ∙ c.in_ok-short.ensures)

pub rounds_for-rounds-requires-clause-low : goal.rounds_for-rounds-requires-clause-low
rounds_for-rounds-requires-clause-low g c =
    none_enough c.args.batch.now (g.R.Rounds.current c.args.calendar.now) (g.R.Rounds.closed c.args.calendar.now) c.as_slice.result.now
    (let long = ap (λ v. length v) (c.as_slice.ensures ∙ c.in_ok-short.ensures) ∙ length-map c.args.batch.now (λ (e : Entry). e.page) in
    let some : 0 < length c.args.batch.now = omega arith in
    omega (arith, long, some))

pub returns : goal.returns
returns g c =
    begun c.args.batch.now (g.R.Rounds.current c.args.calendar.now) (g.R.Rounds.closed c.args.calendar.now)
    c.in_ok-given.given c.count_open.result c.new.result c.if-len-gt0.rounds c.in_ok-short.short c.in_ok-given.ensures c.count_open.ensures c.in_ok-short.ensures
    (λ some. elim c.if-len-gt0.branch [
      | then-len-gt0 w ↦
          subst (λ n. IsRaised c.args.batch.now (g.R.Rounds.current c.args.calendar.now) (g.R.Rounds.closed c.args.calendar.now) (pages_of c.args.batch.now) 0 n) (sym w.rounds-is)
          (subst (λ v. IsRaised c.args.batch.now (g.R.Rounds.current c.args.calendar.now) (g.R.Rounds.closed c.args.calendar.now) v 0 w.rounds_for-rounds.result) (w.as_slice.ensures ∙ c.in_ok-short.ensures) w.rounds_for-rounds.ensures)
      | else-len-gt0 w ↦ absurd (omega (arith, some))
    ])
    (λ none. elim c.if-len-gt0.branch [ then-len-gt0 w ↦ absurd (omega (arith, none)) | else-len-gt0 w ↦ w.rounds-is ])
