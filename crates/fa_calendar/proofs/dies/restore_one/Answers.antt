use Rattle.std.proofs.Common.{ℕ, ◌≡◌, ◌||◌, sym, ap, ◌∙◌, arith}
use Rattle.std.proofs.lemmas.List.{get_or_default}
use Rattle.fa_types.specs.Open.{rounds_that}
use Rattle.fa_closed.proofs.Windows.{rounds_that-same}
use Rattle.fa_closed.specs.Runs.{is_covered, is_from}
use Rattle.fa_calendar.specs.DieState.{DieState}
use Rattle.fa_calendar.specs.Dies.{closed_by, is_one, no_rounds}
use Rattle.fa_calendar.proofs.Places.{keeps_set, same_place}
use Rattle.fa_calendar.proofs.dies.restore_one.Given.{Over}
use Rattle.fa_calendar.proofs.dies.restore_one.Goals as goal
use Rattle.fa_calendar.proofs.dies.restore_one.Goals.{After-index_mut}

same : (g : Over) (c : After-index_mut g) (n : ℕ) → rounds_that (λ r. is_covered c.index_mut.result.now.spans r || is_from c.args.place.round.0 c.args.place.round.0 r) 0 n
    ≡ rounds_that (λ r. closed_by c.args.dies.now.items c.args.place.die.0 r || is_one c.args.place c.args.place.die.0 r) 0 n
same g c n = rounds_that-same (λ r. is_covered c.index_mut.result.now.spans r || is_from c.args.place.round.0 c.args.place.round.0 r)
    (λ r. closed_by c.args.dies.now.items c.args.place.die.0 r || is_one c.args.place c.args.place.die.0 r) 0 n
    (λ r low high. same_place c.args.dies.now.items c.index_mut.result.now c.args.place c.requires.long (omega arith) c.index_mut.ensures.value r)

pub restore-requires-clause-few : goal.restore-requires-clause-few
restore-requires-clause-few g c = λ n.
    let equal = same g (goal.at.restore-requires-clause-few g c).After-index_mut n in
    let few = c.requires.room.few c.args.place.die.0 n in
    omega (arith, equal, few)

pub restore-requires-clause-kept : goal.restore-requires-clause-kept
restore-requires-clause-kept g c = λ n.
    let equal = same g (goal.at.restore-requires-clause-kept g c).After-index_mut n in
    let kept = c.requires.room.kept c.args.place.die.0 n in
    let here = ap (λ (d : DieState). d.room) (get_or_default c.args.dies.now.items c.args.place.die.0 no_rounds c.index_mut.result.now (omega (arith, c.requires.long)) ∙ sym c.index_mut.ensures.value) in
    omega (arith, equal, kept, here)

pub returns-clause-kept : goal.returns-clause-kept
returns-clause-kept g c =
    keeps_set c.args.dies.now.items c.args.place.die.0 c.index_mut.result.now c.restore.new.self c.requires.long (omega arith) c.index_mut.ensures.value c.requires.roomy c.restore.ensures.roomy c.restore.ensures.window c.restore.ensures.room
