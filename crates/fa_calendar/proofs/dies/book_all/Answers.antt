use Rattle.std.proofs.Common.{◌≡◌, ◌<◌, ◌||◌, false, length, take, get_or, ◌∙◌, arith}
use Rattle.std.proofs.lemmas.Bool.{or_from}
use Rattle.std.proofs.lemmas.List.{get_or_default}
use Rattle.fa_batch_terms.specs.declared.place.Place.{Place}
use Rattle.fa_calendar.specs.Dies.{closed_by, is_at, is_one}
use Rattle.fa_calendar.proofs.Places.{among_all, at_part, each_at, next_apart, rounds_that-le, undone, where_at}
use Rattle.fa_calendar.proofs.dies.book_all.Goals as goal

pub book_one-requires-clause-free : goal.book_one-requires-clause-free
book_one-requires-clause-free g c =
    let d : Place = record { page = record { 0 = 0 }; die = record { 0 = 0 }; round = record { 0 = 0 } } in
    let x : Place = get_or c.args.places.now c.loop-index.index d in
    let within : c.loop-index.index < length c.args.places.now = omega arith in
    let free = each_at (λ (y : Place). closed_by c.args.dies.now.items y.die.0 y.round.0 ≡ false) c.args.places.now c.loop-index.index d c.requires.free within in
    c.loop-index.invariant.closed x.die.0 x.round.0
    ∙ or_from (closed_by c.args.dies.now.items x.die.0 x.round.0) (is_at (take c.loop-index.index c.args.places.now) x.die.0 x.round.0) free
    (next_apart c.args.places.now c.loop-index.index x c.requires.apart within (get_or_default c.args.places.now c.loop-index.index d x within))

pub returns-in-Err-clause-full : goal.returns-in-Err-clause-full
returns-in-Err-clause-full g c = λ is.
    let d : Place = record { page = record { 0 = 0 }; die = record { 0 = 0 }; round = record { 0 = 0 } } in
    let x : Place = get_or c.args.places.now c.loop-index.index d in
    let within : c.loop-index.index < length c.args.places.now = omega arith in
    let over = c.in-Err.ensures.full is in
    let many = over.1 in
    let part = rounds_that-le (λ round. closed_by c.loop-index.dies.items x.die.0 round || is_one x x.die.0 round) (λ round. closed_by c.args.dies.now.items x.die.0 round || is_at c.args.places.now x.die.0 round)
    (among_all (closed_by c.args.dies.now.items) (closed_by c.loop-index.dies.items) c.args.places.now c.loop-index.index x within (get_or_default c.args.places.now c.loop-index.index d x within) c.loop-index.invariant.closed x.die.0) 0 over.0 in
    (x.die.0, over.0, omega (arith, many, part))

pub returns-in-Err-clause-err : goal.returns-in-Err-clause-err
returns-in-Err-clause-err g c = λ die round.
    c.open_all.ensures.opened die round
    ∙ undone (closed_by c.args.dies.now.items die round) (closed_by c.book_one.new.dies.items die round) (is_at (take c.loop-index.index c.args.places.now) die round)
    (λ at. where_at (λ die round. closed_by c.args.dies.now.items die round ≡ false) c.args.places.now c.requires.free die round (at_part c.args.places.now c.loop-index.index die round at))
    (c.in-Err.ensures.err die round ∙ c.loop-index.invariant.closed die round)
