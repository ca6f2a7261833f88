use Rattle.std.proofs.Common.{◌||◌, arith}
use Rattle.fa_closed.proofs.Windows.{rounds_that-same}
use Rattle.fa_closed.specs.Runs.{is_covered, is_from}
use Rattle.fa_calendar.specs.Dies.{closed_by, is_one}
use Rattle.fa_calendar.proofs.Places.{keeps_set, same_place}
use Rattle.fa_calendar.proofs.dies.book_one.Goals as goal

pub returns-clause-kept : goal.returns-clause-kept
returns-clause-kept g c =
    keeps_set c.args.dies.now.items c.args.place.die.0 c.index_mut.result.now c.book.new.self c.requires.long (omega arith) c.index_mut.ensures.value c.requires.roomy c.book.ensures.roomy c.book.ensures.window c.book.ensures.room

pub returns-clause-full : goal.returns-clause-full
returns-clause-full g c = λ is.
    let over = c.book.ensures.full is in
    let same = rounds_that-same (λ r. is_covered c.index_mut.result.now.spans r || is_from c.args.place.round.0 c.args.place.round.0 r)
    (λ r. closed_by c.args.dies.now.items c.args.place.die.0 r || is_one c.args.place c.args.place.die.0 r) 0 over.0
    (λ r low high. same_place c.args.dies.now.items c.index_mut.result.now c.args.place c.requires.long (omega arith) c.index_mut.ensures.value r) in
    let many = over.1 in
    (over.0, omega (arith, same, many))
