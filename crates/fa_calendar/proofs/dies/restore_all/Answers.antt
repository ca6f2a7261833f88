use Rattle.std.proofs.Common.{◌||◌, get_or, arith}
use Rattle.std.proofs.lemmas.List.{get_or_default}
use Rattle.fa_batch_terms.specs.declared.place.Place.{Place}
use Rattle.fa_calendar.specs.Dies.{closed_by, is_at, is_one}
use Rattle.fa_calendar.proofs.Places.{among_all, rounds_that-le}
use Rattle.fa_calendar.proofs.dies.restore_all.Goals as goal

pub restore_one-requires-clause-room : goal.restore_one-requires-clause-room
restore_one-requires-clause-room g c =
    let d : Place = record { page = record { 0 = 0 }; die = record { 0 = 0 }; round = record { 0 = 0 } } in
    let x : Place = get_or c.args.places.now c.loop-place.place-index d in
    let within = c.loop-place-test.true in
    let more = among_all (closed_by c.args.dies.now.items) (closed_by c.loop-place.dies.items) c.args.places.now c.loop-place.place-index x within (get_or_default c.args.places.now c.loop-place.place-index d x within) c.loop-place.invariant.closed in
    record {
      few = λ die n.
          let part = rounds_that-le (λ round. closed_by c.loop-place.dies.items die round || is_one x die round) (λ round. closed_by c.args.dies.now.items die round || is_at c.args.places.now die round) (more die) 0 n in
          let few = c.requires.room.few die n in
          omega (arith, part, few);
      kept = λ die n.
          let part = rounds_that-le (λ round. closed_by c.loop-place.dies.items die round || is_one x die round) (λ round. closed_by c.args.dies.now.items die round || is_at c.args.places.now die round) (more die) 0 n in
          let kept = c.requires.room.kept die n in
          let room = c.loop-place.invariant.kept.rooms die in
          omega (arith, part, kept, room);
    }
