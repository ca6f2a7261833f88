use Rattle.std.proofs.Common.{◌≡◌, length, ap, subst, arith}
use Rattle.fa_plan.specs.Layout.{IsLaidOut}
use Rattle.fa_plan.specs.Progress.{AreSeats}
use Rattle.fa_plan.proofs.Seats.{seats_long, is_certificate}
use Rattle.fa_plan.proofs.planner.finish.Goals as goal

pub lay_out-requires-clause-few : goal.lay_out-requires-clause-few
lay_out-requires-clause-few g c =
    let same = c.in_ok-seats.ensures.same in
    let long = seats_long c.args.batch.now c.as_slice.result.now same.0 c.in_ok-seats.seats.items same.1 same.2 in
    let at = ap (λ v. length v) c.as_slice-2.ensures.value in
    let few = c.requires.sound.few in
    omega (arith, long, at, few)

pub returns-clause-certificate : goal.returns-clause-certificate
returns-clause-certificate g c =
    let same = c.in_ok-seats.ensures.same in
    let progress = c.requires.progress in
    let given = c.args.progress.given.items in
    let all : length given ≡ length c.args.batch.now = (let short = progress.given.short in let done = c.requires.done in omega (arith, short, done)) in
    is_certificate c.args.batch.now given same.0 c.in_ok-seats.seats.items (subst (λ v. AreSeats c.args.batch.now v same.0) c.as_slice.ensures.value same.1) same.2
    (g.R.Rounds.current c.args.calendar.now) (g.R.Rounds.closed c.args.calendar.now) c.in_ok-places.places
    (subst (λ v. IsLaidOut (g.R.Rounds.current c.args.calendar.now) (g.R.Rounds.closed c.args.calendar.now) v c.in_ok-places.places) c.as_slice-2.ensures.value c.in_ok-places.ensures)
    c.requires.sound progress.given.readers all c.args.progress.tables.open_counts c.args.progress.rounds c.args.progress.short progress.given.within progress.open_counts progress.shows
