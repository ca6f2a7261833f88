use Rattle.std.proofs.Common.{◌≡◌, ◌+◌, ◌-◌, arith, ap}
use Rattle.std.proofs.lemmas.Bool.{lt-ltb, ltb-true}
use Rattle.fa_batch_terms.specs.Certificate.{open_places}
use Rattle.fa_cert_places.specs.OpenCounts.{marked}
use Rattle.fa_cert_places.proofs.Marked.{marked-none, places-yes, places-no, places-grow}
use Rattle.fa_cert_places.proofs.are_more.Goals as goal
use Rattle.fa_cert_places.proofs.are_more.Goals.{then-marks-die+else-left-open, else-marks-die}

pub loop-die-init : goal.loop-die-init
loop-die-init g c =
    let none = ap (λ ds. open_places (g.R.Rounds.current c.args.calendar.now) (g.R.Rounds.closed c.args.calendar.now) ds c.args.rounds) (marked-none c.args.marks.now) in
    let is : c.args.pages + open_places (g.R.Rounds.current c.args.calendar.now) (g.R.Rounds.closed c.args.calendar.now) (marked c.args.marks.now 0) c.args.rounds ≡ c.args.pages = omega (arith, none) in
    is

pub returns-then-left-open : goal.returns-then-left-open
returns-then-left-open g c =
    let one = places-yes (g.R.Rounds.current c.args.calendar.now) (g.R.Rounds.closed c.args.calendar.now) c.args.marks.now c.args.rounds c.loop-die.die c.if-marks-die.true in
    let all = places-grow (g.R.Rounds.current c.args.calendar.now) (g.R.Rounds.closed c.args.calendar.now) c.args.marks.now c.args.rounds (c.loop-die.die + 1) (255 - c.loop-die.die) in
    let end : (c.loop-die.die + 1) + (255 - c.loop-die.die) ≡ 256 = omega arith in
    let most = ap (λ n. open_places (g.R.Rounds.current c.args.calendar.now) (g.R.Rounds.closed c.args.calendar.now) (marked c.args.marks.now n) c.args.rounds) end in
    (λ no. cc, λ less. absurd (omega (arith, one, all, most, c.loop-die.invariant, c.open_count-open.ensures, less)))

pub loop-die-preserved : goal.loop-die-preserved
loop-die-preserved g c =
    let is : c.if-marks-die.left + open_places (g.R.Rounds.current c.args.calendar.now) (g.R.Rounds.closed c.args.calendar.now) (marked c.args.marks.now (c.loop-die.die + 1)) c.args.rounds ≡ c.args.pages =
    elim c.if-marks-die.branch [
      | then-marks-die+else-left-open w ↦
          (let one = places-yes (g.R.Rounds.current c.args.calendar.now) (g.R.Rounds.closed c.args.calendar.now) c.args.marks.now c.args.rounds c.loop-die.die w.if-marks-die.true in
          omega (arith, one, c.loop-die.invariant, w.open_count-open.ensures, w.left-is))
      | else-marks-die w ↦
          (let same = places-no (g.R.Rounds.current c.args.calendar.now) (g.R.Rounds.closed c.args.calendar.now) c.args.marks.now c.args.rounds c.loop-die.die w.if-marks-die.false in
          omega (arith, same, c.loop-die.invariant, w.left-is))
    ] in
    is

pub returns : goal.returns
returns g c =
    let end : c.loop-die.die ≡ 256 = omega arith in
    let all = ap (λ n. open_places (g.R.Rounds.current c.args.calendar.now) (g.R.Rounds.closed c.args.calendar.now) (marked c.args.marks.now n) c.args.rounds) end in (
      λ t. let some = ltb-true 0 c.loop-die.left t in omega (arith, all, c.loop-die.invariant, some),
      λ less. lt-ltb 0 c.loop-die.left (omega (arith, all, c.loop-die.invariant, less)),
    )
