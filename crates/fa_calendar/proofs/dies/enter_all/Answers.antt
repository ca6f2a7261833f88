use Rattle.std.proofs.Common.{◌∙◌, ◌≡◌, ap, arith, get_or, length, sym, take}
use Rattle.std.proofs.Math.Seq.{take-length}
use Rattle.std.proofs.lemmas.Bool.{or_from}
use Rattle.std.specs.FinMap.{contains_key}
use Rattle.fa_batch_terms.specs.declared.place.Place.{Place}
use Rattle.fa_calendar.specs.Dies.{is_at, is_one}
use Rattle.fa_set.specs.Members.{Numbers}
use Rattle.fa_calendar.proofs.Idle.{elsewhere, not_entered}
use Rattle.fa_calendar.proofs.Places.{at_more}
use Rattle.fa_calendar.proofs.dies.enter_all.Goals as goal

pub loop-place-preserved : goal.loop-place-preserved
loop-place-preserved g c =
    let d : Place = record { page = record { 0 = 0 }; die = record { 0 = 0 }; round = record { 0 = 0 } } in
    let i = c.loop-place.place-index in
    let x : Place = get_or c.args.places.now i d in
    record {
      kept = λ die off. c.loop-place.invariant.kept die
          (not_entered c.loop-place.busy x.die.0 die (ap (λ (m : Numbers). contains_key m die) (sym c.enter.ensures) ∙ off)).1;
      entered = λ die round off.
          let before = not_entered c.loop-place.busy x.die.0 die
          (ap (λ (m : Numbers). contains_key m die) (sym c.enter.ensures) ∙ off) in
          at_more c.args.places.now i d c.loop-place-test.true die round
          ∙ or_from (is_at (take i c.args.places.now) die round) (is_one x die round)
          (c.loop-place.invariant.entered die round before.1)
          (elsewhere x die round before.0);
    }

pub returns-clause-entered : goal.returns-clause-entered
returns-clause-entered g c die round off =
    let i = c.loop-place.place-index in
    let all : length c.args.places.now ≡ i = omega (arith, c.loop-place-test.false, c.loop-place.auto.place-index-end) in
    ap (λ l. is_at l die round) (sym (take-length c.args.places.now)) ∙ ap (λ k. is_at (take k c.args.places.now) die round) all
    ∙ c.loop-place.invariant.entered die round off
