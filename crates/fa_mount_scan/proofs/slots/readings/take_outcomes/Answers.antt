use Rattle.std.proofs.Common.{◌≡◌, ◌∙◌, Some, length, sym, ap, subst, slice_get, get_or, arith}
use Rattle.std.proofs.lemmas.List.{length_push}
use Rattle.std.proofs.lemmas.Option.{slice_get-get_or}
use Rattle.fa_mount_scan.specs.Readings.{AreFrom, outcome_from}
use Rattle.fa_mount_headers.specs.declared.judging.Standing.{Standing}
use Rattle.fa_mount_headers.specs.declared.judging.Standing.TheVariants.{Missing}
use Rattle.fa_mount_scan.proofs.ByDie.{next_each, next_untouched}
use Rattle.fa_mount_scan.proofs.SideBySide.{same_outcome}
use Rattle.fa_mount_scan.proofs.slots.readings.take_outcomes.Goals as goal

pub take_outcome-outcome-requires : goal.take_outcome-outcome-requires
take_outcome-outcome-requires g c = record {
  within = λ index which.
      let standing : Standing = get_or c.args.standings.now c.loop-die.die Missing in
      let at : slice_get c.args.standings.now c.loop-die.die ≡ Some standing = slice_get-get_or c.args.standings.now c.loop-die.die Missing c.loop-die-test.true in
      let less = c.requires.within c.loop-die.die index standing at which in
      let long = c.loop-die.invariant.room in
      omega (arith, less, long);
}

pub loop-die-preserved : goal.loop-die-preserved
loop-die-preserved g c =
    let standing : Standing = get_or c.args.standings.now c.loop-die.die Missing in
    let at : slice_get c.args.standings.now c.loop-die.die ≡ Some standing = slice_get-get_or c.args.standings.now c.loop-die.die Missing c.loop-die-test.true in
    let pushed = c.in_ok-push.ensures.items in
    let long = c.loop-die.invariant.as_many in
    let more = length_push c.loop-die.outcomes.items c.take_outcome-outcome.result in
    record {
      as_many = (let as_many = ap length pushed in omega (arith, as_many, more, long));
      each = subst (AreFrom c.args.readings.now c.args.standings.now) (sym pushed)
          (next_each (λ d image outcome. outcome ≡ outcome_from c.args.readings.now image) c.args.standings.now c.loop-die.die standing at
          c.loop-die.outcomes.items c.take_outcome-outcome.result long (λ d x o below is found. c.loop-die.invariant.each d x o is found)
          (c.take_outcome-outcome.ensures.value
          ∙ same_outcome c.args.standings.now c.args.readings.now c.loop-die.readings c.loop-die.die standing at c.requires.apart
          c.loop-die.invariant.untouched));
      room = c.take_outcome-outcome.auto.readings ∙ c.loop-die.invariant.room;
      untouched = next_untouched c.args.standings.now c.args.readings.now c.loop-die.readings c.take_outcome-outcome.new.readings c.loop-die.die
          standing at c.loop-die.invariant.untouched c.take_outcome-outcome.ensures.others;
    }
