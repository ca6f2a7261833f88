use Rattle.std.proofs.Common.{◌≡◌, Some, refl, slice_get, get_or, arith}
use Rattle.std.proofs.lemmas.Option.{slice_get-get_or}
use Rattle.fa_mount_scan.specs.ContentReading.{image_read}
use Rattle.fa_mount_headers.specs.declared.judging.Standing.{Standing}
use Rattle.fa_mount_headers.specs.declared.judging.Standing.TheVariants.{Missing}
use Rattle.fa_mount_scan.proofs.SideBySide.{reading_added}
use Rattle.fa_mount_scan.proofs.slots.readings.readings_of.Goals as goal

pub make_ready-requires : goal.make_ready-requires
make_ready-requires g c = record {
  within = λ index which.
      let standing : Standing = get_or c.args.standings.now c.loop-die.die Missing in
      let at : slice_get c.args.standings.now c.loop-die.die ≡ Some standing = slice_get-get_or c.args.standings.now c.loop-die.die Missing c.loop-die-test.true in
      let less = c.requires.within c.loop-die.die index standing at which in
      let long = c.loop-die.invariant.as_many in
      omega (arith, less, long);
}

pub loop-die-preserved : goal.loop-die-preserved
loop-die-preserved g c =
    let standing : Standing = get_or c.args.standings.now c.loop-die.die Missing in
    let at : slice_get c.args.standings.now c.loop-die.die ≡ Some standing = slice_get-get_or c.args.standings.now c.loop-die.die Missing c.loop-die-test.true in
    reading_added c.args.geometry c.args.standings.now c.requires.apart c.args.images c.loop-die.die standing at c.loop-die.readings.items
    c.make_ready.new.readings.items c.loop-die.invariant (image_read standing) refl
    (λ index which. c.requires.within c.loop-die.die index standing at which) c.in_ok-make_ready.ensures

pub returns : goal.returns
returns g c = record {
  as_many = c.loop-die.invariant.as_many;
  each = λ die index standing below is which.
      let past = c.loop-die-test.false in c.loop-die.invariant.each die index standing (omega (arith, below, past)) is which;
  only = c.loop-die.invariant.only;
}
