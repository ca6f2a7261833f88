use Rattle.std.proofs.Common.{◌≡◌, ◌∙◌, ◌++◌, ℕ, List, Option, Some, Result, length, drop, slice_get, get_or, sym, subst, ap, arith}
use Rattle.std.proofs.Common.{length-take, length-append, length-drop}
use Rattle.std.proofs.lemmas.List.{length_push}
use Rattle.std.proofs.lemmas.Option.{slice_get-get_or, slice_get_within}
use Rattle.fa_image.specs.declared.fault.ImageFault.{ImageFault}
use Rattle.fa_image.specs.Image.{ImageState}
use Rattle.fa_mount_scan.specs.ContentReading.{AreOutcomes}
use Rattle.fa_mount_scan.specs.declared.slots.content.SlotContent.{SlotContent}
use Rattle.fa_mount_headers.specs.declared.judging.Standing.{Standing}
use Rattle.fa_mount_headers.specs.declared.judging.Standing.TheVariants.{Missing}
use Rattle.fa_mount_scan.proofs.OnlyReading.{all_read_twice}
use Rattle.fa_mount_scan.proofs.ByDie.{next_untouched}
use Rattle.fa_mount_scan.proofs.Outcomes.{next_outcomes}
use Rattle.fa_mount_scan.proofs.slots.dies.read_dies.Goals as goal

pub read_standing-requires-clause-within : goal.read_standing-requires-clause-within
read_standing-requires-clause-within g c = λ index which.
    let has = c.requires.image c.loop-die.die (get_or c.args.standings.now c.loop-die.die Missing) index
    (slice_get-get_or c.args.standings.now c.loop-die.die Missing c.loop-die-test.true) which in
    let within = slice_get_within c.args.images.now index has.0 has.1 in
    let long = c.loop-die.invariant.only_read.as_many in
    omega (arith, within, long)

pub read_standing-requires-clause-image : goal.read_standing-requires-clause-image
read_standing-requires-clause-image g c = λ index which.
    let has = c.requires.image c.loop-die.die (get_or c.args.standings.now c.loop-die.die Missing) index
    (slice_get-get_or c.args.standings.now c.loop-die.die Missing c.loop-die-test.true) which in
    let now = c.loop-die.invariant.only_read.each index has.0 has.1 in
    (now.0, now.1, ap (λ (x : ImageState). x.geometry) now.2 ∙ has.2)

pub returns-in_err-outcome-clause-only_read : goal.returns-in_err-outcome-clause-only_read
returns-in_err-outcome-clause-only_read g c =
    all_read_twice g.I.Image.view c.args.images.now c.loop-die.images c.read_standing.new.images c.loop-die.invariant.only_read c.read_standing.ensures.only_read

pub returns-in_err-push-clause-only_read : goal.returns-in_err-push-clause-only_read
returns-in_err-push-clause-only_read g c =
    all_read_twice g.I.Image.view c.args.images.now c.loop-die.images c.read_standing.new.images c.loop-die.invariant.only_read c.read_standing.ensures.only_read

pub loop-die-preserved : goal.loop-die-preserved
loop-die-preserved g c =
    let standing : Standing = get_or c.args.standings.now c.loop-die.die Missing in
    let at : slice_get c.args.standings.now c.loop-die.die ≡ Some standing = slice_get-get_or c.args.standings.now c.loop-die.die Missing c.loop-die-test.true in
    let before : List (Option (Result (List SlotContent) ImageFault)) = c.loop-die.outcomes.items in
    let pushed = c.in_ok-push.ensures.items in
    let long = c.loop-die.invariant.long in
    let more = length_push before c.in_ok-outcome.outcome in
    record {
      buffer =
          let new : List ℕ = c.read_standing.new.buffer in
          let items : List ℕ = c.loop-die.buffer.items in
          let kept = c.loop-die.invariant.buffer in
          let whole = c.loop-die.buffer.ok.0 in
          let lent = c.as_mut_slice.ensures.len in
          let back = c.read_standing.auto.buffer in
          omega (
            arith,
            length-take c.loop-die.buffer.len (new ++ drop (length new) items),
            length-append new (drop (length new) items),
            length-drop (length new) items,
            kept,
            whole,
            lent,
            back,
          );
      long = (let as_many = ap length pushed in omega (arith, as_many, more, long));
      outcomes = subst (AreOutcomes g.I.Image.made c.args.geometry c.args.images.now c.read_standing.new.images c.args.standings.now) (sym pushed)
          (next_outcomes g.I.Image.made c.args.geometry c.args.standings.now c.requires.apart c.args.images.now c.loop-die.images c.read_standing.new.images
          c.loop-die.die standing at c.loop-die.invariant.untouched c.read_standing.ensures.others before c.in_ok-outcome.outcome long
          c.loop-die.invariant.outcomes c.in_ok-outcome.ensures.outcome);
      untouched = next_untouched c.args.standings.now c.args.images.now c.loop-die.images c.read_standing.new.images
          c.loop-die.die standing at c.loop-die.invariant.untouched c.read_standing.ensures.others;
      only_read = all_read_twice g.I.Image.view c.args.images.now c.loop-die.images c.read_standing.new.images c.loop-die.invariant.only_read
          c.read_standing.ensures.only_read;
    }
