use Rattle.std.proofs.Common.{◌≡◌, ◌∙◌, Some, ap, get_or, sym}
use Rattle.std.proofs.lemmas.Option.{slice_get-get_or}
use Rattle.fa_mount_scan.specs.ContentReading.{image_read}
use Rattle.fa_mount_scan.specs.Readings.{outcome_from}
use Rattle.fa_mount_scan.proofs.ByDie.{put_other}
use Rattle.fa_mount_scan.proofs.SideBySide.{came_of_place}
use Rattle.fa_mount_scan.proofs.slots.readings.take_outcome.Goals as goal

pub returns : goal.returns
returns g c =
    let which : image_read c.args.standing ≡ Some c.in-Some.index = sym c.index_read.ensures ∙ c.in-Some.is in
    let there = slice_get-get_or c.args.readings.now c.in-Some.index c.index-readings-index.result (c.requires.within c.in-Some.index which) in
    record {
      value = c.taken.ensures.value
          ∙ came_of_place c.args.readings.now c.in-Some.index (get_or c.args.readings.now c.in-Some.index c.index-readings-index.result) there
          ∙ ap (outcome_from c.args.readings.now) (sym which);
      others = λ index not. put_other c.args.readings.now c.in-Some.index c.taken.new.place index (λ same. not (which ∙ ap Some (sym same)));
    }
