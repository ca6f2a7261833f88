use Rattle.std.proofs.Common.{◌≡◌, ◌∙◌, Some, ℕ, Option, refl, set, subst, sym}
use Rattle.fa_mount_scan.specs.ContentReading.{image_read}
use Rattle.fa_mount_scan.specs.Readings.{AddsReading}
use Rattle.fa_mount_scan.proofs.slots.readings.make_ready.Goals as goal

-- src/readings_of.rt:46:1
pub returns : goal.returns
returns g c =
    let which : image_read c.args.standing ≡ Some c.in-Some.index = sym c.index_read.ensures ∙ c.in-Some.is in
    let made = c.in_ok-reading_of.ensures in
    subst (λ (image : Option ℕ). AddsReading c.args.geometry c.args.die.0 image c.args.readings.now.items
    (set c.args.readings.now.items c.in-Some.index (Some c.in_ok-reading_of.field-0))) (sym which)
    (c.in_ok-reading_of.field-0, refl, subst (λ d. d.0 ≡ c.args.die.0) (sym made.die) refl, made.room)
