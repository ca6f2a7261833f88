use Rattle.std.proofs.Common.{◌<◌, None, length, ap, subst, sym, arith}
use Rattle.fa_image.specs.FileMade.{file_view, file_is_honest}
use Rattle.fa_mount_headers.specs.FirstHeader.{first_header}
use Rattle.fa_tag.specs.HeaderGrammar.{header_bytes}
use Rattle.fa_prog_images.specs.Formatting.{CameOf}
use Rattle.fa_prog_images.proofs.Formatting.{stops_within}
use Rattle.fa_prog_images.proofs.format.make_all.Goals as goal

pub returns : goal.returns
returns g c =
    let settings = c.args.settings.now in
    let failed = c.in-Err-format.failed in
    let within = stops_within file_view file_is_honest (λ die. header_bytes 2 (first_header settings.geometry settings.array die))
    (header_bytes 2 (first_header settings.geometry settings.array failed.image)) failed.fault 0 c.deref_mut.result.now c.format.new.images failed.image
    c.in-Err-format.ensures in
    let same = ap length c.deref_mut.ensures.value in
    let long = c.in_default-empty_all.ensures.long in
    let below : failed.image < settings.geometry.dies = omega (arith, within, same, long, c.requires) in
    subst (CameOf settings None) (sym c.failed_image.ensures) (c.requires, below)
