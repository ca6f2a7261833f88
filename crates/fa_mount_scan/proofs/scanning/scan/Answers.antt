use Rattle.std.proofs.Common.{map, subst, sym}
use Rattle.fa_mount_headers.specs.Found.{IsReadOf}
use Rattle.fa_mount_scan.proofs.OnlyReading.{list_read_twice}
use Rattle.fa_mount_scan.proofs.SlotsScanned.{either}
use Rattle.fa_mount_scan.proofs.scanning.scan.Goals as goal

pub returns-in-Ok-clause-only_read : goal.returns-in-Ok-clause-only_read
returns-in-Ok-clause-only_read g c =
    list_read_twice (map g.I.Image.view c.args.images.now) (map g.I.Image.view c.read_headers.new.images)
    (map g.I.Image.view c.scan_found.new.images) c.read_headers.ensures.only_read c.scan_found.ensures.only_read

pub returns-in-Ok-clause-mounts : goal.returns-in-Ok-clause-mounts
returns-in-Ok-clause-mounts g c =
    let read = subst (IsReadOf g.I.Image.view g.I.Image.made c.args.images.now c.read_headers.new.images) (sym c.as_slice.ensures.value)
    (c.in-Ok.ensures.read, c.in-Ok.ensures.all) in
    either _ _ _ _ c.scan_found.result (c.scan_found.ensures.mounts c.args.images.now read) (λ mounted by_these. by_these.0)
    (λ refusal why. why)
