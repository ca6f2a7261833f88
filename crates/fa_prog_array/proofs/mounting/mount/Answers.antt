use Rattle.std.proofs.Common.{List, Ok, subst, sym}
use Rattle.fa_mount_headers.specs.Expected.{IsExpected}
use Rattle.fa_mount_headers.specs.Found.{IsReadOf}
use Rattle.fa_mount_headers.specs.declared.found.Found.{Found}
use Rattle.fa_mount_scan.proofs.OnlyReading.{list_read_twice}
use Rattle.fa_prog_array.proofs.Mounted.{however}
use Rattle.fa_prog_array.proofs.mounting.mount.Goals as goal

pub returns-in-Ok-clause-mounts : goal.returns-in-Ok-clause-mounts
returns-in-Ok-clause-mounts g c =
    let same = sym c.as_slice.ensures.value in
    c.mount_expected.ensures.mounts _
    (subst (λ (f : List Found). IsReadOf g.I.Image.view g.I.Image.made c.args.images.now c.read_expected.new.images f) same (c.in-Ok.ensures).0)

pub returns-in-Ok-clause-only_read : goal.returns-in-Ok-clause-only_read
returns-in-Ok-clause-only_read g c =
    however _
    (list_read_twice _ _ _ (c.headers_are_only_read.ensures.kept _ _ _ (c.in-Ok.ensures).0.0) c.mount_expected.ensures.only_read)
