use Rattle.std.proofs.Common.{map, subst, sym}
use Rattle.fa_core.specs.Array.{number_of, state_of}
use Rattle.fa_map.specs.PageView.{page_view}
use Rattle.fa_mount_headers.specs.Found.{IsReadOf}
use Rattle.fa_mount_scan.proofs.OnlyReading.{list_read_twice}
use Rattle.fa_mount.proofs.Arrays.{by_any}
use Rattle.fa_mount.proofs.recovering.recover.Goals as goal

pub returns-in-Ok-clause-only_read : goal.returns-in-Ok-clause-only_read
returns-in-Ok-clause-only_read g c =
    list_read_twice (map g.I.Image.view c.args.images.now) (map g.I.Image.view c.read_headers.new.images)
    (map g.I.Image.view c.recover_found.new.images) c.read_headers.ensures.only_read c.recover_found.ensures.only_read

pub returns-in-Ok-clause-recovers : goal.returns-in-Ok-clause-recovers
returns-in-Ok-clause-recovers g c =
    let read = subst (IsReadOf g.I.Image.view g.I.Image.made c.args.images.now c.read_headers.new.images) (sym c.as_slice.ensures.value)
    (c.in-Ok.ensures.read, c.in-Ok.ensures.all) in
    by_any _ g.I.Image.view g.I.Image.made c.args.copies.number c.args.images.now c.recover_found.new.images c.as_slice.result.now
    (λ y. number_of y.array) (λ y. y.dies.items) (λ y. state_of page_view y.array) c.recover_found.result
    (c.recover_found.ensures.recovers c.args.images.now read)
