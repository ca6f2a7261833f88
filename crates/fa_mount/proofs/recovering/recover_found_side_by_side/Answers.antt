use Rattle.std.proofs.Common.{true, inl}
use Rattle.fa_core.specs.Array.{number_of, state_of}
use Rattle.fa_map.specs.PageView.{page_view}
use Rattle.fa_mount.proofs.Arrays.{recovered_by}
use Rattle.fa_mount.proofs.Mounted.{may_begin}
use Rattle.fa_mount.proofs.recovering.recover_found_side_by_side.Goals as goal

pub begin-requires : goal.begin-requires
begin-requires g c =
    let x = c.in-Ok.scanned in
    let by = c.in-Ok.ensures.recovers c.requires.found.0 c.requires.found.1 in
    may_begin g.I.Image.view g.I.Image.made c.args.copies.number true c.requires.found.0 c.recover_found_side_by_side.new.images x.array x.epoch x.clean
    x.dies.items (page_view x.map) by.0.mounts c.in-Ok.ensures.dies

pub returns-in-Ok-clause-recovers : goal.returns-in-Ok-clause-recovers
returns-in-Ok-clause-recovers g c = λ before read.
    let x = c.in-Ok.scanned in
    recovered_by g.I.Image.view g.I.Image.made c.args.copies.number before c.recover_found_side_by_side.new.images x.array x.epoch x.clean x.dies.items
    (page_view x.map) (λ y. number_of y.array) (λ y. y.dies.items) (λ y. state_of page_view y.array) c.begin.result c.begin.ensures.low
    c.begin.ensures.begun c.begin.ensures.dies c.begin.ensures.number c.begin.ensures.refused c.args.founds.now
    (c.in-Ok.ensures.recovers before read)

pub returns-in-Err-clause-recovers : goal.returns-in-Err-clause-recovers
returns-in-Err-clause-recovers g c = λ before read. inl (c.in-Err.ensures.recovers before read)
