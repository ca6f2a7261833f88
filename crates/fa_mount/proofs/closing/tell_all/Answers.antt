use Rattle.std.proofs.Common.{refl}
use Rattle.std.proofs.lemmas.Result.{err_from_is_err_and}
use Rattle.fa_mount.proofs.Cuts.{first_cut, second_cut, third}
use Rattle.fa_mount.proofs.closing.tell_all.Goals as goal

pub returns-in_err-sync_all : goal.returns-in_err-sync_all
returns-in_err-sync_all g c =
    let out = c.in_err-sync_all.field-0.0.0 in
    let cut = first_cut g.I.Image.made c.args.dies.now c.args.told.now c.args.marked.now
    c.args.marked.now c.args.images.now c.sync_all.new.images out c.in_err-sync_all.ensures.refused refl c.in_err-sync_all.ensures.made in
    let passed = err_from_is_err_and c.from_residual.result c.from_residual.ensures.1 in
    rw (passed.1, passed.2) cut

pub returns-in_err-mark_all : goal.returns-in_err-mark_all
returns-in_err-mark_all g c =
    let out = c.in_err-mark_all.field-0.0.0 in
    let cut = second_cut g.I.Image.made c.args.dies.now c.args.told.now c.args.marked.now
    c.mark_all.new.marked c.args.images.now c.sync_all.new.images c.mark_all.new.images out c.in_err-mark_all.ensures.refused
    c.in_err-mark_all.ensures.marked c.in_ok-sync_all.ensures.made c.in_err-mark_all.ensures.made in
    let passed = err_from_is_err_and c.from_residual-in_err-mark_all.result c.from_residual-in_err-mark_all.ensures.1 in
    rw (passed.1, passed.2) cut

pub returns : goal.returns
returns g c =
    third g.I.Image.made c.args.dies.now c.args.told.now c.args.marked.now
    c.mark_all.new.marked c.args.images.now c.sync_all.new.images c.mark_all.new.images c.sync_all-2.new.images c.sync_all-2.result
    c.sync_all-2.ensures.refused c.in_ok-mark_all.ensures.marked c.in_ok-sync_all.ensures.made c.in_ok-mark_all.ensures.made
    c.sync_all-2.ensures.made
