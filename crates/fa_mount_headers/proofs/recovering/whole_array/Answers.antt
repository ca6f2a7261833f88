use Rattle.std.proofs.Common.{◌∙◌, ap, sym}
use Rattle.std.specs.Result.{result_err}
use Rattle.fa_mount_headers.proofs.Recovered.{by_dies}
use Rattle.fa_mount_headers.proofs.recovering.whole_array.Goals as goal

pub returns-in-Ok-clause-refused : goal.returns-in-Ok-clause-refused
returns-in-Ok-clause-refused c =
    sym (ap result_err c.in-Ok.is)
    ∙ c.none_missed.ensures
    ∙ by_dies c.args.copies.number c.args.seen.now c.in_ok-first.first c.greatest_epoch-epoch.result c.mask_in-mask.result
    (sym c.in_ok-first.ensures.refused) c.in_ok-first.ensures.first c.greatest_epoch-epoch.ensures c.mask_in-mask.ensures

pub returns-in-Err-clause-refused : goal.returns-in-Err-clause-refused
returns-in-Err-clause-refused c =
    sym (ap result_err c.in-Err.is)
    ∙ c.none_missed.ensures
    ∙ by_dies c.args.copies.number c.args.seen.now c.in_ok-first.first c.greatest_epoch-epoch.result c.mask_in-mask.result
    (sym c.in_ok-first.ensures.refused) c.in_ok-first.ensures.first c.greatest_epoch-epoch.ensures c.mask_in-mask.ensures
