use Rattle.std.proofs.Common.{sym, ◌∙◌, arith}
use Rattle.fa_calendar.proofs.Merged.{length_fits}
use Rattle.fa_calendar.proofs.Refusals.{on_err}
use Rattle.fa_calendar.proofs.die.close.Goals as goal

pub unreachable-requires : goal.unreachable-requires
unreachable-requires g c =
    let size = c.args.spans.now.ok in
    let full = on_err c.put_in.result (sym c.is_err.ensures.value ∙ c.if-is_err.true) c.put_in.ensures.full in
    let fits = length_fits c.args.spans.now.items c.requires.merged in
    omega (arith, size.0, full, fits, c.requires.kept)
