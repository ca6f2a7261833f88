use Rattle.std.proofs.Common.{◌||◌, false, None, sym, ap, ◌∙◌, slice_index_or}
use Rattle.std.proofs.Math.Bool.{or-false}
use Rattle.fa_batch.proofs.Batches.{found_holders, unnamed_holds, is_named}
use Rattle.fa_cert.proofs.checker.mark_holders.Goals as goal

pub returns-in-Some : goal.returns-in-Some
returns-in-Some g c = λ die.
    c.mark.ensures die ∙ ap (λ b. slice_index_or c.args.marks.now die false || b) (found_holders c.args.batch.now c.args.page.0 die c.in-Some.holders.now c.requires c.in-Some.ensures)

pub returns-in-None : goal.returns-in-None
returns-in-None g c = λ die.
    let none = sym (is_named c.args.batch.now c.args.page.0 None c.in-None.ensures) in
    sym (ap (λ b. slice_index_or c.args.marks.now die false || b) (unnamed_holds c.args.page.0 die c.args.batch.now none) ∙ or-false (slice_index_or c.args.marks.now die false))
