use Rattle.std.proofs.Common.{◌≡◌, ◌++◌, ap, ◌∙◌, arith}
use Rattle.fa_nego.proofs.Stages.{grows}
use Rattle.fa_nego.proofs.nego.hear.Goals as goal

pub returns-in-None-clause-heard : goal.returns-in-None-clause-heard
returns-in-None-clause-heard g c heard said at =
    let held : c.deref.result.now ≡ c.args.held.now.items ++ c.args.piece.now =
    c.deref.ensures.value ∙ c.in_ok-extend_from_slice.ensures.items ∙ ap (λ items. items ++ c.args.piece.now) c.in_ok-reserve.ensures.items in
    let grown = grows c.args.export.now c.args.size c.args.phase c.args.held.now.items c.args.piece.now heard said (omega (arith, c.requires.wants, c.requires.within)) at in
    let judged = c.in-Ok.ensures (heard ++ c.args.piece.now) said (rw held grown) in
    rw (← c.deref.ensures.value) (rw c.in-None.is at judged)

pub returns-in-Some-clause-heard : goal.returns-in-Some-clause-heard
returns-in-Some-clause-heard g c heard said at =
    let held : c.deref.result.now ≡ c.args.held.now.items ++ c.args.piece.now =
    c.deref.ensures.value ∙ c.in_ok-extend_from_slice.ensures.items ∙ ap (λ items. items ++ c.args.piece.now) c.in_ok-reserve.ensures.items in
    let grown = grows c.args.export.now c.args.size c.args.phase c.args.held.now.items c.args.piece.now heard said (omega (arith, c.requires.wants, c.requires.within)) at in
    let judged = c.in-Ok.ensures (heard ++ c.args.piece.now) said (rw held grown) in
    rw c.clear.ensures.items (rw c.in-Some.is at judged)
