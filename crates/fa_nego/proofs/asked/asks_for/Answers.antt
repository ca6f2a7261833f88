use Rattle.std.proofs.Common.{◌≡◌, ◌==◌, ◌||◌, get_or, false, take, sym, ap, ◌∙◌, arith}
use Rattle.std.proofs.lemmas.Bool.Decides.{nat_tests}
use Rattle.std.proofs.lemmas.List.{take_all}
use Rattle.std.proofs.lemmas.List.Folds.{list_any_at, list_any_more}
use Rattle.fa_nego.specs.Negotiation.{is_among}
use Rattle.fa_nego.proofs.Asking.{kind_read, few_kinds}
use Rattle.fa_nego.proofs.asked.asks_for.Goals as goal

pub returns-then-read_u16-kind : goal.returns-then-read_u16-kind
returns-then-read_u16-kind c asked are =
    let read = kind_read c.args.kinds.now asked c.loop-i.i c.read_u16.result are.0 are.1 c.loop-i-test.true c.read_u16.ensures in
    sym (list_any_at (λ one. one == c.args.kind) asked c.loop-i.i 0 read.below (grind (arith, nat_tests, read.is, c.if-read_u16-kind.true)))

pub loop-i-preserved : goal.loop-i-preserved
loop-i-preserved c asked are =
    let read = kind_read c.args.kinds.now asked c.loop-i.i c.read_u16.result are.0 are.1 c.loop-i-test.true c.read_u16.ensures in
    let before : is_among c.args.kind (take c.loop-i.i asked) ≡ false = c.loop-i.invariant asked are in
    let other : (get_or asked c.loop-i.i 0 == c.args.kind) ≡ false = grind (arith, nat_tests, read.is, c.if-read_u16-kind.false) in
    list_any_more (λ one. one == c.args.kind) asked c.loop-i.i 0 read.below ∙ ap (λ b. b || (get_or asked c.loop-i.i 0 == c.args.kind)) before ∙ other

pub returns : goal.returns
returns c asked are =
    sym (ap (is_among c.args.kind) (sym (take_all c.loop-i.i asked (few_kinds c.args.kinds.now asked c.loop-i.i are.1 c.loop-i-test.false)))
    ∙ c.loop-i.invariant asked are)
