use Rattle.fa_core.proofs.Alone.{alone_at}
use Rattle.fa_types.specs.declared.numbers.Page.{Page}
use Rattle.std.proofs.Common.{ap, false, get_or, sym, true, ◌+◌, ◌∙◌}
use Rattle.std.proofs.lemmas.List.{take_rest}
use Rattle.std.specs.List.{list_any}
use Rattle.std.specs.Prelude.{◌==◌}
use Rattle.fa_core.proofs.distinct.are_apart.Goals as goal

pub returns-then-is_one_of_these : goal.returns-then-is_one_of_these
returns-then-is_one_of_these c =
    let pages = c.args.pages.now in let page : Page = get_or pages c.loop-i.i (record { 0 = 0 }) in
    sym (c.loop-i.invariant ∙ alone_at pages c.loop-i.i true c.loop-i-test.true
    (ap (list_any (λ (p : Page). p.0 == page.0)) (sym (take_rest pages (c.loop-i.i + 1)))
    ∙ sym c.is_one_of_these.ensures ∙ c.if-is_one_of_these.true))

pub loop-i-preserved : goal.loop-i-preserved
loop-i-preserved c =
    let pages = c.args.pages.now in let page : Page = get_or pages c.loop-i.i (record { 0 = 0 }) in
    c.loop-i.invariant ∙ alone_at pages c.loop-i.i false c.loop-i-test.true
    (ap (list_any (λ (p : Page). p.0 == page.0)) (sym (take_rest pages (c.loop-i.i + 1)))
    ∙ sym c.is_one_of_these.ensures ∙ c.if-is_one_of_these.false)
