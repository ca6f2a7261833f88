use Rattle.std.proofs.Common.{ℕ, All, refl, sym, subst, arith}
use Rattle.std.proofs.lemmas.Bool.{false≢true}
use Rattle.std.proofs.lemmas.List.{take_all}
use Rattle.std.proofs.lemmas.List.Elements.{All-get_or, All-more, All-nil}
use Rattle.fa_texts.specs.BatchText.{HasPageLine}
use Rattle.fa_texts.proofs.PageEntries.{entry_there, no_entry}
use Rattle.fa_texts.proofs.batch_print.have_page_lines.Goals as goal

pub loop-index-init : goal.loop-index-init
loop-index-init g c = All-nil HasPageLine

pub returns-then-not-has_page_line : goal.returns-then-not-has_page_line
returns-then-not-has_page_line g c =
    let batch = c.args.batch.now in
    let i : ℕ = c.loop-index.index in
    let is = entry_there batch i (omega arith) c.page.ensures c.holders_at.ensures in (
      λ no. absurd (false≢true no),
      λ all. c.if-not-has_page_line.ensures.1 (subst (λ e. HasPageLine e) is (All-get_or HasPageLine batch i no_entry (omega arith) all)),
    )

pub loop-index-preserved : goal.loop-index-preserved
loop-index-preserved g c =
    let batch = c.args.batch.now in
    let i : ℕ = c.loop-index.index in
    let is = entry_there batch i (omega arith) c.page.ensures c.holders_at.ensures in
    All-more HasPageLine batch i no_entry (omega arith) c.loop-index.invariant (subst (λ e. HasPageLine e) (sym is) (c.has_page_line.ensures.0 c.if-not-has_page_line.false))

pub returns : goal.returns
returns g c = (
  λ holds. subst (λ v. All HasPageLine v) (take_all c.loop-index.index c.args.batch.now (omega arith)) c.loop-index.invariant,
  λ all. refl,
)
