use Rattle.std.proofs.Common.{ℕ, ◌∷◌, [], ◌++◌, map, take, string_bytes, sym, ap, ◌∙◌, arith, subst}
use Rattle.std.proofs.lemmas.List.{map_more, take_all}
use Rattle.fa_batch_terms.specs.Batch.{Entry}
use Rattle.fa_texts.specs.BatchText.{page_line}
use Rattle.fa_texts.specs.Text.{PrintsLines}
use Rattle.fa_texts.proofs.PageEntries.{entry_there, no_entry}
use Rattle.fa_texts.proofs.Printed.{prints_behind, prints_none}
use Rattle.fa_texts.proofs.batch_print.print_pages.Goals as goal

pub loop-index-init : goal.loop-index-init
loop-index-init g c = prints_none (string_bytes c.args.out.now)

pub loop-index-preserved : goal.loop-index-preserved
loop-index-preserved g c =
    let batch = c.args.batch.now in
    let i : ℕ = c.loop-index.index in
    let is = entry_there batch i (omega arith) c.page.ensures c.holders_at.ensures in
    subst (λ v. PrintsLines (string_bytes c.args.out.now) (string_bytes c.print_page.new.out) v)
    (sym (map_more page_line batch i no_entry (omega arith) ∙ ap (λ (e : Entry). map page_line (take i batch) ++ page_line e ∷ []) is))
    (prints_behind c.loop-index.invariant c.in_ok-print_page.ensures)

pub returns : goal.returns
returns g c =
    subst (λ v. PrintsLines (string_bytes c.args.out.now) (string_bytes c.loop-index.out) (map page_line v)) (take_all c.loop-index.index c.args.batch.now (omega arith)) c.loop-index.invariant
