use Rattle.std.proofs.Common.{◌∙◌, rules}
use Rattle.std.proofs.lemmas.List.Sorted.{answers_always}
use Rattle.fa_batch.specs.declared.batch.HeldPage.{HeldPage}
use Rattle.fa_batch.proofs.Rising.{searched}
use Rattle.fa_batch.proofs.batch.rising_index.Goals as goal

-- the closure gives an entry's page
pub returns : goal.returns
returns c =
    let by_page = c.binary_search_by_key.ensures.position (λ (h : HeldPage). h.page.0) (answers_always _ _ _ (λ f a r g called. search rules)) in
    c.ok.ensures.value ∙ searched c.args.entries.now c.args.page.0 c.binary_search_by_key.result c.requires c.binary_search_by_key.ensures.bound by_page
