use Rattle.std.proofs.Common.{sym, ap, ◌∙◌, ◌==◌}
use Rattle.std.specs.Option.{option_map}
use Rattle.fa_batch_terms.specs.Batch.{Entry}
use Rattle.fa_batch.proofs.Indexed.{find-nowhere, found_at}
use Rattle.fa_batch.proofs.batch.Batch.holders.Goals as goal

pub returns-in-Some : goal.returns-in-Some
returns-in-Some g c = found_at c.args.self.now c.args.page.0 c.in-Some.index c.holders_at.result.now (sym c.first_index.ensures ∙ c.in-Some.is) c.holders_at.ensures

pub returns-in-None : goal.returns-in-None
returns-in-None g c =
    sym (ap (λ o. option_map (λ (e : Entry). e.holders) o) (find-nowhere (λ (e : Entry). e.page.0 == c.args.page.0) c.args.self.now (sym c.first_index.ensures ∙ c.in-None.is)))
