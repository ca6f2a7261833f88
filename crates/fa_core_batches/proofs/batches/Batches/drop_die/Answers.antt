use Rattle.fa_core_batches.proofs.Counts.{anew_counted}
use Rattle.fa_core_batches.proofs.Kept.{whole_changed}
use Rattle.fa_core_batches.proofs.Opened.{batches_same, lost_answer}
use Rattle.fa_core_batches.proofs.Recounted.{batches_recounted, whole_recounted}
use Rattle.fa_core_batches.specs.Counted.{counted_anew}
use Rattle.fa_core_batches.specs.Pages.{answer_in, with_die_out}
use Rattle.fa_core_batches.specs.declared.page.BatchPage.{BatchPage}
use Rattle.std.proofs.Common.{ap, refl, ◌∙◌}
use Rattle.std.specs.Prelude.{option_and_then}
use Rattle.fa_core_batches.proofs.batches.Batches.drop_die.Goals as goal

pub invariant_of-self : goal.invariant_of-self
invariant_of-self g c =
    let old = c.args.self.now in
    let pages = c.lose_die.new.pages.entries in
    record {
      whole = whole_recounted _ _ old.lists.entries pages
          (whole_changed _ _ _ _ old.whole pages (with_die_out c.args.die.0) (λ x. refl) c.lose_die.ensures)
          c.count_anew.new.lists.entries (counted_anew pages) (λ b l. refl) (λ b l. refl) (λ b l. refl) c.count_anew.ensures;
      counted = anew_counted old.lists.entries c.count_anew.new.lists.entries pages c.count_anew.ensures;
    }

pub returns-clause-batches : goal.returns-clause-batches
returns-clause-batches g c =
    let old = c.args.self.now in
    let pages = c.lose_die.new.pages.entries in
    batches_recounted old.page_bytes old.next old.lists.entries pages
    (whole_changed _ _ _ _ old.whole pages (with_die_out c.args.die.0) (λ x. refl) c.lose_die.ensures)
    c.count_anew.new.lists.entries (counted_anew pages) (λ b l. refl) (λ b l. refl) (λ b l. refl) c.count_anew.ensures
    ∙ batches_same old.lists.entries old.pages.entries pages
    (λ q p. ap (option_and_then (λ (x : BatchPage g.row.A.Denot). answer_in x.state x.buffer.items)) (c.lose_die.ensures q p)
    ∙ lost_answer c.args.die.0 _)
