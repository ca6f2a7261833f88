use Rattle.fa_core_batches.proofs.Counts.{begun_counted}
use Rattle.fa_core_batches.proofs.Kept.{at_batch, other_batch, whole_begun}
use Rattle.fa_core_batches.proofs.Opened.{batch_set, no_pages, none_next}
use Rattle.fa_core_batches.specs.Batches.{batches_of}
use Rattle.fa_core_batches.specs.Pages.{list_at}
use Rattle.fa_core_batches.specs.declared.page.BatchList.{BatchList}
use Rattle.std.proofs.Common.{Some, ap, refl, ℕ, ◌∙◌, ◌≡◌}
use Rattle.std.specs.FinMap.{insert}
use Rattle.fa_core_batches.proofs.batches.Batches.begin.Goals as goal

pub returns-then-self-clause-fresh : goal.returns-then-self-clause-fresh
returns-then-self-clause-fresh g c = none_next _ _ _ _ c.args.self.now.whole

pub returns-in_err-take_pages-clause-fresh : goal.returns-in_err-take_pages-clause-fresh
returns-in_err-take_pages-clause-fresh g c = none_next _ _ _ _ c.args.self.now.whole

pub returns-in_err-take_answers-clause-fresh : goal.returns-in_err-take_answers-clause-fresh
returns-in_err-take_answers-clause-fresh g c = none_next _ _ _ _ c.args.self.now.whole

pub returns-in_err-insert_list-clause-fresh : goal.returns-in_err-insert_list-clause-fresh
returns-in_err-insert_list-clause-fresh g c = none_next _ _ _ _ c.args.self.now.whole

pub returns-clause-fresh : goal.returns-clause-fresh
returns-clause-fresh g c = none_next _ _ _ _ c.args.self.now.whole

pub invariant_of-self-2 : goal.invariant_of-self-2
invariant_of-self-2 g c =
    let list : BatchList g.row.A.Denot = record {
      pages = c.in_ok-take_pages.field-0;
      answers = c.in_ok-take_answers.field-0;
      room = c.args.pages;
      torn = 0;
      unanswered = 0;
    } in
    record {
      whole = whole_begun _ _ _ _ c.args.self.now.whole c.insert_list.new.lists.entries list
          c.in_ok-take_pages.ensures.empty c.in_ok-take_answers.ensures.empty
          c.in_ok-take_pages.ensures.wide c.in_ok-take_answers.ensures.wide c.in_ok-insert_list.ensures.ok;
      counted = begun_counted _ _ _ _ c.args.self.now.whole c.args.self.now.counted c.insert_list.new.lists.entries c.args.self.now.next list
          c.in_ok-take_pages.ensures.empty refl refl c.in_ok-insert_list.ensures.ok;
    }

pub returns-clause-begun : goal.returns-clause-begun
returns-clause-begun g c =
    let list : BatchList g.row.A.Denot = record {
      pages = c.in_ok-take_pages.field-0;
      answers = c.in_ok-take_answers.field-0;
      room = c.args.pages;
      torn = 0;
      unanswered = 0;
    } in
    let old = c.args.self.now in
    let begun : (q : ℕ) → (q ≡ old.next → ⊥) → list_at c.insert_list.new.lists.entries q ≡ list_at old.lists.entries q
    = λ q apart. c.in_ok-insert_list.ensures.ok q ∙ other_batch old.next q (Some list) (list_at old.lists.entries q) apart in
    batch_set old.lists.entries c.insert_list.new.lists.entries old.pages.entries old.pages.entries old.next begun (λ q p apart. refl) list
    (c.in_ok-insert_list.ensures.ok old.next ∙ at_batch old.next (Some list) (list_at old.lists.entries old.next))
    ∙ ap (insert (batches_of old) old.next) (no_pages old.pages.entries old.next list c.in_ok-take_pages.ensures.empty)
