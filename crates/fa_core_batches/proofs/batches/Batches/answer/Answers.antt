use Rattle.fa_core_batches.proofs.Counts.{can_change, changed_counted}
use Rattle.fa_core_batches.proofs.Recounted.{batches_recounted, same_answers_at, same_pages_at, same_room_at, states_from, whole_at}
use Rattle.fa_core_batches.proofs.Recounted.{whole_recounted}
use Rattle.fa_core_batches.proofs.Written.{answered}
use Rattle.fa_core_batches.specs.Counted.{CanChange, changed_at}
use Rattle.fa_core_batches.specs.Pages.{list_at, with_answer}
use Rattle.fa_core_batches.specs.declared.page.PageState.TheVariants.{Answered}
use Rattle.std.proofs.Common.{refl, subst, sym, ◌∙◌}
use Rattle.std.specs.Prelude.{IfSome, option_map}
use Rattle.fa_core_batches.proofs.batches.Batches.answer.Goals as goal

pub count_change-requires : goal.count_change-requires
count_change-requires g c =
    let old = c.args.self.now in
    let k = c.args.batch.0 in
    let n = c.args.page.0 in
    let pages = c.set_answer-was.new.pages.entries in
    subst (λ was. IfSome (list_at old.lists.entries k) (CanChange was Answered)) (sym c.set_answer-was.ensures.was)
    (can_change _ _ _ _ old.whole old.counted old.lists.entries pages k n Answered c.requires.there
    (states_from old.pages.entries pages k n Answered (with_answer c.args.buffer.now) (λ x. refl) c.set_answer-was.ensures.pages
    c.requires.there))

pub invariant_of-self : goal.invariant_of-self
invariant_of-self g c =
    let old = c.args.self.now in
    let k = c.args.batch.0 in
    let n = c.args.page.0 in
    let f = with_answer c.args.buffer.now in
    let was = c.set_answer-was.result in
    let pages = c.set_answer-was.new.pages.entries in
    let lists = c.count_change.new.lists.entries in
    record {
      whole = whole_recounted _ _ old.lists.entries pages
          (whole_at _ _ _ _ old.whole pages k n f (λ x long. c.requires.whole) c.set_answer-was.ensures.pages)
          lists (changed_at k was Answered) (same_pages_at k was Answered) (same_answers_at k was Answered)
          (same_room_at k was Answered) c.count_change.ensures;
      counted = changed_counted _ _ _ _ old.whole old.counted lists pages k n Answered c.requires.there
          (states_from old.pages.entries pages k n Answered f (λ x. refl) c.set_answer-was.ensures.pages c.requires.there)
          (λ b. c.count_change.ensures b
          ∙ (λ i. option_map (changed_at k (c.set_answer-was.ensures.was i) Answered b) (list_at old.lists.entries b)));
    }

pub returns-clause-answered : goal.returns-clause-answered
returns-clause-answered g c =
    let old = c.args.self.now in
    let k = c.args.batch.0 in
    let n = c.args.page.0 in
    let was = c.set_answer-was.result in
    let pages = c.set_answer-was.new.pages.entries in
    batches_recounted old.page_bytes old.next old.lists.entries pages
    (whole_at _ _ _ _ old.whole pages k n (with_answer c.args.buffer.now) (λ x long. c.requires.whole) c.set_answer-was.ensures.pages)
    c.count_change.new.lists.entries (changed_at k was Answered) (same_pages_at k was Answered) (same_answers_at k was Answered)
    (same_room_at k was Answered) c.count_change.ensures
    ∙ answered _ _ _ _ old.whole pages k n c.args.buffer.now c.requires.there c.set_answer-was.ensures.pages
