use Rattle.fa_core_batches.proofs.Placed.{eqb_swap}
use Rattle.fa_core_batches.specs.Pages.{list_at}
use Rattle.fa_core_batches.specs.Whole.{IsOneLonger}
use Rattle.fa_core_batches.specs.declared.page.BatchList.{BatchList}
use Rattle.std.proofs.Common.{refl, rules, subst, ◌+◌, ◌∙◌}
use Rattle.fa_core_batches.proofs.lists.push_page.Goals as goal

pub returns-in-Some-clause-others : goal.returns-in-Some-clause-others
returns-in-Some-clause-others g c b apart =
    ((c.get_mut.follows.holds _).3 (search rules)).2 b (eqb_swap c.args.batch.0 b ∙ apart)

pub returns-in-Some-clause-longer : goal.returns-in-Some-clause-longer
returns-in-Some-clause-longer g c =
    let list : BatchList g.row.A.Denot = record {
      pages = c.push_reserved.new.self;
      answers = c.in-Some.list.now.answers;
      room = c.in-Some.list.now.room;
      torn = c.in-Some.list.now.torn + c.from.result;
      unanswered = c.in-Some.list.now.unanswered + c.from-in-Some.result;
    } in
    subst (λ o. IsOneLonger c.args.page c.args.state o (list_at (c.get_mut.follows.lender list).entries c.args.batch.0)) c.in-Some.ensures.value (
      list,
      ((c.get_mut.follows.holds list).3 (search rules)).1,
      c.push_reserved.ensures.items,
      c.push_reserved.ensures.capacity,
      refl,
      refl,
      search rules,
      search rules,
    )
