use Rattle.fa_core_batches.proofs.Counts.{added_counted}
use Rattle.fa_core_batches.proofs.Kept.{none_before, whole_added}
use Rattle.fa_core_batches.proofs.Opened.{has_list}
use Rattle.fa_core_batches.proofs.Recounted.{few_counted}
use Rattle.fa_core_batches.proofs.Written.{added}
use Rattle.fa_core_batches.specs.Counted.{AreCounted, is_open, state_at}
use Rattle.fa_core_batches.specs.Pages.{answer_in, is_torn, list_at, room_in}
use Rattle.fa_core_batches.specs.Whole.{IsOneLonger, IsWhole}
use Rattle.fa_core_batches.specs.declared.page.BatchList.{BatchList}
use Rattle.fa_core_batches.specs.declared.page.BatchPage.{BatchPage}
use Rattle.std.proofs.Common.{List, None, Option, Some, ap, arith, length, rules, subst, sym, ℕ, ◌<◌, ◌∙◌, ◌≡◌, ◌≤◌}
use Rattle.std.proofs.lemmas.Bool.{ne_eqb}
use Rattle.std.specs.Option.{option_map_or}
use Rattle.std.specs.Prelude.{if◌then◌else◌, replicate, vec_capacity}
use Rattle.fa_core_batches.proofs.batches.Batches.add.Goals as goal
use Rattle.fa_core_batches.proofs.batches.Batches.add.Goals.{then-answered, else-answered}

pub push_page-requires-clause-few : goal.push_page-requires-clause-few
push_page-requires-clause-few g c =
    let old = c.args.self.now in
    let k = c.args.batch.0 in
    let l = has_list old.lists.entries old.pages.entries k c.requires.open in
    let torn = (old.counted k l.0 l.1).torn in
    let few = few_counted is_torn (state_at old.pages.entries k) l.0 in
    subst (λ (o : Option (BatchList g.row.A.Denot)). option_map_or (λ (list : BatchList g.row.A.Denot). list.torn) o 0
    ≤ option_map_or (λ (list : BatchList g.row.A.Denot). length list.pages.items) o 0) (sym l.1) (omega (arith, torn, few))

pub push_page-requires-clause-open : goal.push_page-requires-clause-open
push_page-requires-clause-open g c =
    let old = c.args.self.now in
    let k = c.args.batch.0 in
    let l = has_list old.lists.entries old.pages.entries k c.requires.open in
    let unanswered = (old.counted k l.0 l.1).unanswered in
    let few = few_counted is_open (state_at old.pages.entries k) l.0 in
    subst (λ (o : Option (BatchList g.row.A.Denot)). option_map_or (λ (list : BatchList g.row.A.Denot). list.unanswered) o 0
    ≤ option_map_or (λ (list : BatchList g.row.A.Denot). length list.pages.items) o 0) (sym l.1) (omega (arith, unanswered, few))

pub push_page-requires-clause-wide : goal.push_page-requires-clause-wide
push_page-requires-clause-wide g c =
    let old = c.args.self.now in
    let k = c.args.batch.0 in
    let l = has_list old.lists.entries old.pages.entries k c.requires.open in
    subst (λ (o : Option (BatchList g.row.A.Denot)). option_map_or (λ (list : BatchList g.row.A.Denot). list.room) o 0
    ≤ option_map_or (λ (list : BatchList g.row.A.Denot). vec_capacity list.pages) o 0) (sym l.1) (old.whole.listed k l.0 l.1).wide

pub invariant_of-self-in-Break-branch-2 : goal.invariant_of-self-in-Break-branch-2
invariant_of-self-in-Break-branch-2 g c =
    let old = c.args.self.now in
    let same : old.pages.entries ≡ c.insert_page.new.pages.entries = search rules in
    record {
      whole = subst (IsWhole old.page_bytes old.next old.lists.entries) same old.whole;
      counted = subst (AreCounted old.lists.entries) same old.counted;
    }

pub invariant_of-self-2 : goal.invariant_of-self-2
invariant_of-self-2 g c =
    let old = c.args.self.now in
    let k = c.args.batch.0 in
    let now = list_at c.push_page.new.lists.entries k in
    let l = has_list old.lists.entries old.pages.entries k c.requires.open in
    let more = subst (λ o. IsOneLonger c.args.page c.if-answered.state o now) l.1 c.push_page.ensures.longer in
    let entry : BatchPage g.row.A.Denot = record { state = c.if-answered.state; buffer = c.in_ok-buffer.buffer } in
    let spare : 0 < room_in l.0 = subst (λ o. 0 < option_map_or (λ list. room_in list) o 0) l.1 c.requires.room in
    record {
      whole = whole_added old.page_bytes old.next old.lists.entries old.pages.entries old.whole c.push_page.new.lists.entries
          c.insert_page.new.pages.entries k c.args.page entry l.0 more.0 l.1 more.1 more.2 more.3 more.4 more.5 (omega (arith, spare))
          (λ b apart. c.push_page.ensures.others b (ne_eqb b k apart)) (none_before _ _ c.requires.other) (search rules)
          c.in_ok-insert_page.ensures.ok;
      counted = added_counted old.page_bytes old.next old.lists.entries old.pages.entries old.whole old.counted
          c.push_page.new.lists.entries c.insert_page.new.pages.entries k c.args.page entry l.0 more.0 l.1 more.1 more.2 more.6 more.7
          (λ b apart. c.push_page.ensures.others b (ne_eqb b k apart)) (none_before _ _ c.requires.other)
          c.in_ok-insert_page.ensures.ok;
    }

pub returns-clause-added : goal.returns-clause-added
returns-clause-added g c =
    let old = c.args.self.now in
    let k = c.args.batch.0 in
    let now = list_at c.push_page.new.lists.entries k in
    let l = has_list old.lists.entries old.pages.entries k c.requires.open in
    let more = subst (λ o. IsOneLonger c.args.page c.if-answered.state o now) l.1 c.push_page.ensures.longer in
    let entry : BatchPage g.row.A.Denot = record { state = c.if-answered.state; buffer = c.in_ok-buffer.buffer } in
    let zeros : List ℕ = replicate old.page_bytes 0 in
    let state : answer_in c.if-answered.state c.in_ok-buffer.buffer.items ≡ (if c.args.answered then Some zeros else None)
    = elim c.if-answered.branch [
      | then-answered w ↦
          ap (λ s. answer_in s c.in_ok-buffer.buffer.items) w.state-is ∙ ap Some (search rules)
          ∙ sym (ap (λ b. if b then Some zeros else None) w.if-answered.true)
      | else-answered w ↦
          ap (λ s. answer_in s c.in_ok-buffer.buffer.items) w.state-is ∙ sym (ap (λ b. if b then Some zeros else None) w.if-answered.false)
    ] in
    added old.page_bytes old.next old.lists.entries old.pages.entries old.whole c.push_page.new.lists.entries
    c.insert_page.new.pages.entries k c.args.page entry l.0 more.0 l.1 more.1 more.2
    (λ b apart. c.push_page.ensures.others b (ne_eqb b k apart)) (none_before _ _ c.requires.other) c.in_ok-insert_page.ensures.ok
    c.args.answered zeros state
