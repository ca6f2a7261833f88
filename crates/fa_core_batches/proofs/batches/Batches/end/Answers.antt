use Rattle.fa_core_batches.proofs.Answered.{handed}
use Rattle.fa_core_batches.proofs.Counts.{ended_counted}
use Rattle.fa_core_batches.proofs.Kept.{gone_here, gone_others, left_others, left_states, whole_ended}
use Rattle.fa_core_batches.proofs.Opened.{batch_gone, open_at, opened_is}
use Rattle.fa_core_batches.specs.Pages.{answer_at, answers_in, numbers_of, page_at}
use Rattle.fa_machine.specs.Maps.{is_one_of}
use Rattle.fa_machine.specs.Reading.{answered as answered_of}
use Rattle.fa_machine.specs.Step.{is_distinct}
use Rattle.fa_types.specs.declared.numbers.Page.{Page}
use Rattle.std.proofs.Common.{List, None, ap, arith, length, map, sym, ℕ, ◌∙◌, ◌≡◌}
use Rattle.std.proofs.lemmas.Bool.{false≢true}
use Rattle.std.specs.Prelude.{if◌then◌else◌, is_some, ◌&&◌, ◌==◌}
use Rattle.fa_core_batches.proofs.batches.Batches.end.Goals as goal

pub unreachable-requires : goal.unreachable-requires
unreachable-requires g c =
    false≢true (sym (ap is_some (sym c.take_list.ensures.taken ∙ c.in_default.is))
    ∙ open_at c.args.self.now.lists.entries c.args.self.now.pages.entries c.args.batch.0 ∙ c.requires)

pub hand_out-requires-clause-distinct : goal.hand_out-requires-clause-distinct
hand_out-requires-clause-distinct g c =
    ap (λ (ps : List Page). is_distinct (map (λ (page : Page). page.0) ps)) c.deref.ensures.value
    ∙ (c.args.self.now.whole.listed c.args.batch.0 c.in-Some.list (sym c.take_list.ensures.taken ∙ c.in-Some.is)).distinct

pub hand_out-requires-clause-room : goal.hand_out-requires-clause-room
hand_out-requires-clause-room g c =
    let listed = c.args.self.now.whole.listed c.args.batch.0 c.in-Some.list (sym c.take_list.ensures.taken ∙ c.in-Some.is) in
    let fits = listed.fits in
    let room = listed.room in
    let long = ap {B = ℕ} (λ (ps : List Page). length ps) c.deref.ensures.value in
    omega (arith, fits, room, long)

pub hand_out-requires-clause-none : goal.hand_out-requires-clause-none
hand_out-requires-clause-none g c =
    (c.args.self.now.whole.listed c.args.batch.0 c.in-Some.list (sym c.take_list.ensures.taken ∙ c.in-Some.is)).none

pub invariant_of-self : goal.invariant_of-self
invariant_of-self g c =
    let old = c.args.self.now in
    let k = c.args.batch.0 in
    let was = sym c.take_list.ensures.taken ∙ c.in-Some.is in
    let left : (b p : ℕ) → page_at c.hand_out.new.pages.entries b p
    ≡ (if b == k && is_one_of (numbers_of c.in-Some.list) p then None else page_at old.pages.entries b p)
    = λ b p. c.hand_out.ensures.left b p
    ∙ ap (λ (ps : List Page). if b == k && is_one_of (map (λ (page : Page). page.0) ps) p then None
    else page_at old.pages.entries b p) c.deref.ensures.value in
    record {
      whole = whole_ended old.page_bytes old.next old.lists.entries old.pages.entries old.whole c.take_list.new.lists.entries
          c.hand_out.new.pages.entries k c.in-Some.list was c.take_list.ensures.left left;
      counted = ended_counted _ _ _ _ old.whole old.counted c.take_list.new.lists.entries c.hand_out.new.pages.entries k
          (gone_here old.page_bytes old.next old.lists.entries old.pages.entries old.whole c.take_list.new.lists.entries
          c.hand_out.new.pages.entries k c.in-Some.list was c.take_list.ensures.left left)
          (gone_others old.page_bytes old.next old.lists.entries old.pages.entries old.whole c.take_list.new.lists.entries
          c.hand_out.new.pages.entries k c.in-Some.list was c.take_list.ensures.left left)
          (left_others old.page_bytes old.next old.lists.entries old.pages.entries old.whole c.take_list.new.lists.entries
          c.hand_out.new.pages.entries k c.in-Some.list was c.take_list.ensures.left left);
    }

pub returns-clause-answers : goal.returns-clause-answers
returns-clause-answers g c =
    let old = c.args.self.now in
    let k = c.args.batch.0 in
    let list = c.in-Some.list in
    c.hand_out.ensures.answers
    ∙ ap (λ (ps : List Page). answers_in old.pages.entries k (map (λ (page : Page). page.0) ps)) c.deref.ensures.value
    ∙ handed (answer_at old.pages.entries k) (numbers_of list)
    ∙ sym (ap answered_of (opened_is old.lists.entries old.pages.entries k list (sym c.take_list.ensures.taken ∙ c.in-Some.is)))

pub returns-clause-ended : goal.returns-clause-ended
returns-clause-ended g c =
    let old = c.args.self.now in
    let k = c.args.batch.0 in
    let was = sym c.take_list.ensures.taken ∙ c.in-Some.is in
    let left : (b p : ℕ) → page_at c.hand_out.new.pages.entries b p
    ≡ (if b == k && is_one_of (numbers_of c.in-Some.list) p then None else page_at old.pages.entries b p)
    = λ b p. c.hand_out.ensures.left b p
    ∙ ap (λ (ps : List Page). if b == k && is_one_of (map (λ (page : Page). page.0) ps) p then None
    else page_at old.pages.entries b p) c.deref.ensures.value in
    batch_gone old.lists.entries c.take_list.new.lists.entries old.pages.entries c.hand_out.new.pages.entries k
    (gone_others old.page_bytes old.next old.lists.entries old.pages.entries old.whole c.take_list.new.lists.entries
    c.hand_out.new.pages.entries k c.in-Some.list was c.take_list.ensures.left left)
    (left_others old.page_bytes old.next old.lists.entries old.pages.entries old.whole c.take_list.new.lists.entries
    c.hand_out.new.pages.entries k c.in-Some.list was c.take_list.ensures.left left)
    (gone_here old.page_bytes old.next old.lists.entries old.pages.entries old.whole c.take_list.new.lists.entries
    c.hand_out.new.pages.entries k c.in-Some.list was c.take_list.ensures.left left)

pub returns-clause-states : goal.returns-clause-states
returns-clause-states g c =
    let old = c.args.self.now in
    let k = c.args.batch.0 in
    left_states old.page_bytes old.next old.lists.entries old.pages.entries old.whole c.take_list.new.lists.entries
    c.hand_out.new.pages.entries k c.in-Some.list (sym c.take_list.ensures.taken ∙ c.in-Some.is) c.take_list.ensures.left
    (λ b p. c.hand_out.ensures.left b p
    ∙ ap (λ (ps : List Page). if b == k && is_one_of (map (λ (page : Page). page.0) ps) p then None
    else page_at old.pages.entries b p) c.deref.ensures.value)
