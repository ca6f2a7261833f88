use Rattle.std.proofs.Common.{◌<◌, ◌≤◌, length, subst, arith, rules}
use Rattle.std.proofs.lemmas.List.{get_or_read}
use Rattle.fa_plan_search.specs.Reading.{no_die}
use Rattle.fa_plan_search.specs.Search.{HasFound}
use Rattle.fa_plan.proofs.Handing.{given_more, handed}
use Rattle.fa_plan.proofs.giving.give.Goals as goal

pub hand_on-preserved : goal.hand_on-preserved
hand_on-preserved g c =
    let below : c.hand_on.page < length c.hand_on.given.items = omega arith in
    handed c.args.batch.now c.args.given.now.items c.search.new.walk c.in-Some.free.0 c.hand_on.given.items c.hand_on.die c.hand_on.page c.hand_on.invariant below c.index-left.result.now
    (get_or_read c.hand_on.given.items c.hand_on.page c.index-left.result.now below c.index-left.ensures no_die)

pub returns-clause-given : goal.returns-clause-given
returns-clause-given g c = λ so.
    let past : length c.hand_on.given.items ≤ c.hand_on.page = omega arith in
    given_more c.args.batch.now c.args.given.now.items c.search.new.walk c.in-Some.free.0 c.hand_on.given.items c.hand_on.die c.hand_on.page c.hand_on.invariant past
    c.args.tables.now c.requires.given c.requires.next (search rules) (subst (λ v. HasFound v c.args.tables.now.open_counts c.search.new.walk c.in-Some.free.0) c.as_slice.ensures.value c.in-Some.ensures.found) c.push.new.self.items c.in_ok-push.ensures.items
