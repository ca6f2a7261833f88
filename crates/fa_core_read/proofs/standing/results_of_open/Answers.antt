use Rattle.fa_core_batches.specs.Batches.{batches_of}
use Rattle.fa_core_batches.specs.Pages.{opened}
use Rattle.fa_machine.specs.declared.answers.ReadState.TheVariants.{Ready, Torn, Waiting}
use Rattle.fa_core_read.proofs.Stands.{torn_in}
use Rattle.fa_core_read.proofs.standing.results_of_open.Goals as goal
use Rattle.std.proofs.Common.{sym, ◌∙◌}
use Rattle.std.specs.FinMap.{contains_key}
use Rattle.std.specs.List.{list_all}
use Rattle.std.specs.Prelude.{if◌then◌else◌, not, ◌||◌}

pub returns-then-has_torn : goal.returns-then-has_torn
returns-then-has_torn g c =
    let batch = opened (batches_of c.args.state.now.batches) c.args.batch.0 in
    let torn = torn_in g.M.Map.view c.args.state.now c.requires.fitted c.args.batch.0 c.requires.open
    ∙ sym c.has_torn.ensures ∙ c.if-has_torn.true in
    sym (λ i. if not (c.requires.open i) || torn i then Torn
    else (if list_all (λ page. contains_key batch.answers page) batch.pages then Ready else Waiting))

pub returns-then-are_answered : goal.returns-then-are_answered
returns-then-are_answered g c =
    let torn = torn_in g.M.Map.view c.args.state.now c.requires.fitted c.args.batch.0 c.requires.open
    ∙ sym c.has_torn.ensures ∙ c.if-has_torn.false in
    let all = sym c.are_answered.ensures ∙ c.if-are_answered.true in
    sym (λ i. if not (c.requires.open i) || torn i then Torn else (if all i then Ready else Waiting))

pub returns-else-are_answered : goal.returns-else-are_answered
returns-else-are_answered g c =
    let torn = torn_in g.M.Map.view c.args.state.now c.requires.fitted c.args.batch.0 c.requires.open
    ∙ sym c.has_torn.ensures ∙ c.if-has_torn.false in
    let all = sym c.are_answered.ensures ∙ c.if-are_answered.false in
    sym (λ i. if not (c.requires.open i) || torn i then Torn else (if all i then Ready else Waiting))
