use Rattle.std.proofs.Common.{◌-◌, ◌<◌}
use Rattle.std.proofs.lemmas.List.Elements.{recursion_from_All}
use Rattle.fa_types.specs.Open.{max_closed}
use Rattle.fa_closed.specs.declared.closed.Run.{Run}
use Rattle.fa_closed.proofs.Covered.{few_soon}
use Rattle.fa_closed.proofs.closed.end_soon.Goals as goal

pub returns-clause-few : goal.returns-clause-few
returns-clause-few c = λ yes.
    few_soon max_closed c.args.now.0 c.args.runs.now (recursion_from_All (λ (run : Run). run.last.0 - c.args.now.0 < max_closed) c.args.runs.now (c.each_ends_soon.ensures.0 yes))
