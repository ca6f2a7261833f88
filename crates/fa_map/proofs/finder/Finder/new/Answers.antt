use Rattle.std.proofs.Common.{ap, ◌∙◌}
use Rattle.std.specs.FinMap.{contains_key, get-empty}
use Rattle.std.specs.Ordering.{nat_cmp}
use Rattle.std.specs.Prelude.{is_some}
use Rattle.fa_machine.specs.Maps.{Numbers}
use Rattle.fa_map.proofs.finder.Finder.new.Goals as goal

pub returns-clause-none : goal.returns-clause-none
returns-clause-none g c = λ k. ap (λ (m : Numbers). contains_key m k) c.in_ok-clean.ensures.empty ∙ ap is_some (get-empty nat_cmp k)
