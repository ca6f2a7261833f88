use Rattle.std.proofs.Common.{ap, ◌∙◌}
use Rattle.std.specs.FinMap.{contains_key, get-empty}
use Rattle.std.specs.Ordering.{nat_cmp}
use Rattle.std.specs.Prelude.{is_some}
use Rattle.fa_machine.specs.Maps.{Numbers}
use Rattle.fa_map.proofs.few_copies.FewCopies.new.Goals as goal

pub returns : goal.returns
returns g c = record {
  bound = c.in_ok-one.ensures.bound;
  ones = λ page fits. ap (λ (m : Numbers). contains_key m page) c.in_ok-one.ensures.empty ∙ ap is_some (get-empty nat_cmp page);
  twos = λ page fits. ap (λ (m : Numbers). contains_key m page) c.in_ok-two.ensures.empty ∙ ap is_some (get-empty nat_cmp page);
}
