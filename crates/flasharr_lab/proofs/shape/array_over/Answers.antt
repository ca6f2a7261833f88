use Rattle.fa_machine.specs.declared.places.Version.{Version}
use Rattle.std.proofs.Common.{ap, sym, ◌∙◌}
use Rattle.std.proofs.lemmas.Bool.{false≢true}
use Rattle.std.specs.FinMap.{FinMap, get, get-empty}
use Rattle.std.specs.Ordering.{nat_cmp}
use Rattle.std.specs.Prelude.{is_some}
use Rattle.flasharr_lab.proofs.shape.array_over.Goals as goal

pub new-requires-clause-numbers : goal.new-requires-clause-numbers
new-requires-clause-numbers g c page version is =
    let none = ap (λ (m : FinMap nat_cmp Version). get m page) (c.bring_all_in.ensures.versions ∙ c.requires.unwritten)
    ∙ get-empty nat_cmp page in
    absurd (false≢true (ap is_some (sym none ∙ is)))
