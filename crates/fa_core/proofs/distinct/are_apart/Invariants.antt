use Rattle.fa_machine.specs.Step.{is_distinct}
use Rattle.fa_types.specs.declared.numbers.Page.{Page}
use Rattle.std.proofs.Common.{◌≡◌, drop, map}
use Rattle.fa_core.proofs.distinct.are_apart.Given as goal

abbrev pub invariant-loop-i : goal.invariant-loop-i
invariant-loop-i l =
    is_distinct (map (λ (page : Page). page.0) l.pages) ≡ is_distinct (map (λ (page : Page). page.0) (drop l.i l.pages))
