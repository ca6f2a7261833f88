use Rattle.std.proofs.Common.{◌≡◌, ◌++◌, take}
use Rattle.std.specs.List.{flat_map}
use Rattle.fa_shared_steps.specs.Ranges.{part_of}
use Rattle.fa_shared_request.proofs.gathering.gather.Given as goal

-- the parts of the pages so far were added
abbrev pub invariant-loop-page : goal.invariant-loop-page
invariant-loop-page g l =
    l.out.items ≡ l.initial.out.items ++ flat_map (λ e. part_of l.range e.0.0 e.1.items) (take l.page-index l.answers)
