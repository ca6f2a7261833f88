use Rattle.std.proofs.Common.{◌∙◌, ap}
use Rattle.fa_shared_request.proofs.PartTallies.{pushed}
use Rattle.fa_shared_request.specs.PartCounts.{left_in}
use Rattle.fa_shared_request.specs.Tallies.{Tally, pages_in}
use Rattle.fa_shared_steps.specs.Tasks.{task_of}
use Rattle.fa_shared_request.proofs.parts.push_part.Goals as goal

pub returns-clause-left : goal.returns-clause-left
returns-clause-left g c =
    pushed left_in _ _ _ _ c.in_ok-push.ensures.items
    (ap (λ (t : Tally). t.left) (c.in_ok-op.ensures.tally 0) ∙ ap (λ r. pages_in (task_of c.args.page_bytes r)) c.within.ensures.within)
