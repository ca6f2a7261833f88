use Rattle.std.proofs.Common.{◌∙◌, ap}
use Rattle.std.specs.List.{sum_by}
use Rattle.fa_shared_request.proofs.PartTallies.{if_ok, made_parts}
use Rattle.fa_shared_request.specs.PartCounts.{left_in, refusals_in}
use Rattle.fa_shared_request.specs.Tallies.{pages_in}
use Rattle.fa_shared_steps.specs.Tasks.{task_of}
use Rattle.fa_shared_store.proofs.parts.run_parts.Goals as goal

pub returns : goal.returns
returns g c =
    made_parts _ _ c.as_mut_slice.result.now c.finish_parts.new.parts _ _
    (ap (sum_by left_in) c.as_mut_slice.ensures.value
    ∙ (c.in-Ok.ensures.left ∙ ap (λ n. pages_in (task_of n c.args.request)) c.from.ensures))
    (ap (sum_by refusals_in) c.as_mut_slice.ensures.value ∙ c.in-Ok.ensures.begun)
    c.finish_parts.ensures.goes_on c.finish_parts.ensures.ended
    (if_ok c.finish_parts.result _ c.finish_parts.ensures.well)
