use Rattle.std.proofs.Common.{◌∙◌, ◌+◌, ◌-◌, ◌^◌, ap, arith}
use Rattle.std.specs.Prelude.{min}
use Rattle.fa_shared_request.proofs.Tiles.{moved_edge, next_part, tiles_on, whole_from}
use Rattle.fa_shared_request.proofs.parts.parts_of.Goals as goal

pub loop-preserved : goal.loop-preserved
loop-preserved g c =
    let end = c.extent-offset.result.0 + c.extent-offset.result.1 in
    let edge =
    moved_edge c.args.page_bytes end c.loop.edge c.saturating_mul-step.result (2 ^ 64 - 1) _ _
    (omega (arith, c.requires.inside, c.extent-offset.ensures.end)) c.loop.invariant.edge c.saturating_mul-step.ensures
    c.saturating_add-edge.ensures in
    record {
      within = omega (arith, c.min-to.ensures);
      edge = edge;
      left =
          tiles_on _ _ _ _ _ _ c.in_ok-push_part.ensures.left
          (next_part c.args.page_bytes c.args.request c.loop.from c.min-to.result end c.saturating_add-edge.result c.requires.some
          c.loop.invariant.within (c.min-to.ensures ∙ ap (min end) c.max.ensures) edge) c.loop.invariant.left;
      begun = c.in_ok-push_part.ensures.begun ∙ c.loop.invariant.begun;
    }

pub returns-clause-left : goal.returns-clause-left
returns-clause-left g c =
    let end = c.extent-offset.result.0 + c.extent-offset.result.1 in
    c.in_ok-push_part-2.ensures.left
    ∙ (c.loop.invariant.left
    ∙ whole_from c.args.page_bytes c.args.request c.extent-offset.result.0 end c.extent-offset.ensures.begin c.extent-offset.ensures.end)
