use Rattle.std.proofs.Common.{ap, ◌∙◌}
use Rattle.fa_image.specs.Image.{ImageState, Erasing, accepted}
use Rattle.fa_mount_headers.proofs.Erasing.{erased_more}
use Rattle.fa_mount_headers.proofs.formatting.erase_all.Goals as goal

pub loop-block-preserved : goal.loop-block-preserved
loop-block-preserved g c =
    let view = g.I.Image.view in
    let block = c.loop-block.block in
    let met = g.met.I.Image.meets _ _ _ _ (c.in_ok-erase_block.ensures.done) in record {
      erased = met.leads ∙ ap (λ (s : ImageState). accepted (Erasing block) s) c.loop-block.invariant.erased ∙ erased_more block (view c.args.image.now);
      honest = met.honest ∙ c.loop-block.invariant.honest;
    }
