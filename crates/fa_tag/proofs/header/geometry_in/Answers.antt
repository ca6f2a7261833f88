-- The six numbers are those of the header's geometry, and `Geometry::new` takes them.
use Rattle.std.proofs.Common.{◌∙◌}
use Rattle.fa_tag.proofs.Headers.{reads_spelled, geometry_found}
use Rattle.fa_tag.proofs.header.geometry_in.Goals as goal

pub returns : goal.returns
returns c header spells =
    let reads = reads_spelled c.args.bytes.now header spells in
    c.ok.ensures.value
    ∙ geometry_found header.geometry c.u32_at-dies.result c.u32_at-spares.result c.u32_at-blocks.result c.u32_at-slots.result c.u32_at-page_bytes.result c.u64_at-pages.result
    (c.u32_at-dies.ensures ∙ reads.dies) (c.u32_at-spares.ensures ∙ reads.spares) (c.u32_at-blocks.ensures ∙ reads.blocks) (c.u32_at-slots.ensures ∙ reads.slots)
    (c.u32_at-page_bytes.ensures ∙ reads.page_bytes) (c.u64_at-pages.ensures ∙ reads.pages)
    c.new.result c.new.ensures.numbers c.new.ensures.fault
