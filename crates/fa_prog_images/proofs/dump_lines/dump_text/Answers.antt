use Rattle.std.proofs.Common.{◌++◌, List, ap, ◌∙◌}
use Rattle.std.specs.List.{flat_map}
use Rattle.fa_mount_scan.specs.Pages.{Written}
use Rattle.fa_prog_images.specs.Lines.{line_text}
use Rattle.fa_prog_images.proofs.DumpLines.{lines_of_written}
use Rattle.fa_prog_images.proofs.dump_lines.dump_text.Goals as goal

pub loop-page-init : goal.loop-page-init
loop-page-init g c =
    ap (λ bytes. bytes ++ flat_map line_text c.into_iter-page-iterator.result) c.new-out.ensures.bytes
    ∙ ap (λ (pages : List Written). flat_map line_text pages) (c.into_iter-page-iterator.ensures.into_iter_gives ∙ c.pages-page-items.ensures.written)
    ∙ lines_of_written (g.M.Map.view c.args.mounted.now.map)
